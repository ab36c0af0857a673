use Rattle.std.proofs.Common.{◌≡◌, false, ◌∷◌, refl, ap, ◌∙◌, arith, rules}
use Rattle.model.specs.Grammar.{elements, moved, run}
use Rattle.model.specs.declared.word.Word.TheVariants as w
use Rattle.model.specs.declared.word.Mark.TheVariants.{Open, Close}
use Rattle.model.specs.Syntax as S
use Rattle.model.specs.Tokens.{word, mark}
use Rattle.model.specs.Feed.{said}
use Rattle.text.specs.Reading.{closes}
use Rattle.text.specs.Building.{count, left}
use Rattle.text.specs.Forms.{kind_of, solid_word, Gives}
use Rattle.text.specs.Lexer.{ahead, token_of}
use Rattle.text.proofs.Ways.{none_read, also_read, one_read, node_read, more_read, listed_read, one_more, closing_mark}
use Rattle.text.proofs.reader.Reader.+reading.Goals as goal

pub inside_solid-returns-in_ok-mark-in-Primitive-clause-read : goal.inside_solid-returns-in_ok-mark-in-Primitive-clause-read
inside_solid-returns-in_ok-mark-in-Primitive-clause-read t c =
    let q : mark Open ∷ said (left c.args.self.now) ≡ mark Open ∷ word (w.Prim) ∷ said (ahead c.take.new.self) = search rules in
    let k = c.in_ok-kind-in-Primitive.ensures.took in
    let v = c.in_ok-sizes-in-Primitive.ensures.took in
    node_read (S.prim c.in_ok-kind-in-Primitive.kind c.in_ok-sizes-in-Primitive.sizes) (cc) (search rules) (none_read refl) c.in_ok-mark-in-Primitive.ensures.took

pub inside_solid-returns-in_ok-mark-in-Place-clause-read : goal.inside_solid-returns-in_ok-mark-in-Place-clause-read
inside_solid-returns-in_ok-mark-in-Place-clause-read t c =
    let q : mark Open ∷ said (left c.args.self.now) ≡ mark Open ∷ word (solid_word c.in_ok-form.form) ∷ said (ahead c.take.new.self) = search rules in
    let f = ap solid_word c.in-Place.is in
    let v = c.in_ok-vector-in-Place.ensures.took in
    node_read (S.place c.in-Place.placement c.in_ok-vector-in-Place.vector) (cc) c.push-in-Place.ensures.items c.in_ok-element-in-Place.ensures.read c.in_ok-mark-in-Place.ensures.took

pub inside_solid-returns-in_ok-mark-in-Join-clause-read : goal.inside_solid-returns-in_ok-mark-in-Join-clause-read
inside_solid-returns-in_ok-mark-in-Join-clause-read t c =
    let q : mark Open ∷ said (left c.args.self.now) ≡ mark Open ∷ word (solid_word c.in_ok-form.form) ∷ said (ahead c.take.new.self) = search rules in
    let f = ap solid_word c.in-Join.is in
    node_read (S.join c.in-Join.operator) (cc) c.push-in-Join.ensures.items (one_read c.in_ok-element-in-Join.ensures.read c.in_ok-element-in-Join-2.ensures.read) c.in_ok-mark-in-Join.ensures.took

pub inside_solid-returns-in_ok-mark-in-Fold-clause-read : goal.inside_solid-returns-in_ok-mark-in-Fold-clause-read
inside_solid-returns-in_ok-mark-in-Fold-clause-read t c =
    let q : mark Open ∷ said (left c.args.self.now) ≡ mark Open ∷ word (w.Fold) ∷ said (ahead c.take.new.self) = search rules in
    let u = c.in_ok-union_word-in-Fold.ensures.took in
    node_read S.fold (cc) c.push-in-Fold.ensures.items c.in_ok-list-in-Fold.ensures.read c.in_ok-mark-in-Fold.ensures.took

pub inside_list-returns-in_ok-mark-in-Repeat-clause-read : goal.inside_list-returns-in_ok-mark-in-Repeat-clause-read
inside_list-returns-in_ok-mark-in-Repeat-clause-read t c =
    let q : mark Open ∷ said (left c.args.self.now) ≡ mark Open ∷ word (w.Repeat) ∷ said (ahead c.take.new.self) = search rules in
    let k = c.in_ok-count-in-Repeat.ensures.took in
    node_read (S.repeat c.in_ok-count-in-Repeat.count) (cc) (search rules) c.in_ok-element-in-Repeat.ensures.read c.in_ok-mark-in-Repeat.ensures.took

pub inside_list-returns-in_ok-mark-in-Tabulate-clause-read : goal.inside_list-returns-in_ok-mark-in-Tabulate-clause-read
inside_list-returns-in_ok-mark-in-Tabulate-clause-read t c =
    let q : mark Open ∷ said (left c.args.self.now) ≡ mark Open ∷ word (w.Tabulate) ∷ said (ahead c.take.new.self) = search rules in
    let k = c.in_ok-count-in-Tabulate.ensures.took in
    node_read (S.tab c.in_ok-count-in-Tabulate.count) (cc) (search rules) c.in_ok-element-in-Tabulate.ensures.read c.in_ok-mark-in-Tabulate.ensures.took

pub inside_list-returns-in_ok-mark-in-Concat-clause-read : goal.inside_list-returns-in_ok-mark-in-Concat-clause-read
inside_list-returns-in_ok-mark-in-Concat-clause-read t c =
    let q : mark Open ∷ said (left c.args.self.now) ≡ mark Open ∷ word (w.Concat) ∷ said (ahead c.take.new.self) = search rules in
    node_read S.concat (cc) c.push-in-Concat.ensures.items (one_read c.in_ok-list-in-Concat.ensures.read c.in_ok-list-in-Concat-2.ensures.read) c.in_ok-mark-in-Concat.ensures.took

pub elements-returns-then-is_close-clause-read : goal.elements-returns-then-is_close-clause-read
elements-returns-then-is_close-clause-read t c =
    let m = closing_mark (token_of c.in_ok-token.token) (search rules) in
    let q : said (left c.args.self.now) ≡ mark Close ∷ said (ahead c.take.new.self) = search rules in
    none_read q

pub elements-returns-clause-read : goal.elements-returns-clause-read
elements-returns-clause-read t c =
    more_read c.in_ok-count.count (also_read c.in_ok-token.ensures.takes.0 c.in_ok-element_from.ensures.read) c.in_ok-count.ensures.read

pub elements-returns-clause-goes : goal.elements-returns-clause-goes
elements-returns-clause-goes t c =
    let n : closes (token_of c.in_ok-token.token) ≡ false = search rules in
    λ gs. c.in_ok-token.ensures.takes.1 (elements (kind_of c.args.element) c.args.levels) gs (count c.args.self.now) ∙ ap (λ m. moved m (run (ahead c.take.new.self)) (count c.args.self.now) c.in_ok-token.token.span) (one_more (kind_of c.args.element) c.args.levels gs (token_of c.in_ok-token.token) n) ∙ c.in_ok-element_from.ensures.goes (elements (kind_of c.args.element) c.args.levels ∷ gs) ∙ c.in_ok-count.ensures.goes gs

pub inside_list-returns-in_ok-count-in-Elements-clause-read : goal.inside_list-returns-in_ok-count-in-Elements-clause-read
inside_list-returns-in_ok-count-in-Elements-clause-read t c =
    let q : mark Open ∷ said (left c.args.self.now) ≡ mark Open ∷ word (w.List) ∷ said (ahead c.take.new.self) = search rules in
    listed_read c.in_ok-count-in-Elements.count c.push-place.result (omega (arith, c.push-place.ensures.place, c.args.self.now.draft.now.nodes.ok.0)) (cc) c.push-place.ensures.items c.in_ok-count-in-Elements.ensures.read (search rules)

pub inside_list-returns-in_ok-mark-in-Map2-clause-read : goal.inside_list-returns-in_ok-mark-in-Map2-clause-read
inside_list-returns-in_ok-mark-in-Map2-clause-read t c =
    let q : mark Open ∷ said (left c.args.self.now) ≡ mark Open ∷ word (w.Map2) ∷ said (ahead c.take.new.self) = search rules in
    let p = c.in_ok-placement-in-Map2.ensures.took in
    let gives : Gives c.args.element c.in_ok-form.form = search rules in
    let k = ap kind_of (gives c.in-Map2.is) in
    rw k (node_read (S.map2 c.in_ok-placement-in-Map2.placement) (cc) c.push-in-Map2.ensures.items (one_read c.in_ok-list-in-Map2.ensures.read c.in_ok-list-in-Map2-2.ensures.read) c.in_ok-mark-in-Map2.ensures.took)

pub solid_from-returns-in-Word-Empty-clause-read : goal.solid_from-returns-in-Word-Empty-clause-read
solid_from-returns-in-Word-Empty-clause-read t c =
    let q : token_of c.args.token ≡ word w.Empty = search rules in
    node_read S.empty (cc) c.push.ensures.items (none_read refl) refl

pub solid_from-returns-clause-read : goal.solid_from-returns-clause-read
solid_from-returns-clause-read t c =
    let q : token_of c.args.token ≡ mark Open = search rules in
    rw q c.inside_solid.ensures.read

pub elements-overflow_add-result : goal.elements-overflow_add-result
elements-overflow_add-result t c = omega (arith, c.elements.new.self.lexer.within, c.elements.new.self.lexer.short, c.in_ok-count.ensures.count)
