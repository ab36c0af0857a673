-- What a table holds once a whole text was read. Assumes nothing.
use Rattle.std.proofs.Common.{Vec, vec_items, ◌≡◌, ℕ, ◌≤◌, true, List, [], ◌∷◌, ◌++◌, length, sym, ap, ◌∙◌, subst, append-nil, arith}
use Rattle.model.specs.Limits.{most_bytes}
use Rattle.model.specs.declared.node.Node.{Node}
use Rattle.model.specs.Syntax.{one, solid, Exprs, none, more, Solid, size}
use Rattle.model.specs.Nodes.{flatten, flattens}
use Rattle.model.specs.Held.{whole, program}
use Rattle.model.specs.Tokens.{tokens, row}
use Rattle.model.specs.Feed.{said}
use Rattle.model.specs.Grammar as grammar
use Rattle.model.specs.Texts.{feed_of, Accepts, outcome}
use Rattle.model.proofs.Readable.{length_flatten}
use Rattle.model.proofs.Holding.{whole_nodes, program_of}
use Rattle.model.proofs.Texts.{accepts, told, outcome_short}
use Rattle.text.specs.Reading.{Read}

-- the nodes are those of the program that the text says
pub record Loaded (text : List ℕ) (ns : List Node) : Type 0 where
  pub are_whole : whole ns ≡ true
  pub few : length ns ≤ 640
  pub outcome : outcome text ≡ grammar.whole (size (program ns))
  pub accepted : Accepts text (program ns)

loaded_as : (text : List ℕ) (ns : List Node) (n : ℕ) (e : Solid) → ns ≡ flatten e → said (feed_of text) ≡ tokens e → outcome text ≡ grammar.whole n → Loaded text ns
loaded_as text ns n e q says o =
    let a = accepts text n e o says in
    let p : program ns ≡ e = ap program q ∙ program_of e in
    record {
      are_whole = ap whole q ∙ whole_nodes e;
      few = let k : length ns ≡ size e = ap length q ∙ length_flatten e in omega (arith, a.small);
      outcome = told text e a ∙ ap (λ x. grammar.whole (size x)) (sym p);
      accepted = subst (Accepts text) (sym p) a;
    }

loaded : (text : List ℕ) (ns : List Node) (n : ℕ) → Read (one solid ∷ []) (said (feed_of text)) [] [] ns → length text ≤ most_bytes → grammar.judged (feed_of text) ≡ grammar.whole n → Loaded text ns
unfolding row flattens
loaded text ns n r short q = go r.which r.made r.text
  where
    go : (es : Exprs (one solid ∷ [])) → ns ≡ flattens es → said (feed_of text) ≡ row es ++ [] → Loaded text ns
    go (more e none) m t = loaded_as text ns n e (m ∙ append-nil (flatten e)) (t ∙ simp append-nil) (outcome_short text short ∙ q)

-- the same of a vector that took the nodes over
pub loaded_in : {Z : Type 0} (text : List ℕ) (n : ℕ) (v w : Vec Node Z) → w ≡ v → Read (one solid ∷ []) (said (feed_of text)) [] [] (vec_items v) → length text ≤ most_bytes → grammar.judged (feed_of text) ≡ grammar.whole n → Loaded text (vec_items w)
loaded_in text n v w same r short q = subst (λ x. Loaded text (vec_items x)) (sym same) (loaded text (vec_items v) n r short q)
