-- A program and its tokens have the same small numbers; so a written text reads back, and what is read can be written. Assumes nothing.
use Rattle.std.proofs.Common.{◌≡◌, ℕ, zero, suc, ◌+◌, ◌-◌, ◌<◌, List, [], ◌∷◌, ◌++◌, length, sym, subst, arith}
use Rattle.std.specs.List.{AllByRecursion}
use Rattle.std.proofs.ByRecursion.{All-append}
use Rattle.model.specs.declared.node.Linear.{Linear}
use Rattle.model.specs.Syntax.{solid, Sort, one, Head, Expr, Exprs, node, none, more}
use Rattle.model.specs.Syntax as S
use Rattle.model.specs.Nodes.{node_of, flatten, flattens}
use Rattle.model.specs.Tokens.{bracket, opening, closing, tokens, row}
use Rattle.model.specs.Feed.{said}
use Rattle.model.specs.Lexing.{Step, got, bad, end, step_at, fed, feed, SmallToken}
use Rattle.model.specs.Spelling.{SevenLinear, SevenNode, SevenDigits}
use Rattle.model.specs.Written.{WrittenReads, ReadSmall}
use Rattle.model.proofs.Feeds.{step_ahead, feed_step, feed_small, Ahead}
use Rattle.model.proofs.Respelled.{lexes_back}
use Rattle.model.proofs.Spelled.{short_text}

all_split : {X : Type 0} (P : X → Type 0) (xs ys : List X) → AllByRecursion P (xs ++ ys) → AllByRecursion P xs × AllByRecursion P ys
all_split P [] ys h = (tt, h)
all_split P (x ∷ xs) ys h = let r = all_split P xs ys h.1 in ((h.0, r.0), r.1)

-- small numbers of a node are small numbers of its own tokens
small_bracket : (a : Linear) → SevenLinear a → AllByRecursion SmallToken (bracket a)
small_bracket a h = (tt, ((h.0, h.3), (tt, ((h.1, h.4), (tt, ((h.2, h.5), (tt, tt)))))))

small_opening : {s : Sort} (h : Head s) → SevenNode (node_of h) → AllByRecursion SmallToken (opening h)
small_opening S.empty k = (tt, tt)
small_opening (S.prim n a) k = (tt, (tt, ((k.0, omega arith), small_bracket a k.1)))
small_opening (S.place t a) k = (tt, (tt, small_bracket a k))
small_opening (S.join o) k = (tt, (tt, tt))
small_opening S.fold k = (tt, (tt, (tt, tt)))
small_opening (S.vec a) k = small_bracket a k
small_opening (S.list n) k = (tt, (tt, tt))
small_opening (S.repeat n) k = (tt, (tt, ((k, omega arith), tt)))
small_opening (S.tab n) k = (tt, (tt, (tt, (tt, ((k, omega arith), (tt, tt))))))
small_opening S.concat k = (tt, (tt, tt))
small_opening (S.sort n) k = (tt, (tt, tt))
small_opening (S.unsort n) k = (tt, (tt, tt))
small_opening (S.map2 t) k = (tt, (tt, (tt, tt)))
small_opening (S.number j) k = ((k, omega arith), tt)

small_closing : {s : Sort} (h : Head s) → AllByRecursion SmallToken (closing h)
small_closing S.empty = tt
small_closing (S.vec a) = tt
small_closing (S.number j) = tt
small_closing _ = (tt, tt)

mutual
  unfolding tokens row flatten flattens

  small_tokens : {s : Sort} (e : Expr s) → SevenDigits e → AllByRecursion SmallToken (tokens e)
  small_tokens (node h es) k =
      All-append SmallToken (opening h) (row es ++ closing h) (small_opening h k.0) (All-append SmallToken (row es) (closing h) (small_row es k.1) (small_closing h))

  small_row : {ss : List Sort} (es : Exprs ss) → AllByRecursion SevenNode (flattens es) → AllByRecursion SmallToken (row es)
  small_row none k = tt
  small_row (more e es) k =
      let p = all_split SevenNode (flatten e) (flattens es) k in
      All-append SmallToken (tokens e) (row es) (small_tokens e p.0) (small_row es p.1)

pub written_reads : WrittenReads
written_reads e orderless few shallow seven =
    let back = lexes_back (tokens e) (small_tokens e seven) in
    record { short = short_text (one solid) e few seven; clean = back.0; says = back.1; orderless = orderless; small = few; shallow = shallow }

-- and the other way
seven_bracket : (a : Linear) → AllByRecursion SmallToken (bracket a) → SevenLinear a
seven_bracket a h =
    let x = h.1.0 in
    let y = h.1.1.1.0 in
    let z = h.1.1.1.1.1.0 in
    (x.0, y.0, z.0, x.1, y.1, z.1)

seven_opening : {s : Sort} (h : Head s) → AllByRecursion SmallToken (opening h) → SevenNode (node_of h)
seven_opening (S.prim n a) k = (k.1.1.0.0, seven_bracket a k.1.1.1)
seven_opening (S.place t a) k = seven_bracket a k.1.1
seven_opening (S.vec a) k = seven_bracket a k
seven_opening (S.repeat n) k = k.1.1.0.0
seven_opening (S.tab n) k = k.1.1.1.1.0.0
seven_opening (S.number j) k = k.0.0
seven_opening _ k = tt

mutual
  unfolding tokens row flatten flattens

  seven_nodes : {s : Sort} (e : Expr s) → AllByRecursion SmallToken (tokens e) → SevenDigits e
  seven_nodes (node h es) k =
      let p = all_split SmallToken (opening h) (row es ++ closing h) k in
      (seven_opening h p.0, seven_row es (all_split SmallToken (row es) (closing h) p.1).0)

  seven_row : {ss : List Sort} (es : Exprs ss) → AllByRecursion SmallToken (row es) → AllByRecursion SevenNode (flattens es)
  seven_row none k = tt
  seven_row (more e es) k =
      let p = all_split SmallToken (tokens e) (row es) k in
      All-append SevenNode (flatten e) (flattens es) (seven_nodes e p.0) (seven_row es p.1)

-- each token of a text is small; n bounds the bytes that are left
small_said : (n : ℕ) (t : List ℕ) (i : ℕ) → length t - i < n → AllByRecursion SmallToken (said (feed t i))
small_said zero t i h = absurd (omega arith)
small_said (suc n) t i h = subst (λ f. AllByRecursion SmallToken (said f)) (sym (feed_step t i)) (go (step_at t i) (feed_step t i) (step_ahead t i) (small_said n t))
  where
    go : (x : Step) → feed t i ≡ fed x (feed t) → Ahead i (length t) x → ((j : ℕ) → length t - j < n → AllByRecursion SmallToken (said (feed t j))) → AllByRecursion SmallToken (said (fed x (feed t)))
    go (got x s) e a rest = (feed_small t i x s (feed t (s.at + s.len)) e, rest (s.at + s.len) (omega (arith, a.0, a.1)))
    go (bad s) e a rest = tt
    go (end b) e a rest = tt

pub read_small : ReadSmall
read_small text e a = seven_nodes e (subst (AllByRecursion SmallToken) a.says (small_said (suc (length text)) text 0 (omega arith)))
