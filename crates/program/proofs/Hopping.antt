-- Terms in a row. Assumes nothing.
use Rattle.std.proofs.Common.{◌≡◌, ℕ, zero, suc, List, ◌∷◌, ◌++◌, get_or, sym, ap, ◌∙◌, append_assoc, arith}
use Rattle.std.proofs.lemmas.Bool.{and_parts}
use Rattle.model.specs.declared.node.Node.{Node}
use Rattle.model.specs.Syntax.{Kind, one, Solid, more, textual, textuals}
use Rattle.model.specs.Nodes.{flatten, flattens}
use Rattle.model.specs.Shapes.{Val, row, idle, run, runs}
use Rattle.model.specs.Unrolling.{programs}
use Rattle.program.specs.declared.element.Term.{Term}
use Rattle.program.specs.Elements.{Comes, Follows, Hops}

pub comes_as : {nodes : List Node} {t : Term} {k : Kind} {x y : Val Solid k} → x ≡ y → Comes programs nodes t k x → Comes programs nodes t k y
comes_as e c = record { expr = c.expr; begins = c.begins; is = c.is ∙ e }

-- the first term
pub hop_none : (nodes : List Node) (t : Term) (j : ℕ) → j ≡ 0 → Hops programs nodes t j t
unfolding flattens textuals runs
hop_none nodes t j z k zero es rest stands plain lt = absurd (omega arith)
hop_none nodes t j z k (suc n) (more e es) rest stands plain lt =
    record {
      expr = e;
      begins = record { rest = flattens es ++ rest; stands = stands ∙ append_assoc (flatten e) (flattens es) rest; plain = (and_parts (textual e) (textuals es) plain).0 };
      is = ap (λ m. get_or (run programs e t.index ∷ row Solid k n (runs programs es t.index)) m (idle programs k)) (sym z);
    }

-- a later term, by the one after the first
pub hop_more : (nodes : List Node) (t u r : Term) (i j : ℕ) → j ≡ suc i → u.index ≡ t.index → Follows nodes t u → Hops programs nodes u i r → Hops programs nodes t j r
unfolding flattens textuals runs
hop_more nodes t u r i j is same after h k zero es rest stands plain lt = absurd (omega arith)
hop_more nodes t u r i j is same after h k (suc n) (more e es) rest stands plain lt =
    let x = run programs e t.index in
    let R : ℕ → List (Val Solid k) = λ m. row Solid k n (runs programs es m) in
    let later = after (one k) e (flattens es ++ rest) (stands ∙ append_assoc (flatten e) (flattens es) rest) in
    comes_as (ap (λ m. get_or (R m) i (idle programs k)) same ∙ ap (λ m. get_or (x ∷ R t.index) m (idle programs k)) (sym is))
    (h k n es rest later (and_parts (textual e) (textuals es) plain).1 (omega arith))
