-- A part is laid out, and its program can be walked through. Assumes nothing.
use Rattle.std.proofs.Common.{◌≡◌, ◌≤◌, Bool, true, false, cond, ◌&&◌, [], ℤ, pos, negsuc, nat_abs, Some, Ok, Err, sym, ap, ◌∙◌, ap₂, append-nil, arith}
use Rattle.std.proofs.lemmas.Bool.{le-leb}
use Rattle.model.specs.declared.node.Triple.{Triple}
use Rattle.model.specs.Nodes.{flatten}
use Rattle.model.specs.Families.{Meaning}
use Rattle.model.specs.Shapes.{run}
use Rattle.model.specs.Syntax.{Solid, textual}
use Rattle.model.specs.Tables.{held}
use Rattle.model.specs.Unrolling.{unroll, belonging, contains}
use Rattle.model.proofs.Holding.{program_nodes}
use Rattle.model.proofs.Unrolled.{unrolled_values}
use Rattle.family.specs.Reaching.{near, in_reach}
use Rattle.program.specs.declared.layout.Layout.{Layout}
use Rattle.program.specs.declared.part.Part.{Part}
use Rattle.program.specs.Elements.{nodes_of, Begins}
use Rattle.probe.specs.declared.unprobed.Unprobed.TheVariants.{Far, OutOfReach}
use Rattle.probe.specs.Probing.{far, point, strays, answer}
use Rattle.probe.specs.Walking.{said, walking, asked, verdict}
use Rattle.probe.proofs.Bounds.{small}
use Rattle.probe.proofs.Terms.{term_is}
use Rattle.probe.proofs.Straying.{says_is, unrolled_strays, verdict_is}

-- a point that is not far is in reach
near_small : (v : ℤ) → nat_abs v ≤ 1000000 → near v ≡ true
near_small (pos n) h = le-leb n 1000000000 (omega arith)
near_small (negsuc n) h = λ i. le-leb n 999999999 (omega arith) i && true

pub near_point : (at : Triple) → far at ≡ false → in_reach (point at) ≡ true
near_point at e = let s = small 1000000 at e in λ i. near_small at.x s.x i && near_small at.y s.y i && near_small at.z s.z i && true

-- the program of a table begins at its first node
pub root : (l : Layout) → textual (held l.table) ≡ true → Begins (nodes_of l) 0 (held l.table)
root l plain = record { rest = []; stands = sym (program_nodes (nodes_of l) l.table.program) ∙ sym (append-nil (flatten (held l.table))); plain = plain }

-- the verdict of the walk is the answer
pub answers : (part : Part) (m : Meaning) (at : Triple) → far at ≡ false
    → verdict (said (nodes_of part.layout) (asked m) (record { term = record { place = 0; index = 0 }; spot = Some (point at) })) ≡ answer m (unroll (held part.layout.table)) at
unfolding answer
answers part m at e =
    let s = held part.layout.table in
    let p = point at in
    ap (λ (f : Solid). verdict ((run (walking (asked m)) f 0).says (Some p))) (term_is (nodes_of part.layout) 0 s (root part.layout part.orderless))
    ∙ ap verdict (says_is m s p part.tame)
    ∙ verdict_is (strays s p) (contains m s p)
    ∙ ap₂ (λ a b. cond a (Err OutOfReach) (Ok b)) (sym (unrolled_strays s p)) (sym (unrolled_values Bool belonging m.contains s p))
    ∙ sym (ap (λ b. cond b (Err Far) (cond (strays (unroll s) p) (Err OutOfReach) (Ok (contains m (unroll s) p)))) e)
