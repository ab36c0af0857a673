-- What is told of the program that a layout holds. Assumes nothing.
use Rattle.std.proofs.Common.{◌≡◌, ℕ, ◌+◌, ◌<◌, ◌≤◌, min, ltb, [], ◌∷◌, ◌++◌, length, get_or, drop, vec_items, vec_len, sym, ap, ◌∙◌, subst, append-nil, arith}
use Rattle.std.proofs.lemmas.Bool.Decides.{nat_tests}
use Rattle.std.proofs.lemmas.List.{drop_more}
use Rattle.model.specs.declared.node.Node.{Node}
use Rattle.model.specs.declared.table.Table.{Table}
use Rattle.model.specs.Limits.{most_unrolled}
use Rattle.model.specs.Syntax.{one, solid}
use Rattle.model.specs.Nodes.{flatten}
use Rattle.model.specs.Tables.{held}
use Rattle.model.proofs.Holding.{program_nodes}
use Rattle.model.proofs.Readable.{length_flatten, some_node}
use Rattle.program.specs.declared.layout.Layout.{Layout}
use Rattle.program.specs.Measures.{Tells, cap, measure, nothing}
use Rattle.program.proofs.Told.{tells}

pub stands : (t : Table) → vec_items t.nodes ≡ flatten (held t) ++ []
stands t = sym (program_nodes (vec_items t.nodes) t.program) ∙ sym (append-nil (flatten (held t)))

pub some_nodes : (t : Table) → 0 < length (vec_items t.nodes)
some_nodes t = omega (arith, some_node (held t), length_flatten (held t), ap length (program_nodes (vec_items t.nodes) t.program))

pub few_nodes : (l : Layout) → length (vec_items l.table.nodes) ≤ 640
few_nodes l = omega (arith, l.table.few, l.table.nodes.ok.0)

-- the node at a place stands in front of those behind it
pub stands_at : (l : Layout) (place : ℕ) (n : Node) → place < vec_len l.table.nodes → n ≡ get_or (vec_items l.table.nodes) place n → drop place (vec_items l.table.nodes) ≡ n ∷ drop (place + 1) (vec_items l.table.nodes)
stands_at l place n within is = drop_more (vec_items l.table.nodes) place n (omega (arith, l.table.nodes.ok.0)) ∙ ap (λ x. x ∷ drop (place + 1) (vec_items l.table.nodes)) (sym is)

pub tells_layout : (l : Layout) → Tells (vec_items l.table.nodes) (vec_items l.measures)
tells_layout l = subst (Tells (vec_items l.table.nodes)) (sym l.told) (tells (vec_items l.table.nodes))

pub tells_whole : (l : Layout) → get_or (vec_items l.measures) 0 nothing ≡ measure (held l.table)
tells_whole l = tells_layout l 0 (one solid) (held l.table) [] (stands l.table)

-- a number that is cut off at the cap is past the limit if the number is
pub past_cap : (w : ℕ) → ltb most_unrolled (min w cap) ≡ ltb most_unrolled w
past_cap w = grind (arith, nat_tests)
