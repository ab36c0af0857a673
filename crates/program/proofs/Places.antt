-- Terms at the places of a layout. Assumes nothing.
use Rattle.std.proofs.Common.{◌≡◌, ℕ, ◌+◌, ◌-◌, ◌^◌, ◌<◌, ◌≤◌, min, List, ◌++◌, length, get_or, drop, vec_items, sym, refl, ap, ◌∙◌, arith, length-append, length-drop}
use Rattle.std.proofs.lemmas.List.{drop-drop, drop_at}
use Rattle.model.specs.declared.node.Node.{Node}
use Rattle.model.specs.Syntax.{Sort, Expr}
use Rattle.model.specs.Nodes.{flatten}
use Rattle.model.proofs.Readable.{length_flatten, some_node}
use Rattle.program.specs.declared.layout.Layout.{Layout}
use Rattle.program.specs.declared.measure.Measure.{Measure}
use Rattle.program.specs.Measures.{nothing}
use Rattle.program.proofs.Told.{tells}
use Rattle.program.proofs.Layouts.{few_nodes}
use Rattle.program.specs.Elements.{nodes_of, TellsHere}

pub told_at : (l : Layout) (place : ℕ) (ms : List Measure) → ms ≡ vec_items l.measures → TellsHere (nodes_of l) place (get_or ms place nothing)
told_at l place ms is s e rest stands = ap (λ x. get_or x place nothing) (is ∙ l.told) ∙ tells (nodes_of l) place s e rest stands

-- the nodes of an expression that stands at a place
pub span : (nodes : List Node) (place : ℕ) {s : Sort} (e : Expr s) (rest : List Node) → drop place nodes ≡ flatten e ++ rest
    → (0 < length (flatten e)) × (place + length (flatten e) ≤ length nodes)
span nodes place e rest stands =
    let some : 0 < length (flatten e) = omega (arith, some_node e, length_flatten e) in
    let long = ap length stands ∙ length-append (flatten e) rest in
    let cut = length-drop place nodes in
    (some, omega arith)

pub behind : (l : Layout) (place p : ℕ) (m : Measure) → TellsHere (nodes_of l) place m → p ≡ min (place + m.nodes) (2 ^ 64 - 1)
    → (s : Sort) (e : Expr s) (rest : List Node) → drop place (nodes_of l) ≡ flatten e ++ rest → drop p (nodes_of l) ≡ rest
behind l place p m told is s e rest stands =
    let long = span (nodes_of l) place e rest stands in
    let few = few_nodes l in
    let same : m.nodes ≡ length (flatten e) = ap (λ x. x.nodes) (told s e rest stands) ∙ sym (length_flatten e) in
    let at : p ≡ place + length (flatten e) = omega arith in
    ap (λ n. drop n (nodes_of l)) at ∙ sym (drop-drop (length (flatten e)) place (nodes_of l)) ∙ ap (drop (length (flatten e))) stands ∙ drop_at (flatten e) rest (length (flatten e)) refl
