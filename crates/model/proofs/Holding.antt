-- Reading the nodes of a program gives the program. Assumes nothing.
use Rattle.std.proofs.Common.{◌≡◌, Bool, true, List, [], ◌∷◌, ◌++◌, length, sym, refl, ap, ◌∙◌, ap₂, append_assoc, append-nil}
use mathlib.Core.Option.{Option, some}
use Rattle.model.specs.declared.node.Node.{Node}
use Rattle.model.specs.Syntax.{Sort, one, solid, Head, arity, Expr, Exprs, node, none, more, Solid, size}
use Rattle.model.specs.Nodes.{flatten, flattens}
use Rattle.model.specs.Held.{Headed, head_at, sorted_on, sorted, whole, fore, aft, only, read_on, read, program}
use Rattle.model.proofs.Readable.{headed, length_flatten}
use Rattle.model.proofs.Views.{reads_all}

cut_nodes : (as' ss : List Sort) (es : Exprs (as' ++ ss)) → flattens (fore as' ss es) ++ flattens (aft as' ss es) ≡ flattens es
unfolding flattens
cut_nodes [] ss es = refl
cut_nodes (a ∷ as') ss (more e es) = append_assoc (flatten e) (flattens (fore as' ss es)) (flattens (aft as' ss es)) ∙ ap (λ l. flatten e ++ l) (cut_nodes as' ss es)

only_nodes : {s : Sort} (es : Exprs (s ∷ [])) → flattens es ≡ flatten (only es)
unfolding flattens
only_nodes (more e none) = append-nil (flatten e)

one_head : (s : Sort) (ss : List Sort) (x : Node) (xs : List Node) (o : Option (Headed x s)) (b : Head s → Bool) (k : (h : Head s) → Exprs (arity h ++ ss))
    → ((h : Head s) → b h ≡ true → flattens (k h) ≡ xs) → sorted_on o b ≡ true → flattens (read_on s ss o k) ≡ x ∷ xs
unfolding flatten flattens
one_head s ss x xs Option.none b k f e = cc
one_head s ss x xs (some h) b k f e = ap₂ ◌∷◌ h.is (cut_nodes (arity h.head) ss (k h.head) ∙ f h.head e)

-- what is read has the nodes
read_nodes : (ss : List Sort) (ns : List Node) → sorted ss ns ≡ true → flattens (read ss ns) ≡ ns
unfolding flattens
read_nodes [] [] e = refl
read_nodes [] (x ∷ xs) e = cc
read_nodes (s ∷ ss) [] e = cc
read_nodes (s ∷ ss) (x ∷ xs) e = one_head s ss x xs (head_at x s) (λ h. sorted (arity h ++ ss) xs) (λ h. read (arity h ++ ss) xs) (λ h. read_nodes (arity h ++ ss) xs) e

pub program_nodes : (ns : List Node) → whole ns ≡ true → flatten (program ns) ≡ ns
unfolding whole program
program_nodes ns e = sym (only_nodes (read (one solid ∷ []) ns)) ∙ read_nodes (one solid ∷ []) ns e

-- a program has as many nodes as it is read from
pub size_program : (ns : List Node) → whole ns ≡ true → size (program ns) ≡ length ns
size_program ns e = sym (length_flatten (program ns)) ∙ ap length (program_nodes ns e)

-- and the nodes of expressions pass the test
mutual
  unfolding flatten flattens

  sorted_one : {s : Sort} (e : Expr s) (ss : List Sort) (r : List Node) → sorted (s ∷ ss) (flatten e ++ r) ≡ sorted ss r
  sorted_one (node {s} h es) ss r = ap (λ o. sorted_on o (λ g. sorted (arity g ++ ss) (flattens es ++ r))) (headed h) ∙ sorted_more es ss r

  sorted_more : {as' : List Sort} (es : Exprs as') (ss : List Sort) (r : List Node) → sorted (as' ++ ss) (flattens es ++ r) ≡ sorted ss r
  sorted_more none ss r = refl
  sorted_more (more {s = s} {ss = as'} e es) ss r = ap (sorted (s ∷ (as' ++ ss))) (append_assoc (flatten e) (flattens es) r) ∙ sorted_one e (as' ++ ss) (flattens es ++ r) ∙ sorted_more es ss r

pub whole_nodes : (e : Solid) → whole (flatten e) ≡ true
unfolding whole
whole_nodes e = ap (sorted (one solid ∷ [])) (sym (append-nil (flatten e))) ∙ sorted_one e [] []

pub program_of : (e : Solid) → program (flatten e) ≡ e
unfolding program whole flattens
program_of e = ap only (reads_all (read (one solid ∷ []) (flatten e)) (more e none) [] [] (ap (λ l. l ++ []) (read_nodes (one solid ∷ []) (flatten e) (whole_nodes e) ∙ sym (append-nil (flatten e))))).0
