-- What may stand next in a text, and the first place where a text goes wrong. Assumes nothing.
use Rattle.std.specs.Prelude.{ℕ, ◌+◌, ◌-◌, Bool, cond, ◌&&◌, List, [], ◌∷◌, ℤ, pos, negsuc, ◌==◌, nat_lt}
use Rattle.model.specs.Limits.{most_nodes, most_levels}
use Rattle.model.specs.declared.word.Word.{Word}
use Rattle.model.specs.declared.word.Word.TheVariants as w
use Rattle.model.specs.declared.word.Mark.{Mark}
use Rattle.model.specs.declared.word.Mark.TheVariants.{Open, Close, Left, Right, Comma}
use Rattle.model.specs.declared.refusal.Span.{Span}
use Rattle.model.specs.declared.refusal.Refusal.{Refusal}
use Rattle.model.specs.declared.refusal.Refusal.TheVariants.{NoToken, NoSolid, TooLarge}
use Rattle.model.specs.Syntax.{Kind, solid, vector}
use Rattle.model.specs.Tokens.{Token}
use Rattle.model.specs.Tokens as T
use Rattle.model.specs.Feed.{Feed, token, bad, end}

-- what is still to come: an element or a list with so many levels left, what follows its bracket,
-- the rest of a list's elements with its bracket, or a single token
pub data Goal : Type 0 where
  element : Kind → ℕ → Goal
  list : Kind → ℕ → Goal
  in_solid : ℕ → Goal
  in_list : Kind → ℕ → Goal
  elements : Kind → ℕ → Goal
  mark : Mark → Goal
  union : Goal
  index : Goal
  placement : Goal
  plain : Goal
  entry : Goal

-- a token does not go on; it goes on to these goals; it does, and begins a node with so many levels left
pub data Move : Type 0 where
  stuck : Move
  on : List Goal → Move
  node : ℕ → List Goal → Move

-- a, b and c in a bracket that is open
abbrev pub entries : List Goal → List Goal
entries gs = entry ∷ mark Comma ∷ entry ∷ mark Comma ∷ entry ∷ mark Right ∷ gs

-- words told apart
abbrev pub rank : Word → ℕ
rank w.Empty = 0
rank w.Prim = 1
rank w.Translate = 2
rank w.Scale = 3
rank w.Rotate = 4
rank w.Union = 5
rank w.Diff = 6
rank w.Inter = 7
rank w.Fold = 8
rank w.List = 9
rank w.Repeat = 10
rank w.Tabulate = 11
rank w.Concat = 12
rank w.Sort = 13
rank w.Unsort = 14
rank w.Map2 = 15
rank w.Index = 16

-- this word, and no other
abbrev pub if_word : Word → Word → Move → Move
if_word x y m = cond (rank x == rank y) m stuck

-- this mark, and no other
abbrev pub if_mark : Mark → Mark → Move → Move
if_mark Open Open m = m
if_mark Open Close m = stuck
if_mark Open Left m = stuck
if_mark Open Right m = stuck
if_mark Open Comma m = stuck
if_mark Close Open m = stuck
if_mark Close Close m = m
if_mark Close Left m = stuck
if_mark Close Right m = stuck
if_mark Close Comma m = stuck
if_mark Left Open m = stuck
if_mark Left Close m = stuck
if_mark Left Left m = m
if_mark Left Right m = stuck
if_mark Left Comma m = stuck
if_mark Right Open m = stuck
if_mark Right Close m = stuck
if_mark Right Left m = stuck
if_mark Right Right m = m
if_mark Right Comma m = stuck
if_mark Comma Open m = stuck
if_mark Comma Close m = stuck
if_mark Comma Left m = stuck
if_mark Comma Right m = stuck
if_mark Comma Comma m = m

-- a placement's word
abbrev pub at_placement : Word → List Goal → Move
at_placement w.Empty gs = stuck
at_placement w.Prim gs = stuck
at_placement w.Translate gs = on gs
at_placement w.Scale gs = on gs
at_placement w.Rotate gs = on gs
at_placement w.Union gs = stuck
at_placement w.Diff gs = stuck
at_placement w.Inter gs = stuck
at_placement w.Fold gs = stuck
at_placement w.List gs = stuck
at_placement w.Repeat gs = stuck
at_placement w.Tabulate gs = stuck
at_placement w.Concat gs = stuck
at_placement w.Sort gs = stuck
at_placement w.Unsort gs = stuck
at_placement w.Map2 gs = stuck
at_placement w.Index gs = stuck

-- the word after a solid's bracket; its parts have d levels left
abbrev pub after_solid_word : ℕ → List Goal → Word → Move
after_solid_word d gs w.Empty = stuck
after_solid_word d gs w.Prim = on (plain ∷ mark Left ∷ entries (mark Close ∷ gs))
after_solid_word d gs w.Translate = on (mark Left ∷ entries (element solid d ∷ mark Close ∷ gs))
after_solid_word d gs w.Scale = on (mark Left ∷ entries (element solid d ∷ mark Close ∷ gs))
after_solid_word d gs w.Rotate = on (mark Left ∷ entries (element solid d ∷ mark Close ∷ gs))
after_solid_word d gs w.Union = on (element solid d ∷ element solid d ∷ mark Close ∷ gs)
after_solid_word d gs w.Diff = on (element solid d ∷ element solid d ∷ mark Close ∷ gs)
after_solid_word d gs w.Inter = on (element solid d ∷ element solid d ∷ mark Close ∷ gs)
after_solid_word d gs w.Fold = on (union ∷ list solid d ∷ mark Close ∷ gs)
after_solid_word d gs w.List = stuck
after_solid_word d gs w.Repeat = stuck
after_solid_word d gs w.Tabulate = stuck
after_solid_word d gs w.Concat = stuck
after_solid_word d gs w.Sort = stuck
after_solid_word d gs w.Unsort = stuck
after_solid_word d gs w.Map2 = stuck
after_solid_word d gs w.Index = stuck

-- Map2 gives solids only
abbrev pub map2_move : Kind → ℕ → List Goal → Move
map2_move solid d gs = on (placement ∷ list vector d ∷ list solid d ∷ mark Close ∷ gs)
map2_move vector d gs = stuck

-- the word after a list's bracket
abbrev pub after_list_word : Kind → ℕ → List Goal → Word → Move
after_list_word k d gs w.Empty = stuck
after_list_word k d gs w.Prim = stuck
after_list_word k d gs w.Translate = stuck
after_list_word k d gs w.Scale = stuck
after_list_word k d gs w.Rotate = stuck
after_list_word k d gs w.Union = stuck
after_list_word k d gs w.Diff = stuck
after_list_word k d gs w.Inter = stuck
after_list_word k d gs w.Fold = stuck
after_list_word k d gs w.List = on (elements k d ∷ gs)
after_list_word k d gs w.Repeat = on (plain ∷ element k d ∷ mark Close ∷ gs)
after_list_word k d gs w.Tabulate = on (mark Open ∷ index ∷ plain ∷ mark Close ∷ element k d ∷ mark Close ∷ gs)
after_list_word k d gs w.Concat = on (list k d ∷ list k d ∷ mark Close ∷ gs)
after_list_word k d gs w.Sort = stuck
after_list_word k d gs w.Unsort = stuck
after_list_word k d gs w.Map2 = map2_move k d gs
after_list_word k d gs w.Index = stuck

-- an element begins with a bracket of its own form, or is Empty
abbrev pub at_element : Kind → ℕ → List Goal → Token → Move
at_element solid d gs (T.word x) = if_word x w.Empty (node d gs)
at_element solid d gs (T.number a c) = stuck
at_element solid d gs (T.mark m) = if_mark Open m (node d (in_solid (d - 1) ∷ gs))
at_element vector d gs (T.word x) = stuck
at_element vector d gs (T.number a c) = stuck
at_element vector d gs (T.mark m) = if_mark Left m (node d (entries gs))

-- a slope of 0 makes a number plain
abbrev pub if_zero : ℤ → Move → Move
if_zero (pos n) m = cond (n == 0) m stuck
if_zero (negsuc n) m = stuck

-- the closing bracket of a list, or one more element
abbrev pub at_elements : Mark → Move → Move → Move
at_elements Open a b = b
at_elements Close a b = a
at_elements Left a b = b
at_elements Right a b = b
at_elements Comma a b = b

-- what a token does to the first goal, with the goals after it
abbrev pub move : Goal → List Goal → Token → Move
move (element k d) gs t = at_element k d gs t
move (list k d) gs (T.word x) = stuck
move (list k d) gs (T.number a c) = stuck
move (list k d) gs (T.mark m) = if_mark Open m (node d (in_list k (d - 1) ∷ gs))
move (in_solid d) gs (T.word x) = after_solid_word d gs x
move (in_solid d) gs (T.number a c) = stuck
move (in_solid d) gs (T.mark m) = stuck
move (in_list k d) gs (T.word x) = after_list_word k d gs x
move (in_list k d) gs (T.number a c) = stuck
move (in_list k d) gs (T.mark m) = stuck
move (elements k d) gs (T.word x) = at_element k d (elements k d ∷ gs) (T.word x)
move (elements k d) gs (T.number a c) = stuck
move (elements k d) gs (T.mark m) = at_elements m (on gs) (at_element k d (elements k d ∷ gs) (T.mark m))
move (mark n) gs (T.word x) = stuck
move (mark n) gs (T.number a c) = stuck
move (mark n) gs (T.mark m) = if_mark n m (on gs)
move union gs (T.word x) = if_word x w.Union (on gs)
move union gs (T.number a c) = stuck
move union gs (T.mark m) = stuck
move index gs (T.word x) = if_word x w.Index (on gs)
move index gs (T.number a c) = stuck
move index gs (T.mark m) = stuck
move placement gs (T.word x) = at_placement x gs
move placement gs (T.number a c) = stuck
move placement gs (T.mark m) = stuck
move plain gs (T.word x) = stuck
move plain gs (T.number a c) = if_zero c (on gs)
move plain gs (T.mark m) = stuck
move entry gs (T.word x) = stuck
move entry gs (T.number a c) = on gs
move entry gs (T.mark m) = stuck

-- a text is a program of so many nodes, or is refused
pub data Outcome : Type 0 where
  whole : ℕ → Outcome
  refused : Refusal → Outcome

-- one more node fits
abbrev pub room : ℕ → ℕ → Bool
room d n = nat_lt 0 d && nat_lt n most_nodes

abbrev pub moved : Move → (List Goal → ℕ → Outcome) → ℕ → Span → Outcome
moved stuck k n s = refused (NoSolid s)
moved (on gs) k n s = k gs n
moved (node d gs) k n s = cond (room d n) (k gs (n + 1)) (refused (TooLarge s))

-- the outcome of what is still to be read, with n nodes so far
abbrev pub run : Feed → List Goal → ℕ → Outcome
run (bad s) gs n = refused (NoToken s)
run (end b) [] n = whole n
run (end b) (g ∷ gs) n = refused (NoSolid (record { at = b; len = 0 }))
run (token t s f) [] n = refused (NoSolid s)
run (token t s f) (g ∷ gs) n = moved (move g gs t) (run f) n s

-- the outcome of a whole text's tokens
abbrev pub judged : Feed → Outcome
judged f = run f (element solid most_levels ∷ []) 0
