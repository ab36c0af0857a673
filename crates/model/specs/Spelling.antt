-- How a program is written: its tokens as bytes, the spaces between them, and the length of a text. Assumes nothing.
use Rattle.std.specs.Prelude.{◌≡◌, ℕ, ◌+◌, ◌≤◌, Bool, true, false, ◌||◌, List, [], ◌∷◌, ◌++◌, length, pos, sum_by}
use Rattle.std.specs.List.{AllByRecursion}
use Rattle.model.specs.Limits.{most_bytes, most_nodes}
use Rattle.model.specs.declared.node.Linear.{Linear}
use Rattle.model.specs.declared.node.Node.{Node}
use Rattle.model.specs.declared.node.Node.TheVariants as v
use Rattle.model.specs.declared.word.Mark.TheVariants.{Open, Close, Left, Right, Comma}
use Rattle.model.specs.Syntax.{solid, vector, Sort, one, many, num, Head, Expr, Exprs, none, more, size}
use Rattle.model.specs.Syntax as S
use Rattle.model.specs.Nodes.{flatten}
use Rattle.model.specs.Bytes.{spelling, mark_byte, numeral, Small}
use Rattle.model.specs.Tokens.{Token, tokens, opening, closing}
use Rattle.model.specs.Tokens as T

-- how a token is spelled
abbrev pub spell_token : Token → List ℕ
spell_token (T.word x) = spelling x
spell_token (T.number a c) = numeral a c
spell_token (T.mark m) = mark_byte m ∷ []

-- no space stands after ( [ and a comma
abbrev pub tight_after : Token → Bool
tight_after (T.word x) = false
tight_after (T.number a c) = false
tight_after (T.mark Open) = true
tight_after (T.mark Close) = false
tight_after (T.mark Left) = true
tight_after (T.mark Right) = false
tight_after (T.mark Comma) = true

-- and none before ) ] and a comma
abbrev pub tight_before : Token → Bool
tight_before (T.word x) = false
tight_before (T.number a c) = false
tight_before (T.mark Open) = false
tight_before (T.mark Close) = true
tight_before (T.mark Left) = false
tight_before (T.mark Right) = true
tight_before (T.mark Comma) = true

-- a space, unless what stands on one side is tight
abbrev pub gap : Bool → List ℕ
gap true = []
gap false = 32 ∷ []

-- tokens as bytes, after what is tight or not
abbrev pub spells : Bool → List Token → List ℕ
spells b [] = []
spells b (t ∷ ts) = gap (b || tight_before t) ++ (spell_token t ++ spells (tight_after t) ts)

-- the text of a program; nothing stands before its first token
abbrev pub text_of : {s : Sort} → Expr s → List ℕ
text_of e = spells true (tokens e)

-- the texts of a node's parts, each after a space
abbrev pub part_texts : {ss : List Sort} → Exprs ss → List ℕ
part_texts none = []
part_texts (more e es) = 32 ∷ (text_of e ++ part_texts es)

-- a head that a table holds as this node
abbrev pub some_head : Node → (s : Sort) × Head s
some_head v.Empty = (one solid, S.empty)
some_head (v.Primitive k a) = (one solid, S.prim k a)
some_head (v.Place t a) = (one solid, S.place t a)
some_head (v.Join o) = (one solid, S.join o)
some_head v.Fold = (one solid, S.fold)
some_head (v.Vector a) = (one vector, S.vec a)
some_head (v.List n) = (many solid, S.list n)
some_head (v.Repeat n) = (many solid, S.repeat n)
some_head (v.Tabulate n) = (many solid, S.tab n)
some_head v.Concat = (many solid, S.concat)
some_head (v.Sort n) = (many solid, S.sort n)
some_head (v.Unsort n) = (many solid, S.unsort n)
some_head (v.Map2 t) = (many solid, S.map2 t)
some_head (v.Number j) = (num, S.number j)

-- what is written before a node's parts
abbrev pub opening_text : Node → List ℕ
opening_text n = spells true (opening (some_head n).1)

-- what is written after them
abbrev pub closing_text : Node → List ℕ
closing_text n = spells false (closing (some_head n).1)

-- the bytes that a node takes without its parts and the spaces before them
abbrev pub own_length : Node → ℕ
own_length n = length (opening_text n) + length (closing_text n)

-- a space stands before each node but the first
abbrev pub TextLength : Type 0
TextLength = (s : Sort) (e : Expr s) → length (text_of e) + 1 ≡ sum_by (λ n. own_length n + 1) (flatten e)

-- each number of a vector has at most seven digits
abbrev pub SevenLinear : Linear → Type 0
SevenLinear a =
    Small a.constant.x × Small a.constant.y × Small a.constant.z
    × Small a.slope.x × Small a.slope.y × Small a.slope.z

-- each number that is written of a node has at most seven digits
abbrev pub SevenNode : Node → Type 0
SevenNode v.Empty = Unit {0}
SevenNode (v.Primitive k a) = Small k × SevenLinear a
SevenNode (v.Place t a) = SevenLinear a
SevenNode (v.Join o) = Unit {0}
SevenNode v.Fold = Unit {0}
SevenNode (v.Vector a) = SevenLinear a
SevenNode (v.List n) = Unit {0}
SevenNode (v.Repeat n) = Small n
SevenNode (v.Tabulate n) = Small n
SevenNode v.Concat = Unit {0}
SevenNode (v.Sort n) = Unit {0}
SevenNode (v.Unsort n) = Unit {0}
SevenNode (v.Map2 t) = Unit {0}
SevenNode (v.Number j) = Small (pos j)

abbrev pub SevenDigits : {s : Sort} → Expr s → Type 0
SevenDigits e = AllByRecursion SevenNode (flatten e)

-- a program with such numbers is short
abbrev pub ShortText : Type 0
ShortText = (s : Sort) (e : Expr s) → size e ≤ most_nodes → SevenDigits e → length (text_of e) ≤ most_bytes
