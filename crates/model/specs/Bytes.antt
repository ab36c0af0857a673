-- Which bytes make tokens, how words are spelled, and what a run of bytes says. Assumes nothing.
use Rattle.std.specs.Prelude.{◌≡◌, ℕ, zero, suc, ◌+◌, ◌-◌, ◌≤◌, Bool, true, false, cond, not, ◌&&◌, ◌||◌, List, [], ◌∷◌, ◌++◌, length, take, drop, ℤ, pos, negsuc, neg_ℤ, Some, None, codes, decimal, Option, ◌==◌, nat_le, nat_lt, slice_index, unsigned_abs}
use Rattle.std.specs.Option.{option_map, option_or, option_zip}
use Rattle.std.specs.Bool.{then_some}
use Rattle.std.specs.Str.Parse.{digits_value}
use Rattle.std.specs.Char.{is_ascii_digit, is_ascii_alphabetic}
use Rattle.std.specs.Fmt.{signed_decimal}
use Rattle.std.specs.List.{prefix_len}
use Rattle.std.specs.Str.{all_ascii_digits, bytes_eq}
use Rattle.model.specs.declared.word.Word.{Word}
use Rattle.model.specs.declared.word.Word.TheVariants as w
use Rattle.model.specs.declared.word.Mark.{Mark}
use Rattle.model.specs.declared.word.Mark.TheVariants.{Open, Close, Left, Right, Comma}

-- space, tab, line feed, carriage return
abbrev pub is_sep : ℕ → Bool
is_sep b = b == 32 || (b == 9 || (b == 10 || b == 13))

-- a word goes on with letters and digits
abbrev pub in_word : ℕ → Bool
in_word b = is_ascii_alphabetic b || is_ascii_digit b

-- a number starts with a digit or a minus
abbrev pub starts_number : ℕ → Bool
starts_number b = is_ascii_digit b || b == 45

-- and goes on with digits, + and - and i
abbrev pub in_number : ℕ → Bool
in_number b = is_ascii_digit b || (b == 43 || (b == 45 || b == 105))

-- the byte of a mark
abbrev pub mark_byte : Mark → ℕ
mark_byte Open = 40
mark_byte Close = 41
mark_byte Left = 91
mark_byte Right = 93
mark_byte Comma = 44

-- how a word is spelled
abbrev pub spelling : Word → List ℕ
spelling w.Empty = codes "Empty"
spelling w.Prim = codes "Prim"
spelling w.Translate = codes "Translate"
spelling w.Scale = codes "Scale"
spelling w.Rotate = codes "Rotate"
spelling w.Union = codes "Union"
spelling w.Diff = codes "Diff"
spelling w.Inter = codes "Inter"
spelling w.Fold = codes "Fold"
spelling w.List = codes "List"
spelling w.Repeat = codes "Repeat"
spelling w.Tabulate = codes "Tabulate"
spelling w.Concat = codes "Concat"
spelling w.Sort = codes "Sort"
spelling w.Unsort = codes "Unsort"
spelling w.Map2 = codes "Map2"
spelling w.Index = codes "i"

-- every word
abbrev pub words : List Word
words =
    w.Empty ∷ w.Prim ∷ w.Translate ∷ w.Scale ∷ w.Rotate ∷ w.Union ∷ w.Diff ∷ w.Inter ∷ w.Fold
    ∷ w.List ∷ w.Repeat ∷ w.Tabulate ∷ w.Concat ∷ w.Sort ∷ w.Unsort ∷ w.Map2 ∷ w.Index ∷ []

-- the first of these words that a run spells
abbrev pub word_among : List Word → List ℕ → Option Word
word_among [] run = None
word_among (x ∷ xs) run = cond (bytes_eq run (spelling x)) (Some x) (word_among xs run)

-- the word that a run spells
unfoldable pub word_of : List ℕ → Option Word
word_of run = word_among words run

-- every mark
abbrev pub marks : List Mark
marks = Open ∷ Close ∷ Left ∷ Right ∷ Comma ∷ []

-- the first of these marks whose byte it is
abbrev pub mark_among : List Mark → ℕ → Option Mark
mark_among [] b = None
mark_among (m ∷ ms) b = cond (b == mark_byte m) (Some m) (mark_among ms b)

-- the mark that a byte is
abbrev pub mark_of : ℕ → Option Mark
mark_of b = mark_among marks b

-- one to seven digits, the first not 0
abbrev pub natural : List ℕ → Bool
natural run = nat_lt 0 (length run) && (nat_le (length run) 7 && (not (slice_index run 0 == 48) && all_ascii_digits run))

-- and their value
unfoldable pub natural_of : List ℕ → Option ℕ
natural_of run = then_some (natural run) (digits_value 10 run)

-- the number with a minus
abbrev pub minus : ℕ → ℤ
minus n = neg_ℤ (pos n)

-- such digits, or a minus and such digits
unfoldable pub amount_of : List ℕ → Option ℤ
amount_of run = cond (slice_index run 0 == 45) (option_map minus (natural_of (drop 1 run))) (option_map pos (natural_of run))

-- a + or - and such digits
unfoldable pub change_of : List ℕ → Option ℤ
change_of run = cond (slice_index run 0 == 43) (option_map pos (natural_of (drop 1 run))) (cond (slice_index run 0 == 45) (option_map minus (natural_of (drop 1 run))) None)

-- where the digits in front end, which may follow a sign
abbrev pub cut : List ℕ → ℕ
cut run = 1 + prefix_len is_ascii_digit (drop 1 run)

-- a number without its last i: C, or A+C or A-C
unfoldable pub slope_of : List ℕ → Option (ℤ × ℤ)
slope_of run = option_or (option_map (λ c. (pos 0, c)) (amount_of run)) (option_zip (amount_of (take (cut run) run)) (change_of (drop (cut run) run)))

-- a number without slope: 0 or an amount
unfoldable pub plain_of : List ℕ → Option ℤ
plain_of run = cond (bytes_eq run (codes "0")) (Some (pos 0)) (amount_of run)

-- the constant and the slope that a run spells
unfoldable pub number_of : List ℕ → Option (ℤ × ℤ)
number_of run = cond (slice_index run (length run - 1) == 105) (slope_of (take (length run - 1) run)) (option_map (λ a. (a, pos 0)) (plain_of run))

-- it is 0
abbrev pub is_zero : ℤ → Bool
is_zero (pos zero) = true
is_zero (pos (suc n)) = false
is_zero (negsuc n) = false

-- a number with its sign, + or -, in front
abbrev pub change : ℤ → List ℕ
change (pos n) = 43 ∷ decimal n
change (negsuc n) = 45 ∷ decimal (suc n)

-- how a number with this constant and this slope is spelled
abbrev pub numeral : ℤ → ℤ → List ℕ
numeral a c = cond (is_zero c) (signed_decimal a) (cond (is_zero a) (signed_decimal c) (signed_decimal a ++ change c) ++ codes "i")

-- at most seven digits
abbrev pub Small : ℤ → Type 0
Small z = unsigned_abs z ≤ 9999999

-- a word reads back from its spelling
abbrev pub WordBack : Type 0
WordBack = (x : Word) → word_of (spelling x) ≡ Some x

-- a mark reads back from its byte
abbrev pub MarkBack : Type 0
MarkBack = (m : Mark) → mark_of (mark_byte m) ≡ Some m

-- a number reads back from its spelling
abbrev pub NumberBack : Type 0
NumberBack = (a c : ℤ) → Small a → Small c → number_of (numeral a c) ≡ Some (a, c)

-- a number that is read is small
abbrev pub NumberSmall : Type 0
NumberSmall = (run : List ℕ) (a c : ℤ) → number_of run ≡ Some (a, c) → Small a × Small c
