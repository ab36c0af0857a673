-- What writing a program answers, and what it leaves in the buffer. Assumes nothing.
use Rattle.std.specs.Prelude.{◌≡◌, ℕ, ◌+◌, ◌<◌, ◌≤◌, true, List, ◌++◌, length, take, drop, IfOk, Ok, Err, sum_by, Result}
use Rattle.model.specs.Limits.{most_bytes, most_levels}
use Rattle.model.specs.declared.node.Node.{Node}
use Rattle.model.specs.Syntax.{Sort, Expr, Exprs, Solid, textual, depth}
use Rattle.model.specs.Nodes.{flatten, flattens}
use Rattle.model.specs.Spelling.{text_of, part_texts, own_length, SevenDigits}
use Rattle.model.specs.Texts.{Accepts}
use Rattle.writer.specs.declared.sink.Sink.{Sink}
use Rattle.writer.specs.declared.writer.Unwritten.{Unwritten}
use Rattle.writer.specs.declared.writer.Unwritten.TheVariants.{ShortBuffer}
use Rattle.writer.specs.Putting.{Puts}

-- the number by which a caller is told why nothing was written
abbrev pub number_of : Unwritten → ℕ
number_of ShortBuffer = 16

-- the text was written at the start of the buffer, or the buffer is shorter than the text and is as it was
abbrev pub Wrote : List ℕ → List ℕ → Result ℕ Unwritten → List ℕ → Type 0
Wrote text old (Ok n) new = (n ≡ length text) × (new ≡ text ++ drop n old)
Wrote text old (Err ShortBuffer) new = (length old < length text) × (new ≡ old)

-- a text is as long as its nodes' own tokens, with a space before each node but the first
abbrev pub Measured : Solid → Type 0
Measured e = length (text_of e) + 1 ≡ sum_by (λ n. own_length n + 1) (flatten e)

-- where each number has at most seven digits, the text is no longer than a text may be
abbrev pub Short : Solid → Type 0
Short e = SevenDigits e → length (text_of e) ≤ most_bytes

-- what was written says the program, if that has no Sort or Unsort, few enough levels, and numbers of at most seven digits
abbrev pub ReadsBack : Solid → Result ℕ Unwritten → List ℕ → Type 0
ReadsBack e r new = IfOk r (λ n. textual e ≡ true → depth e ≤ most_levels → SevenDigits e → Accepts (take n new) e)

-- the expression whose nodes begin at a place was put, and r is the place after it
abbrev pub TermPut : List Node → ℕ → Sink → ℕ → Sink → Type 0
TermPut nodes place s r t =
    (k : Sort) (e : Expr k) (rest : List Node) → drop place nodes ≡ flatten e ++ rest
    → (drop r nodes ≡ rest) × Puts (text_of e) s t

-- so many expressions were put, each after a space
abbrev pub PartsPut : List Node → ℕ → ℕ → Sink → ℕ → Sink → Type 0
PartsPut nodes place n s r t =
    (ks : List Sort) (es : Exprs ks) (rest : List Node) → length ks ≡ n → drop place nodes ≡ flattens es ++ rest
    → (drop r nodes ≡ rest) × Puts (part_texts es) s t
