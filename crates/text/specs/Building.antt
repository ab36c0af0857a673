-- What a reader has read into its draft. Assumes nothing.
use Rattle.std.specs.Prelude.{◌≡◌, ℕ, ◌<◌, ◌≤◌, List, Result, OnOk, vec_len}
use Rattle.model.specs.declared.refusal.Refusal.{Refusal}
use Rattle.model.specs.Syntax.{Sort}
use Rattle.model.specs.Tokens.{Token}
use Rattle.model.specs.Feed.{Feed, said}
use Rattle.model.specs.Grammar.{Goal, run, Outcome}
use Rattle.text.specs.declared.reader.Reader.{Reader}
use Rattle.text.specs.Lexer.{ahead}
use Rattle.text.specs.Reading.{after, Read}

-- the tokens that are left to read
abbrev pub left : Reader → Feed
left r = ahead r.lexer

-- how many nodes the draft has
abbrev pub count : Reader → ℕ
count r = vec_len r.draft.now.nodes

-- the same text is read on into the same draft
abbrev pub Same : Reader → Reader → Type 0
Same a b = (b.lexer.text.now ≡ a.lexer.text.now) × (b.draft.ghost_name ≡ a.draft.ghost_name)

-- and bytes of it were read
abbrev pub Moved : {X : Type 0} → Reader → Result X Refusal → Reader → Type 0
Moved a r b = Same a b × OnOk r (a.lexer.at < b.lexer.at)

-- or the reader has not gone back
abbrev pub Onward : {X : Type 0} → Reader → Result X Refusal → Reader → Type 0
Onward a r b = Same a b × OnOk r (a.lexer.at ≤ b.lexer.at)

-- expressions of these sorts were read, whose tokens begin ts
abbrev pub HasRead : {X : Type 0} → List Sort → List Token → Reader → Result X Refusal → Reader → Type 0
HasRead ss ts a r b = OnOk r (Read ss ts (said (left b)) a.draft.now.nodes.items b.draft.now.nodes.items)

-- the outcome is what the rest of the text has, or the refusal
abbrev pub Leads : {X : Type 0} → (List Goal → Outcome) → Result X Refusal → Reader → Type 0
Leads from r b = (gs : List Goal) → from gs ≡ after r (run (left b) gs (count b))
