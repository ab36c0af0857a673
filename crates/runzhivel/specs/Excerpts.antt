-- What an excerpt shows of a text. Assumes nothing.
use Rattle.std.specs.Prelude.{◌≡◌, ℕ, ◌+◌, min, max, List, ◌++◌, length}
use Rattle.model.specs.declared.refusal.Span.{Span}
use Rattle.runzhivel.specs.declared.excerpt.Excerpt.{Excerpt}

-- the bytes shown are a part of the text, cut at the fault's first byte, and the carets are as many as the bytes at fault that are shown, or one
pub record Shows (text : List ℕ) (s : Span) (e : Excerpt) : Type 0 where
  pub front : List ℕ
  pub back : List ℕ
  pub parts : text ≡ front ++ (e.before.now ++ (e.after.now ++ back))
  pub place : length front + length e.before.now ≡ min s.at (length text)
  pub marks : e.carets ≡ max (min s.len (length e.after.now)) 1
