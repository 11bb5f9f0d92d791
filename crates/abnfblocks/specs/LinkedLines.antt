-- Texts that stand one after another.
use Prim.Native.Char.{code}
use Rattle.std.specs.Prelude.{ℕ, ◌+◌, List, [], ◌∷◌}
use Rattle.ruletable.specs.declared.span.Span.{Span}

-- LF ends the text
pub data EndsLine : List ℕ → Type 0 where
  lf : EndsLine (code "\n" ∷ [])
  after_byte : {b : ℕ} {bytes : List ℕ} → EndsLine bytes → EndsLine (b ∷ bytes)

-- so many bytes further on
abbrev pub moved_span : ℕ → Span → Span
moved_span n span = record { start = n + span.start; end = n + span.end }
