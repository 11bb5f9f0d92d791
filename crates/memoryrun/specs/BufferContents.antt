-- The contents of a sink over a buffer. They begin with the name of the buffer and its bytes before, with their count:
-- so it is known after a call that the buffer is still the same.
use Rattle.std.specs.Prelude.{ℕ, bytes_eq, List, ◌∷◌, ◌++◌, length, Option, Some, None, if◌then◌else◌}
use Rattle.memoryrun.specs.Filled.{laid}

-- a sink over a buffer of a name and with bytes before that has taken a text
abbrev pub buffer_holds : ℕ → List ℕ → List ℕ → Option (List ℕ)
buffer_holds name before text = Some (name ∷ length before ∷ before ++ text)

-- The same of a sink's own parts. Nothing is said where the text that it took is not laid over the bytes before, or its
-- length is not the count.
unfoldable pub buffer_contents : ℕ → List ℕ → ℕ → List ℕ → List ℕ → Option (List ℕ)
buffer_contents name room len before taken =
    if bytes_eq (len ∷ room) (length taken ∷ laid taken before) then buffer_holds name before taken else None
