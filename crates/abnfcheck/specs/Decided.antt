-- What a decision says.
use Rattle.std.specs.Prelude.{Bool, true, false}

-- yes: it holds; no: it does not
abbrev pub Says : Type 0 → Bool → Type 0
Says P true = P
Says P false = P → ⊥
