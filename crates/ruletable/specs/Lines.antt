-- On which line of a text a byte stands.
use Prim.Native.Char.{code}
use Rattle.std.specs.Prelude.{ℕ, zero, suc, ◌+◌, ◌==◌, ◌&&◌, ◌||◌, not, Bool, false, List, [], ◌∷◌, if◌then◌else◌}
use Rattle.ruletable.specs.declared.lines.LineRule.{LineRule}
use Rattle.ruletable.specs.declared.lines.LineRule.TheVariants.{Lf, Any}

abbrev pub begins_with_lf : List ℕ → Bool
begins_with_lf [] = false
begins_with_lf (b ∷ bytes) = b == code "\n"

-- Whether a line end ends with byte b, where `after` follows it: an LF, or under `Any` also a CR, which belongs
-- to an LF right after it.
abbrev pub ends_line : LineRule → ℕ → List ℕ → Bool
ends_line Lf b after = b == code "\n"
ends_line Any b after = (b == code "\n") || ((b == code "\r") && not (begins_with_lf after))

-- how many line ends lie wholly within the first bytes of the text
abbrev pub line_ends : LineRule → List ℕ → ℕ → ℕ
line_ends rule [] n = 0
line_ends rule (b ∷ bytes) zero = 0
line_ends rule (b ∷ bytes) (suc n) = (if ends_line rule b bytes then 1 else 0) + line_ends rule bytes n

-- the line of the byte at an offset: 1 and the line ends that lie wholly before it
abbrev pub line_at : LineRule → List ℕ → ℕ → ℕ
line_at rule text offset = 1 + line_ends rule text offset
