-- The line of a position in a text.
use Prim.Native.Char.{code}
use Rattle.std.specs.Prelude.{ℕ, ◌+◌, ◌-◌, ◌==◌, ◌||◌, ◌&&◌, not, Bool, false, List, [], ◌∷◌, take, drop}
use Rattle.std.specs.Prelude.{if◌then◌else◌}
use Rattle.std.specs.List.{suffix_len}
use Rattle.ruletable.specs.declared.lines.LineRule.{LineRule}
use Rattle.ruletable.specs.declared.lines.LineRule.TheVariants.{Lf, Any}

-- the byte begins the next line
abbrev pub breaks : LineRule → ℕ → Bool
breaks Lf b = b == code "\n"
breaks Any b = (b == code "\n") || (b == code "\r")

abbrev pub begins_lf : List ℕ → Bool
begins_lf [] = false
begins_lf (b ∷ bytes) = b == code "\n"

-- how many bytes stand before the first line end, which is a break, or CR LF
abbrev pub line_size : LineRule → List ℕ → ℕ
line_size rule [] = 0
line_size rule (b ∷ bytes) = if breaks rule b || ((b == code "\r") && begins_lf bytes) then 0
    else 1 + line_size rule bytes

-- how many bytes stand after the last break
abbrev pub bytes_before : LineRule → List ℕ → ℕ
bytes_before rule text = suffix_len (λ b. not (breaks rule b)) text

-- the line of the position at an offset, without what ends it
abbrev pub line_text : LineRule → List ℕ → ℕ → List ℕ
line_text rule text offset =
    let before = bytes_before rule (take offset text) in
    take (before + line_size rule (drop offset text)) (drop (offset - before) text)
