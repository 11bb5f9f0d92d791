-- Lines added to others, with blocks masked. It serves private helpers alone.
use Rattle.std.specs.Prelude.{◌≡◌, ℕ, Bool, List, [], ◌∷◌, ◌++◌, map, max, if◌then◌else◌}
use Rattle.abnfblocks.specs.Fences.{closing_length}
use Rattle.abnfblocks.specs.MaskedLines.{MasksBlocks, masked_line}
use Rattle.abnfblocks.specs.OpenTags.{tag_size}
use Rattle.abnfblocks.specs.TextLines.{NumberedLine}

-- how long the longest fence of that character is that closes a block on one of the lines; 0 if none does
abbrev pub longest_closing : ℕ → List NumberedLine → ℕ
longest_closing mark [] = 0
longest_closing mark (line ∷ lines) = max (longest_closing mark lines) (closing_length mark line.bytes)

-- the same from each line on, and at the end
abbrev pub each_longest : ℕ → List NumberedLine → List ℕ
each_longest mark [] = 0 ∷ []
each_longest mark (line ∷ lines) = longest_closing mark (line ∷ lines) ∷ each_longest mark lines

-- how many lines the tag has that each line opens and a later one closes, or 0
abbrev pub each_tag : List NumberedLine → List ℕ
each_tag [] = []
each_tag (line ∷ lines) = tag_size (line ∷ lines) ∷ each_tag lines

-- the line, masked or not
abbrev pub line_shown : Bool → NumberedLine → NumberedLine
line_shown masks line = if masks then masked_line line else line

-- the lines, all masked or none
abbrev pub lines_shown : Bool → List NumberedLine → List NumberedLine
lines_shown masks lines = if masks then map masked_line lines else lines

-- the lines stand after the others, with their blocks masked
abbrev pub MasksMore : (List NumberedLine → ℕ) → (NumberedLine → Bool) → List NumberedLine → List NumberedLine
    → List NumberedLine → Type 0
MasksMore size hides lines old new =
    (masked : List NumberedLine) × MasksBlocks size hides lines masked × (new ≡ old ++ masked)
