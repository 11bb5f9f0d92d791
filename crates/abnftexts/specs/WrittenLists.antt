-- Lines with their lists (RFC 9110, section 5.6.1) written out, and rules that read only so.
use Rattle.std.specs.Prelude.{◌≡◌, ◌≢◌, ℕ, suc, bytes_eq, Bool, true, Option, None, Some, List, [], ◌∷◌, if◌then◌else◌}
use Rattle.std.specs.List.{prefix_len, zip}
use Rattle.abnfblocks.specs.FoundRules.{AreFound}
use Rattle.abnfblocks.specs.RuleCuts.{lines_text}
use Rattle.abnfblocks.specs.TextLines.{NumberedLine}
use Rattle.abnfblocks.specs.declared.found.RuleSearch.{RuleSearch}
use Rattle.abnfblocks.specs.declared.found.RuleSearch.TheVariants as found
use Rattle.abnfblocks.specs.declared.rfctext.line_kind.LineKind.TheVariants.{Other}
use Rattle.rfcforms.specs.Lists.{CutsLines, Expands}
use Rattle.rfcforms.specs.declared.lists.written.ListForm.{ListForm}
use Rattle.rfcforms.specs.declared.lists.written.ListForm.TheVariants.{Receive}

-- a line with these bytes, which is no blank one if they are others than its own
abbrev pub written_line : NumberedLine → List ℕ → NumberedLine
written_line line bytes = if bytes_eq line.bytes bytes then line
    else record { number = line.number; bytes = bytes; kind = Other }

abbrev pub lines_written : List NumberedLine → List (List ℕ) → List NumberedLine
lines_written [] parts = []
lines_written (line ∷ lines) [] = []
lines_written (line ∷ lines) (bytes ∷ parts) = written_line line bytes ∷ lines_written lines parts

-- lines, and what is written for them
pub record WritesLists (form : ListForm) (lines : List NumberedLine) (text : List ℕ) (written : List NumberedLine)
    : Type 0 where
  pub expands : Expands form (lines_text 0 lines) text
  pub parts : List (List ℕ)
  pub cuts : CutsLines text parts
  pub is : written ≡ lines_written lines parts

-- where no form is asked for, lines stay
pub data AreExpanded : Option ListForm → List NumberedLine → List NumberedLine → Type 0 where
  as_they_are : {lines : List NumberedLine} → AreExpanded None lines lines
  with_lists : {form : ListForm} {text : List ℕ} {lines written : List NumberedLine}
      → WritesLists form lines text written → AreExpanded (Some form) lines written

-- The lines begin with a rule that reads with its lists, of which there is one at least.
pub record ReadsAsLists (lines written : List NumberedLine) : Type 0 where
  pub text : List ℕ
  pub writes : WritesLists Receive lines text written
  pub some : text ≢ lines_text 0 lines
  pub first : ℕ
  pub count : ℕ
  pub others : List RuleSearch
  pub found : AreFound 0 written (found.Rule first count ∷ others)

-- how many lines stand before the first one that is written otherwise
abbrev pub lines_alike : List NumberedLine → List NumberedLine → ℕ
lines_alike lines written = prefix_len (λ p. bytes_eq p.0.bytes p.1.bytes) (zip lines written)

-- the first line with a list, from 1, if the rule reads with its lists
abbrev pub IsFirstList : List NumberedLine → Option ℕ → Type 0
IsFirstList lines (Some n) = (written : List NumberedLine) × ReadsAsLists lines written
    × (n ≡ suc (lines_alike lines written))
IsFirstList lines None = (written : List NumberedLine) → ReadsAsLists lines written → ⊥

-- where that is asked
abbrev pub IsFirstAsked : Bool → List NumberedLine → Option ℕ → Type 0
IsFirstAsked asks lines (Some n) = (asks ≡ true) × IsFirstList lines (Some n)
IsFirstAsked asks lines None = asks ≡ true → IsFirstList lines None
