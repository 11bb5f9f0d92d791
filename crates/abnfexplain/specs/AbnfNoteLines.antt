-- What explains a note on the grammar of a text.
use Rattle.std.specs.Prelude.{ℕ, List, Option}
use Rattle.abnfread.specs.AbnfKinds.{ends_list}
use Rattle.abnfread.specs.AbnfSlices.{White, First}
use Rattle.abnfread.specs.declared.kind.AbnfKind.{AbnfKind}
use Rattle.abnfread.specs.declared.kind.AbnfKind.TheVariants.{Name, Is, Adds, Prose, Num, Repeat}
use Rattle.diagnostics.specs.ExplainedNotes as explained
use Rattle.diagnostics.specs.ExplainedNotes.{ArePositions, IsNoteExplained, IsNotedForm}
use Rattle.diagnostics.specs.declared.noteplaces.forms.UseForm.{UseForm}
use Rattle.diagnostics.specs.declared.noteplaces.positions.Positions.{Positions}
use Rattle.diagnostics.specs.declared.noteplaces.sign.Sign.{Sign}
use Rattle.diagnostics.specs.declared.noteplaces.sign.Sign.TheVariants as signs
use Rattle.ruletable.specs.Notes.{Said}
use Rattle.ruletable.specs.declared.lines.LineRule.TheVariants.{Lf}
use Rattle.ruletable.specs.declared.table.NameCase.TheVariants.{Fold}

-- what a token is to the definitions of a grammar: a name right before `=` or `=/` is defined, and any other is used
abbrev pub sign_of : AbnfKind → Sign
sign_of Name = signs.Name
sign_of Is = signs.Defines
sign_of Adds = signs.Adds
sign_of Prose = signs.Prose
sign_of Num = signs.Number
sign_of Repeat = signs.Repeats
sign_of _ = signs.Other

-- the positions of a text's definitions
abbrev pub AreAbnfPositions : List ℕ → Positions → Type 0
AreAbnfPositions text = ArePositions White First ends_list sign_of Lf Fold text

-- the lines after a note, where that name is given for the judged rule
abbrev pub ExplainsNote : List ℕ → Option (List ℕ) → Said → List ℕ → Type 0
ExplainsNote text = IsNoteExplained White First ends_list sign_of Lf Fold text

-- what the use is in other notations by which that name is noted
abbrev pub IsUsedForm : List ℕ → Option (List ℕ) → List ℕ → UseForm → Type 0
IsUsedForm text = IsNotedForm White First ends_list sign_of Lf Fold text

-- the first prose of the rule of that name, with `<` and `>`, if it has one
abbrev pub IsFirstProse : List ℕ → List ℕ → Option (List ℕ) → Type 0
IsFirstProse text = explained.IsFirstProse White First ends_list sign_of Lf Fold text
