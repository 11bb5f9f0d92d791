-- The steps of a run of lines. It serves private helpers alone.
use Rattle.std.specs.Prelude.{◌≡◌, ℕ, ◌+◌, ◌<◌, ◌≤◌, ◌⊎◌, ⊤, Bool, true, false, if◌then◌else◌, List, [], ◌++◌}
use Rattle.std.specs.Prelude.{Option, Result, Ok, Err, IfOk, vec_capacity, vec_len}
use Rattle.std.specs.Io.KnownBytes.{Appends, Keeps}
use Rattle.ruletable.specs.Writing.{AppendsPart, Writes}
use Rattle.ruletable.specs.declared.sink.WriteFault.{WriteFault}
use Rattle.toolrun.specs.Input.{Input}
use Rattle.toolrun.specs.RunEnd.{refusals_text}
use Rattle.toolrun.specs.declared.ending.Ending.{Ending}
use Rattle.toolrun.specs.declared.ending.Ending.TheVariants.{Plain, Explained, Unexplained}
use Rattle.toolrun.specs.declared.stop.Stop.{Stop}
use Rattle.toolrun.specs.declared.stop.Stop.TheVariants.{CostlyLine, NoMemory}
use Rattle.linejudge.specs.InputLines.{GoesBy, Lines, LinesEnd, printed_line}
use Rattle.linejudge.specs.LineRefusals.{ReportsLine, ReportedUpTo, is_reported, stop_lines, unexplained_line}
use Rattle.linejudge.specs.declared.answers.Answer.{Answer}
use Rattle.linejudge.specs.declared.answers.NoAnswer.{NoAnswer}
use Rattle.linejudge.specs.declared.answers.NoAnswer.TheVariants as no_answer
use Rattle.linejudge.specs.declared.line.LineForm.{LineForm}
use Rattle.linejudge.specs.declared.line_loop.LineStep.{LineStep}
use Rattle.linejudge.specs.declared.line_loop.LineStep.TheVariants.{Answers, Stops}
use Rattle.linejudge.specs.declared.reached.LinePosition.{LinePosition}
use Rattle.linejudge.specs.declared.reached.Explanations.{Explanations}

-- the text after that of the lines before
pub record Adds (P : List ℕ → Type 0) (old new : List ℕ) : Type 0 where
  pub text : List ℕ
  pub is : P text
  pub added : new ≡ old ++ text

-- What follows a line of that number that takes n bytes: its text was written; or a proper prefix of it, where the
-- output failed; or nothing, where it has no answer.
abbrev pub StepsAfter : ℕ → ℕ → Option (List ℕ) → Option (List ℕ) → List ℕ → Result Answer NoAnswer
    → Result LineStep WriteFault → Type 0
StepsAfter number n old new text (Ok said) step = Writes old new text step × IfOk step (λ s. s ≡ Answers said n)
StepsAfter number n old new text (Err no_answer.Memory) step = Keeps old new × (step ≡ Ok (Stops NoMemory))
StepsAfter number n old new text (Err (no_answer.Costly budget)) step = Keeps old new
    × (step ≡ Ok (Stops (CostlyLine number budget)))

-- a line that is answered takes some bytes, and lies within so many
abbrev pub FitsIn : ℕ → Result LineStep WriteFault → Type 0
FitsIn len (Ok (Answers said n)) = (0 < n) × (n ≤ len)
FitsIn len _ = ⊤

-- How many bytes there is room for beside the explanations: those of a line that says that one is missing, or of the
-- lines that explain a stop.
abbrev pub room_size : ℕ
room_size = 128

-- there is room for a line that says that an explanation is missing, and for the lines that explain a stop
pub record HasRoom (reported : Explanations) : Type 0 where
  pub text : reported.lacks ≡ false → vec_len reported.text + room_size ≤ vec_capacity reported.text
  pub none : reported.why.items ≡ []
  pub why : vec_len reported.why + room_size ≤ vec_capacity reported.why

-- how a run ends after the explanations of lines, where it is explained, unless an explanation is missing
abbrev pub IsReportedEnding : Bool → List ℕ → Stop → Ending → Type 0
IsReportedEnding lacks text stop (Plain is) = ⊥
IsReportedEnding lacks text stop (Explained reported is why) = (refusals_text reported ≡ text) × (is ≡ stop)
    × (why.items ≡ (if lacks then [] else stop_lines stop))
IsReportedEnding lacks text stop (Unexplained reported is) = ⊥

module _ (Reported : List ℕ → Answer → Type 0) (asked : Bool) (Refusal : List ℕ → ℕ → List ℕ → Type 0) where
  -- What is added to the explanations after a line with that answer, by whether one is missing before and after it: its
  -- explanation, or a line in place of it; nothing, where one is missing before.
  abbrev pub AddsBy : Bool → Bool → LinePosition → List ℕ → Answer → List ℕ → List ℕ → Type 0
  AddsBy false false at line said old new = Adds (ReportsLine Reported asked Refusal at line said) old new
  AddsBy false true at line said old new = (is_reported asked at.refused said ≡ true)
      × (new ≡ old ++ unexplained_line (at.count + 1))
  AddsBy true lacks at line said old new = (lacks ≡ true) × (new ≡ old)

  abbrev pub AddsReported : LinePosition → List ℕ → Answer → Explanations → Explanations → Type 0
  AddsReported at line said old new = AddsBy old.lacks new.lacks at line said old.text.items new.text.items

  -- a line was answered: its explanation was added, and this is what is printed for it
  pub record Answered (form : LineForm) (at : LinePosition) (line : List ℕ) (reported more : Explanations)
      (text : List ℕ)
      (said : Answer) : Type 0 where
    pub is_reported : Reported line said
    pub adds : AddsReported at line said reported more
    pub prints : text ≡ printed_line form (at.count + 1) line said

  -- The lines from one position to another are answered by a text, and none of them is explained.
  pub record AddsLines (form : LineForm) (input : Input) (old new : LinePosition) (added : List ℕ) : Type 0 where
    pub lines : (text : List ℕ) → Lines Reported form input old text → Lines Reported form input new (text ++ added)
    pub refusals : (lacks : Bool) (reported : List ℕ) → ReportedUpTo Reported asked Refusal form input lacks old
        reported
        → ReportedUpTo Reported asked Refusal form input lacks new reported

  module _ (NeedsMore : List ℕ → ℕ → Type 0) (form : LineForm) (input : Input) where
    -- what is printed for a line, or at the end of the input, and the explanations after it
    pub data StepText (at : LinePosition) (reported more : Explanations) : List ℕ → Type 0 where
      of_line : (line : List ℕ) (n : ℕ) (said : Answer) → GoesBy form input at line n → Reported line said
          → AddsReported at line said reported more
          → StepText at reported more (printed_line form (at.count + 1) line said)
      of_end : (text : List ℕ) (why : Stop) → LinesEnd NeedsMore form input at text why → more ≡ reported
          → StepText at reported more text

    -- a line was answered, or the run ends here, or an allocation failed and nothing was written
    abbrev pub IsStep : LinePosition → Option (List ℕ) → Option (List ℕ) → Explanations → Explanations
        → Result LineStep WriteFault → Type 0
    IsStep at old new reported more (Ok (Answers said n)) = (line : List ℕ) × GoesBy form input at line n
        × Reported line said × AddsReported at line said reported more
        × Appends old new (printed_line form (at.count + 1) line said)
    IsStep at old new reported more (Ok (Stops why)) = (more ≡ reported)
        × (((why ≡ NoMemory) × Keeps old new)
        ⊎ ((last : List ℕ) × LinesEnd NeedsMore form input at last why × Appends old new last))
    IsStep at old new reported more (Err fault) = (text : List ℕ) × StepText at reported more text
        × AppendsPart old new text
