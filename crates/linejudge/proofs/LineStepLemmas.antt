-- The answer to what is held is a step of the run.
-- Serves: run_lines
use Rattle.std.proofs.Common.{◌≡◌, ℕ, ◌+◌, Bool, false, Option, List, [], take, drop, refl, ◌∙◌, arith}
use Rattle.std.proofs.Common.{inl, inr, subst}
use Rattle.std.specs.Prelude.{Result, Ok, Err, IfOk, IfErr, OnErr}
use Rattle.std.proofs.lemmas.List.{take_all}
use Rattle.ruletable.proofs.AppendsLemmas.{Appends-kept, Appends-same}
use Rattle.ruletable.specs.Writing.{Writes}
use Rattle.ruletable.specs.declared.sink.WriteFault.{WriteFault}
use Rattle.toolrun.specs.Input.{Input}
use Rattle.toolrun.specs.declared.stop.Stop.TheVariants.{Quiet, LongLine}
use Rattle.toolrun.specs.declared.stop.Stop.TheVariants as stop
use Rattle.linejudge.specs.InputLines.{IsNext, StandsAt, with_end, without_end, status_after, broken, costly, overlong}
use Rattle.linejudge.specs.InputLines.{GoesBy, IsNoAnswer, LinesEnd, is_over, kept_line, kept_size, printed_last}
use Rattle.linejudge.specs.LineSteps.{Answered, IsStep, StepsAfter, of_end, of_line}
use Rattle.linejudge.specs.declared.answers.Answer.{Answer}
use Rattle.linejudge.specs.declared.answers.NoAnswer.{NoAnswer}
use Rattle.linejudge.specs.declared.answers.NoAnswer.TheVariants as no_answer
use Rattle.linejudge.specs.declared.line.Line.TheVariants as line
use Rattle.linejudge.specs.declared.line.LineForm.{LineForm}
use Rattle.linejudge.specs.declared.line_loop.LineStep.{LineStep}
use Rattle.linejudge.specs.declared.line_loop.LineStep.TheVariants.{Stops}
use Rattle.linejudge.specs.declared.reached.LinePosition.{LinePosition}
use Rattle.linejudge.specs.declared.reached.Explanations.{Explanations}
use Rattle.linejudge.proofs.KeptLineLemmas.{kept_is}

module _ (Reported : List ℕ → Answer → Type 0) (asked : Bool) (Refusal : List ℕ → ℕ → List ℕ → Type 0)
    (NeedsMore : List ℕ → ℕ → Type 0) (form : LineForm) (input : Input) (at : LinePosition)
    (old new : Option (List ℕ)) (reported more : Explanations) where
  abbrev rest : List ℕ
  rest = drop at.position input.bytes

  abbrev IsAnswered : List ℕ → List ℕ → Answer → Type 0
  IsAnswered line text = Answered Reported asked Refusal form at line reported more text

  abbrev IsCostly : List ℕ → NoAnswer → Type 0
  IsCostly line none = IsNoAnswer (NeedsMore line) none

  -- a line that is answered
  line_is : (line : List ℕ) (n : ℕ) (text : List ℕ) (answered : Result Answer NoAnswer) (r : Result LineStep WriteFault)
      → GoesBy form input at line n → IfOk answered (IsAnswered line text) → IfErr answered (IsCostly line)
      → OnErr answered (more ≡ reported) → StepsAfter (at.count + 1) n old new text answered r
      → IsStep Reported asked Refusal NeedsMore form input at old new reported more r
  line_is line n text (Ok said) (Ok step) stands is none fails (writes, same) =
      let shown = is.prints in rw same (line, stands, is.is_reported, is.adds, rw shown at writes)
  line_is line n text (Ok said) (Err fault) stands is none fails (part, same) =
      let shown = is.prints in (_, of_line line n said stands is.is_reported is.adds, rw shown at part)
  line_is line n text (Err no_answer.Memory) r stands is none kept (keeps, same) = rw same (kept, inl (refl, keeps))
  line_is line n text (Err (no_answer.Costly budget)) r stands is none kept (keeps, same) =
      rw same (kept, inr ([], costly line n budget stands none, Appends-kept old old new [] (Appends-same old) keeps))

  -- a line and its end
  pub whole_is : (n : ℕ) (held text : List ℕ) (answered : Result Answer NoAnswer) (r : Result LineStep WriteFault)
      → is_over form at ≡ false → held ≡ take (kept_size form n) rest → IsNext form input at.position (line.Whole n)
      → IfOk answered (IsAnswered held text) → IfErr answered (IsCostly held) → OnErr answered (more ≡ reported)
      → StepsAfter (at.count + 1) (n + 1) old new text answered r → IsStep Reported asked Refusal NeedsMore form input
      at old new reported more r
  whole_is n held text answered r goes is next answers none fails steps =
      let judged : List ℕ = kept_line form (take n rest) in
      let stands : StandsAt form input at.position judged (n + 1) =
      subst (λ (k : ℕ). StandsAt form input at.position judged (k + 1)) next.1 (with_end (take n rest) next.0) in
      let all : held ≡ judged = is ∙ kept_is form n rest (take n rest) next.0.after next.0.cut next.1 in
      line_is judged (n + 1) text answered r (record { goes = goes; stands = stands }) (rw all at answers)
      (rw all at none) fails steps

  -- a last line without an end
  pub last_is : (n : ℕ) (held text : List ℕ) (answered : Result Answer NoAnswer) (r : Result LineStep WriteFault)
      → is_over form at ≡ false → held ≡ take n rest → IsNext form input at.position (line.Last n)
      → IfOk answered (IsAnswered held text)
      → IfErr answered (IsCostly held) → OnErr answered (more ≡ reported) → StepsAfter (at.count + 1) n old new text
      answered r
      → IsStep Reported asked Refusal NeedsMore form input at old new reported more r
  last_is n held text answered r goes is next answers none fails steps =
      let all : held ≡ rest = is ∙ take_all n rest (let len = next.1 in omega (arith, len)) in
      let stands : StandsAt form input at.position rest n =
      subst (λ (k : ℕ). StandsAt form input at.position rest k) next.1 (without_end next.0) in
      line_is rest n text answered r (record { goes = goes; stands = stands }) (rw all at answers)
      (rw all at none) fails steps

module _ (Reported : List ℕ → Answer → Type 0) (asked : Bool) (Refusal : List ℕ → ℕ → List ℕ → Type 0)
    (NeedsMore : List ℕ → ℕ → Type 0) (form : LineForm) (input : Input) (at : LinePosition)
    (old new : Option (List ℕ)) (reported : Explanations) where
  -- no line
  pub long_is : is_over form at ≡ false → IsNext form input at.position line.Overlong
      → IsStep Reported asked Refusal NeedsMore form input at old old reported reported
      (Ok (Stops (LongLine (at.count + 1) form.limit)))
  long_is goes next = (refl, inr ([], overlong goes next, Appends-same old))

  pub end_is : (r : Result LineStep WriteFault) → LinesEnd NeedsMore form input at
      (printed_last form.name form.printed at)
      (Quiet (status_after at.refused))
      → Writes old new (printed_last form.name form.printed at) r
      → IfOk r (λ s. s ≡ Stops (Quiet (status_after at.refused)))
      → IsStep Reported asked Refusal NeedsMore form input at old new reported reported r
  end_is (Ok step) ends writes same = rw same (refl, inr (printed_last form.name form.printed at, ends, writes))
  end_is (Err fault) ends part same = (printed_last form.name form.printed at, of_end _ _ ends refl, part)

  pub broken_is : is_over form at ≡ false → IsNext form input at.position line.Broken
      → IsStep Reported asked Refusal NeedsMore form input at old old reported reported (Ok (Stops stop.Broken))
  broken_is goes next = (refl, inr ([], broken goes next, Appends-same old))
