-- The failures that are found in what is seen.
-- Serves: explain_no_match
use Rattle.std.proofs.Common.{◌≡◌, ℕ, zero, suc, ◌+◌, ◌^◌, ◌<◌, ◌≤◌, Bool, List, ◌++◌, drop, Option, Some, None}
use Rattle.std.proofs.Common.{length, length-drop, refl, sym, ap, ◌∙◌, subst, arith, add-zero}
use Rattle.std.specs.Option.{MatchOption}
use Rattle.std.specs.Prelude.{IfSome}
use Rattle.matchfailure.specs.Farthest.{IsFarthest, NoneFails}
use Rattle.matchfailure.specs.ReportedUnit.{reported_unit_of}
use Rattle.matchfailure.specs.VisitLists.{AreWithin}
use Rattle.matchfailure.specs.declared.farthest.failures.Farthest.{Farthest}
use Rattle.matchfailure.specs.declared.farthest.reported.LastUnit.{LastUnit}
use Rattle.matchfailure.specs.declared.farthest.visit.Visit.{Visit}
use Rattle.pegnodes.specs.NodeLists.{AreNumbered}
use Rattle.pegnodes.specs.Nodes.{Shape}
use Rattle.pegread.specs.Pattern.{Rule}
use Rattle.matchfailure.specs.FittingFailures.{IsFitting}
use Rattle.matchfailure.specs.FoundFailures.{IsFound, IsFoundBefore, failure_found}
use Rattle.matchfailure.specs.NoMatches.{IsNoMatchReported, IsFailureOf, IsUnitFailure, failing_byte, failure_of}
use Rattle.matchfailure.specs.NoMatches.{AreReportedOf, lines_of_failure, no_match_lines, reported_failure}
use Rattle.matchfailure.specs.NoMatches.{unit_before}
use Rattle.matchfailure.specs.NoMatchLines.{opening}
use Rattle.matchfailure.specs.NodeTexts.{name_of_rule}
use Rattle.matchfailure.specs.UnitEnds.{EndsSo, outcome_at, takes_no_byte}
use Rattle.gramcheck.specs.Outcome.{Event, RuleGives}
use Rattle.matchfailure.specs.InputPositions.{position_after}
use Rattle.matchfailure.specs.declared.explain.position.TextPosition.{TextPosition}
use Rattle.matchfailure.proofs.FoundLinesLemmas.{seen-from}

-- what is found is within what is seen, so that its numbers fit
pub found-fits : (found : Option Farthest) (nodes count size unit : ℕ) (N : Type 0) (F : ℕ → List Visit → Type 0)
    → ((f : ℕ) (vs : List Visit) → F f vs → f ≤ size) → ((f : ℕ) (vs : List Visit) → F f vs → AreWithin count size vs)
    → count ≡ nodes → unit + size < 2 ^ 63 → MatchOption found N (λ far. F far.position far.expected.items)
    → IfSome found (IsFitting nodes size unit)
found-fits None nodes count size unit N F position expected same less m = tt
found-fits (Some far) nodes count size unit N F position expected same less m = record {
  position = position far.position far.expected.items m;
  expected = λ v listed. let within = expected far.position far.expected.items m v listed in
      (omega (arith, same, within.0), omega (arith, less, within.1));
}

-- so does its position
pub position-fits : (found : Option Farthest) (nodes size unit : ℕ) → unit + size < 2 ^ 63
    → ((u : ℕ) → u + size < 2 ^ 63 → IfSome found (IsFitting nodes size u))
    → IfSome found (λ far. unit + far.position < 2 ^ 63)
position-fits None nodes size unit less fits = tt
position-fits (Some far) nodes size unit less fits = let there = (fits unit less).position in omega (arith, less, there)

-- a unit that begins so many bytes after the front of what is seen has room
pub room-from : (front seen rest : List ℕ) (at : TextPosition) (offset : ℕ) → at ≡ position_after front
    → length front + length seen < 2 ^ 63 → offset ≤ length seen → rest ≡ drop offset seen
    → at.byte + offset + length rest < 2 ^ 63
room-from front seen rest at offset is less within same =
    let byte = ap (λ (p : TextPosition). p.byte) is in
    omega (arith, byte, less, within, length-drop offset seen, ap length same)

module _ (rules : List Rule) (start : ℕ) (nodes : List Shape) (bodies front seen : List ℕ) (at : TextPosition)
    (is : at ≡ position_after front) where
  -- what is found in what is seen fails so in the input
  found-failure : (offset : ℕ) (found : Option Farthest) → IsFound rules start nodes bodies (drop offset seen) found
      → IsUnitFailure rules start nodes bodies (front ++ seen) (at.byte + offset)
      (failure_found (at.byte + offset) found)
  found-failure offset None f =
      subst (λ w. NoneFails rules nodes bodies w start) (sym (seen-from front seen at offset is)) f
  found-failure offset (Some far) f = (
    refl,
    subst (λ w. IsFarthest rules nodes bodies w start far.position far.expected.items)
        (sym (seen-from front seen at offset is)) f,
  )

  failure-before : (last : ℕ) (found : Option Farthest) → IsFoundBefore rules start nodes bodies seen last found
      → IsFailureOf rules start nodes bodies (front ++ seen) (unit_before at.byte last) (failure_found at.byte found)
  failure-before zero found f = ap (failure_found at.byte) f
  failure-before (suc last) found f =
      subst (λ b. IsUnitFailure rules start nodes bodies (front ++ seen) b (failure_found b found)) (add-zero at.byte)
      (found-failure 0 found f)

  pub no-match-reported : AreNumbered rules nodes bodies → (last : ℕ) (before latest : Option Farthest)
      → IsFoundBefore rules start nodes bodies seen last before
      → IsFound rules start nodes bodies (drop last seen) latest → (reported t : LastUnit) (b l : Option ℕ)
      (lines : List ℕ)
      → t ≡ reported_unit_of b l → b ≡ failing_byte (failure_found at.byte before)
      → l ≡ failing_byte (failure_found (at.byte + last) latest) → t ≡ reported
      → (listed : List Visit) → AreReportedOf rules start nodes bodies
      (failure_of reported (failure_found at.byte before) (failure_found (at.byte + last) latest)) listed
      → lines ≡ lines_of_failure rules nodes bodies (front ++ seen)
      (failure_of reported (failure_found at.byte before) (failure_found (at.byte + last) latest)) listed
      → (end : Option ℕ) → EndsSo rules start (drop last seen) end → (stuck : Bool)
      → ((events : List Event) → stuck ≡ takes_no_byte (outcome_at end events)) → (why : List ℕ)
      → why ≡ opening stuck (name_of_rule rules start) lines ++ lines
      → IsNoMatchReported rules start (front ++ seen) (unit_before at.byte last) (at.byte + last) why
  no-match-reported numbered last before latest f g reported t b l lines e h k same listed in_report_order are end ends
      stuck tested
      why whole =
      let failure : failure_of reported (failure_found at.byte before) (failure_found (at.byte + last) latest)
      ≡ reported_failure (failure_found at.byte before) (failure_found (at.byte + last) latest) =
      ap (λ u. failure_of u (failure_found at.byte before) (failure_found (at.byte + last) latest))
      (sym same ∙ e ∙ ap (λ x. reported_unit_of x l) h
      ∙ ap (reported_unit_of (failing_byte (failure_found at.byte before))) k) in record {
        nodes = nodes;
        bodies = bodies;
        numbered = numbered;
        of_before = failure_found at.byte before;
        of_last = failure_found (at.byte + last) latest;
        before_fails = failure-before last before f;
        last_fails = found-failure last latest g;
        outcome = outcome_at end ends.events;
        looked = ends.looked;
        gives = subst (λ w. RuleGives rules start w (outcome_at end ends.events) ends.looked)
            (sym (seen-from front seen at last is)) ends.gives;
        reported = listed;
        in_report_order = subst (λ o. AreReportedOf rules start nodes bodies o listed) failure in_report_order;
        are = whole ∙ ap (λ s. opening s (name_of_rule rules start) lines ++ lines) (tested ends.events)
            ∙ ap (no_match_lines (outcome_at end ends.events) (name_of_rule rules start))
            (are ∙ ap (λ o. lines_of_failure rules nodes bodies (front ++ seen) o listed) failure);
      }
