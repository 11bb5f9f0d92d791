-- What a run of a grammar states depends on the limit, options and explain of the settings alone.
-- Serves: peg_run
use Rattle.std.proofs.Common.{◌≡◌, ◌≤◌, ℕ, Bool, true, false, List, sym, ◌∙◌, subst, Option, ap, ap₂}
use Rattle.std.proofs.Math.Bridge.{le_prop}
use Rattle.pegread.specs.Pattern.{Rule}
use Rattle.gramcheck.specs.Grammar.{Grammar}
use Rattle.capi.specs.declared.runner.Runner.{Runner}
use Rattle.memoryrun.specs.PlannedRun.{IsPlannedRun}
use Rattle.pegrun.specs.PegReply.{Replies, RunStates}
use Rattle.pegrun.specs.StopsExplained.{MayLack, StopLines, UnitBefore, WhyStopped, none_before, one_before}
use Rattle.pegrun.proofs.SettingsLemmas.{plain_by, unit_by, units_by}
use Rattle.toolrun.specs.Explained.{ExplainedIf}
use Rattle.toolrun.specs.Input.{Input, bounded}
use Rattle.toolrun.specs.Reply.{Reply}
use Rattle.toolrun.specs.RunSteps.{cut_short, replied_reported, unexplained}
use Rattle.pegrun.specs.PegSettings.{PegSettings}
use Rattle.toolrun.specs.declared.stop.Stop.{Stop}
use Rattle.toolrun.specs.declared.stop.Stop.TheVariants.{Quiet, NoMatch, LongUnit, LongLine, Broken, NoMemory, Refused}
use Rattle.toolrun.specs.declared.stop.Stop.TheVariants.{CostlyUnit, CostlyLine, Unreadable}

explained_so : (asked : Bool) (Why Other : List ℕ → Type 0) → ((why : List ℕ) → Why why → Other why)
    → (why : List ℕ) → ExplainedIf asked Why why → ExplainedIf asked Other why
explained_so true Why Other f why is = f why is
explained_so false Why Other f why is = is

module _ (rules : List Rule) (start : ℕ) (a b : PegSettings) (input : Input) (limit : b.limit ≡ a.limit)
    (style : b.options.style ≡ a.options.style) (whole : b.options.whole ≡ a.options.whole)
    (budget : b.options.budget ≡ a.options.budget) (lines : b.options.line_buffered ≡ a.options.line_buffered)
    (explain : b.explain ≡ a.explain) where
  before_by : (s : ℕ) (before : Option ℕ) → UnitBefore rules start a input s before
      → UnitBefore rules start b input s before
  before_by s before none_before = none_before
  before_by s before (one_before at k text last us u lt) =
      one_before at k text last (units_by rules start a b input limit style whole budget lines at text us)
      (unit_by rules start a b input limit style whole budget lines at k last u) lt

  lines_by : (s : ℕ) (stop : Stop) (why : List ℕ) → StopLines rules start a input s stop why
      → StopLines rules start b input s stop why
  lines_by s (Quiet status) why is = is
  lines_by s (NoMatch at) why is = (is.0, before_by s is.0 is.1, rw limit is.2)
  lines_by s (LongUnit at l) why is = is
  lines_by s (CostlyUnit at budget) why is = is
  lines_by s (LongLine line l) why is = is
  lines_by s (CostlyLine line budget) why is = is
  lines_by s Broken why is = is
  lines_by s NoMemory why is = is
  lines_by s (Refused fault) why is = is
  lines_by s Unreadable why is = is

  why_by : (s : ℕ) (stop : Stop) (why : List ℕ) → WhyStopped rules start a input s stop why
      → WhyStopped rules start b input s stop why
  why_by s stop why is =
      subst (λ (e : Bool). ExplainedIf e (StopLines rules start b input s stop) why) (sym explain)
      (explained_so a.explain _ _ (lines_by s stop) why is)

  lack_by : (s : ℕ) (stop : Stop) → MayLack rules start a input s stop → MayLack rules start b input s stop
  lack_by s stop may = (explain ∙ may.0, may.1)

  reported_by : (reply : Reply) → Replies rules start a input reply → Replies rules start b input reply
  unfolding plain_by
  reported_by reply r = record {
    plain = r.plain;
    replies = plain_by rules start a b input limit style whole budget lines r.plain r.replies;
    before = r.before;
    reports = r.reports;
    why = r.why;
    explains = why_by r.replies.point r.replies.stop r.why r.explains;
    reported = r.reported;
  }

  states_by_same : (reply : Reply) → RunStates rules start a input reply → RunStates rules start b input reply
  unfolding plain_by
  states_by_same reply (replied_reported same r) = replied_reported same (reported_by same r)
  states_by_same reply (unexplained plain r reported reports may) =
      unexplained plain (plain_by rules start a b input limit style whole budget lines plain r) reported reports
      (lack_by r.point r.stop may)
  states_by_same reply (cut_short point out reported all before reports r begins) =
      cut_short point out reported all (units_by rules start a b input limit style whole budget lines point out before)
      reports
      (plain_by rules start a b input limit style whole budget lines all r) begins

-- so does what a run over memory gives
pub planned_by_same : (rules : List Rule) (start : ℕ) (a b : PegSettings) → b.limit ≡ a.limit
    → b.options.style ≡ a.options.style → b.options.whole ≡ a.options.whole
    → b.options.budget ≡ a.options.budget → b.options.line_buffered ≡ a.options.line_buffered → b.explain ≡ a.explain
    → {input out err : List ℕ} {code : ℕ}
    → IsPlannedRun (RunStates rules start a) input out err code
    → IsPlannedRun (RunStates rules start b) input out err code
planned_by_same rules start a b limit style whole budget lines explain {input} p = record {
  notes = p.notes;
  stated = p.stated;
  states = (
    p.states.0,
    states_by_same rules start a b (bounded input) limit style whole budget lines explain p.stated p.states.1,
  );
  out_failed = p.out_failed;
  err_failed = p.err_failed;
  delivers = p.delivers;
}

-- a runner keeps its settings where its grammar is the same
pub runner_stays : (old : Runner) (peg : Grammar) (within : (1 ≤ old.limit) × (old.limit ≤ 16777216)) → peg ≡ old.peg
    → ◌≡◌ {A = Runner} (record {
      peg = peg;
      limit = old.limit;
      style = old.style;
      whole = old.whole;
      budget = old.budget;
      line_buffered = old.line_buffered;
      explain = old.explain;
      in_range = within;
    }) old
runner_stays old peg within is = rw is (ap (λ (both : (1 ≤ old.limit) × (old.limit ≤ 16777216)). record old {
  in_range = both;
}) (ap₂ (λ (low : 1 ≤ old.limit) (high : old.limit ≤ 16777216). (low, high)) (le_prop within.0 old.in_range.0)
    (le_prop within.1 old.in_range.1)))
