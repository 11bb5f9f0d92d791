-- What a run asked its matcher for, of the input that its reader had.
-- Serves: run_units
use Rattle.std.proofs.Common.{◌≡◌, ℕ, suc, ◌+◌, ◌*◌, ◌≤◌, Bool, List, [], length, Option, Some, None, refl, ap, arith}
use Rattle.std.proofs.Math.Nat.{mul-le-mul_left, mul-suc}
use Rattle.std.specs.Prelude.{IfSome}
use Rattle.std.specs.Io.KnownBytes.{Consumes}
use Rattle.feed.specs.Feed.{IsReportedBy, input_limit}
use Rattle.feed.specs.declared.held.Flow.{Flow}
use Rattle.pegread.specs.Pattern.{Rule}
use Rattle.pegrun.specs.MatchCalls.{HasFewCalls}
use Rattle.pegrun.specs.Units.{none}
use Rattle.toolrun.proofs.AgreesLemmas.{agrees_of}
use Rattle.toolrun.specs.Agrees.{Agrees}
use Rattle.toolrun.specs.Input.{Input, input_from}
use Rattle.pegrun.specs.PegSettings.{PegSettings}

-- at most k matches for each of so many units, and for some more of which none was asked for
pub few_with_more : (k was calls u v n : ℕ) → calls ≤ was + k * u → v ≡ u + n → calls ≤ was + k * v
few_with_more k was calls u v n few is =
    let more = mul-le-mul_left {m = u} {n = v} k (omega (arith, is)) in
    omega (arith, few, more)

-- and at most k for one unit more
pub few_with_one : (k was calls now u v : ℕ) → calls ≤ was + k * u → now ≤ calls + k → v ≡ suc u → now ≤ was + k * v
few_with_one k was calls now u v few one is =
    let more = mul-suc k u in
    let same = ap (λ n. k * n) is in
    omega (arith, few, one, more, same)

pub few_at_stop : (k was calls now u : ℕ) → calls ≤ was + k * u → now ≤ calls + k → now ≤ was + k * (u + 1)
few_at_stop k was calls now u few one = few_with_one k was calls now u (u + 1) few one (omega arith)

-- and of none for the unit at which the run stops
pub few_before_stop : (k was calls u : ℕ) → calls ≤ was + k * u → calls ≤ was + k * (u + 1)
few_before_stop k was calls u few = few_with_more k was calls u (u + 1) 1 few refl

module _ (rules : List Rule) (start : ℕ) (settings : PegSettings) (was calls : ℕ) where
  -- of a reader whose bytes are stated
  abbrev FewGiven : Option (List ℕ) → Option (List ℕ) → Bool → Type 0
  FewGiven old new failed = IfSome old (λ given. (taken : List ℕ) × Consumes old new taken
      × HasFewCalls rules start settings (input_from given taken failed) (length taken) was calls)

  few_given : (old new : Option (List ℕ)) (failed ended : Bool) (left : ℕ) (flow : Flow)
      → IsReportedBy new failed ended left flow →
      ((seen : List ℕ) × Consumes old new seen × (left + length seen ≡ input_limit) ×
      ((input : Input) → Agrees seen flow input → HasFewCalls rules start settings input (length seen) was calls))
      → FewGiven old new failed
  few_given None new failed ended left flow reported run = tt
  few_given (Some given) new failed ended left flow reported (seen, gives, count, few) = (
    seen,
    gives,
    few (input_from given seen failed) (agrees_of given seen new failed ended left flow gives count reported),
  )

  -- the reader is given back as it was after the last unit
  pub few_calls_given : {R : Type 0} (remaining : R → Option (List ℕ)) (failed ended : R → Bool) (old now final : R)
      (left : ℕ) (flow : Flow) → final ≡ now → IsReportedBy (remaining now) (failed now) (ended now) left flow →
      ((seen : List ℕ) × Consumes (remaining old) (remaining now) seen × (left + length seen ≡ input_limit) ×
      ((input : Input) → Agrees seen flow input → HasFewCalls rules start settings input (length seen) was calls))
      → FewGiven (remaining old) (remaining final) (failed final)
  few_calls_given remaining failed ended old now final left flow is reported run =
      rw is (few_given (remaining old) (remaining now) (failed now) (ended now) left flow reported run)

-- nothing was read, and no match was asked for
pub no_calls_given : (rules : List Rule) (start : ℕ) (settings : PegSettings) (calls : ℕ) (old : Option (List ℕ))
    (failed : Bool) → IfSome old (λ given. (taken : List ℕ) × Consumes old old taken
    × HasFewCalls rules start settings (input_from given taken failed) (length taken) calls calls)
no_calls_given rules start settings calls None failed = tt
no_calls_given rules start settings calls (Some given) failed = (
  [],
  refl,
  record { position = 0; within = omega arith; text = []; units = none; few = omega arith },
)
