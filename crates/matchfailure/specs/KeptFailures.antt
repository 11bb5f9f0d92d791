-- The farthest failing comparisons so far.
use Rattle.std.specs.Prelude.{◌≡◌, ◌⊎◌, ℕ, ◌<◌, List, Option, Some, None}
use Rattle.matchfailure.specs.VisitLists.{ListsVisit}
use Rattle.matchfailure.specs.declared.farthest.visit.Visit.{Visit}
use Rattle.matchfailure.specs.declared.tasks.kept.KeptFailures.{KeptFailures}

-- the comparison of node n at p, which fails at byte f, is there, or one that fails farther
abbrev pub IsRecordedBy : Option ℕ → List Visit → ℕ → ℕ → ℕ → Type 0
IsRecordedBy None vs n p f = ⊥
IsRecordedBy (Some far) vs n p f = (f < far) ⊎ ((f ≡ far) × ListsVisit vs (record { node = n; position = p }))

abbrev pub IsRecorded : KeptFailures → ℕ → ℕ → ℕ → Type 0
IsRecorded kept n p f = IsRecordedBy kept.position kept.visits.items n p f

-- what was recorded still is
abbrev pub StaysRecorded : KeptFailures → KeptFailures → Type 0
StaysRecorded old new = (n p f : ℕ) → IsRecorded old n p f → IsRecorded new n p f

-- Of a failing comparison at byte f it is recorded.
pub record AddsFailure (v : Visit) (f : ℕ) (old new : KeptFailures) : Type 0 where
  pub recorded : IsRecorded new v.node v.position f
  pub stays : StaysRecorded old new
  pub only : (w : Visit) → ListsVisit new.visits.items w
      → ((new.position ≡ old.position) × ListsVisit old.visits.items w) ⊎ ((w ≡ v) × (new.position ≡ Some f))
  pub some : ListsVisit new.visits.items v
      ⊎ ((new.position ≡ old.position) × (new.visits.items ≡ old.visits.items))
