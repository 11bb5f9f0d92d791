-- What a match leaves.
use Rattle.std.specs.Prelude.{◌≡◌, ℕ, ◌<◌, ◌≤◌, Bool, true, List, [], length, slice_get, Option, Some, None}
use Rattle.pegread.specs.PegViews.{rules_of}
use Rattle.gramcheck.specs.Grammar.{Grammar}
use Rattle.pegnodes.specs.Nodes.{shapes_of}
use Rattle.gramcheck.specs.Outcome.{Event, Outcome}
use Rattle.memo.specs.declared.found.Found.{Found}
use Rattle.memo.specs.declared.found.Found.TheVariants as found
use Rattle.pegmatch.specs.Answers.{StartGives, WasEnough}
use Rattle.pegmatch.specs.KeptEvents.{outcome_of, StandFor}
use Rattle.pegmatch.specs.declared.event.Kept.{Kept}
use Rattle.pegmatch.specs.declared.matcher.Unit.{Unit as UnitAnswer}
use Rattle.pegmatch.specs.declared.matcher.Unit.TheVariants.{Took, Failed, Need}
use Rattle.memo.specs.Entries.{Entry}
use Rattle.memo.specs.KeyLog.{tasks_of}
use Rattle.memo.specs.declared.key_log.Given.{Given}
use Rattle.memo.specs.declared.key_log.Stored.{Stored}
use Rattle.pegnodes.specs.KeyLists.{node_marks, tail_marks}
use Rattle.memo.specs.Parts.{IsIn}
use Rattle.memo.specs.declared.task.MatchTask.{MatchTask}
use Rattle.memo.specs.declared.task.MatchTask.TheVariants.{Eval}
use Rattle.packrat.specs.TaskGives.{AreRight}
use Rattle.packrat.specs.View.{AreStored, AreReachedKeys, AreVisitedEvals}
use Rattle.pegmatch.specs.VisitedCells.{AreVisitedCells}
use Rattle.packrat.specs.declared.frames.Frame.{Frame}
use Rattle.pegnodes.specs.KeyLists.{Marks}

-- the stored keys with their outcomes and the frames, each with the last one first; how many evaluations were begun;
-- the
-- events of the last success; and how many matches it was asked for since it was made
pub record Contents : Type 0 where
  pub stored : List Stored
  pub frames : List Frame
  pub begun : ℕ
  pub kept : List Kept
  pub matches : ℕ

-- nothing is stored after so many matches
abbrev pub empty : ℕ → Contents
empty matches = record { stored = []; frames = []; begun = 0; kept = []; matches = matches }

-- It holds these events, for a grammar.
abbrev pub Holds : Contents → Grammar → List ℕ → List Event → Type 0
Holds c g x events = StandFor (shapes_of g.nodes) c.kept events

-- the head of the events of what a match found
abbrev pub head_of : Option Given → ℕ
head_of None = 0
head_of (Some given) = given.events

-- the answer for what was found
abbrev pub unit_of : Found → ℕ → UnitAnswer
unit_of found.Failed begun = Failed begun
unit_of (found.Took end) begun = Took end begun

-- likewise for what a match found, or that the window is too short
abbrev pub unit_of_match : Option Given → ℕ → UnitAnswer
unit_of_match None begun = Need
unit_of_match (Some given) begun = unit_of given.found begun

module _ (g : Grammar) (x : List ℕ) (more : Bool) where
  -- No frame is left. Stored are exactly the keys that are reached, each once and with what it gives. The cells are
  -- exactly the evaluations that are visited, each with its outcome and once, and as many as were begun.
  pub record IsDone (marks : Marks) (c : Contents) : Type 0 where
    pub frames : c.frames ≡ []
    pub keys : (root : ℕ) → slice_get g.bodies g.start ≡ Some root →
        AreStored (rules_of g.rules) g.start (shapes_of g.nodes) g.bodies x more (node_marks marks) (tail_marks marks)
        root (tasks_of c.stored)
    pub right : AreRight g x more c.stored
    pub cells : List Entry
    pub every : AreVisitedCells (rules_of g.rules) g.start (shapes_of g.nodes) g.bodies x more cells
    pub count : c.begun ≡ length cells

  -- the start rule's outcome, which did not look at the last byte of a window that more bytes follow
  pub record Answers (f : Found) : Type 0 where
    pub events : List Event
    pub looked : ℕ
    pub gives : StartGives g x (outcome_of f events) looked
    pub enough : WasEnough x more looked

  -- What a match holds where it stops for lack of bytes: no frame and no event. Stored are keys that are reached, each
  -- once and with what it gives. The evaluations are those that were begun. They stand before the window's end, and
  -- those of the stored keys are among them.
  pub record IsOnTheWay (marks : Marks) (c : Contents) : Type 0 where
    pub frames : c.frames ≡ []
    pub kept : c.kept ≡ []
    pub keys : (root : ℕ) → slice_get g.bodies g.start ≡ Some root →
        AreReachedKeys (rules_of g.rules) g.start (shapes_of g.nodes) g.bodies x more (node_marks marks)
        (tail_marks marks) root (tasks_of c.stored)
    pub right : AreRight g x more c.stored
    pub evals : List MatchTask
    pub visited : AreVisitedEvals (rules_of g.rules) g.start (shapes_of g.nodes) g.bodies x more evals
    pub near : (n p : ℕ) → IsIn (Eval n p) evals → p < length x
    pub among : (n p : ℕ) → IsIn (Eval n p) (tasks_of c.stored) → IsIn (Eval n p) evals
    pub some : 1 ≤ c.begun
    pub count : c.begun ≡ length evals

  -- What a match ends with. All is evaluated, and a failure has no events; or the start rule looks at the last byte of
  -- a window that more bytes follow, and the match stops on its way.
  abbrev pub IsOutcome : Marks → Contents → UnitAnswer → Type 0
  IsOutcome marks c (Took end begun) = IsDone marks c × Answers (found.Took end) × (begun ≡ c.begun)
  IsOutcome marks c (Failed begun) =
      IsDone marks c × Answers found.Failed × (begun ≡ c.begun) × (c.kept ≡ [])
  IsOutcome marks c Need = IsOnTheWay marks c × (more ≡ true) × ((o : Outcome) × StartGives g x o (length x))
