-- Turns of a repetition over bytes that decide them.
use Rattle.std.specs.Prelude.{◌≡◌, ℕ, ◌+◌, ◌-◌, ◌<◌, ◌≤◌, Bool, true, false, List, ◌∷◌, Option, length, slice_get, Some}
use Rattle.pegread.specs.PegViews.{rules_of}
use Rattle.pegnodes.specs.ByByte.{ByByte, AreIterations}
use Rattle.gramcheck.specs.Grammar.{Grammar, HasKeys}
use Rattle.pegnodes.specs.KeyLists.{Marks, node_marks, tail_marks}
use Rattle.pegnodes.specs.Nodes.{Star, shapes_of}
use Rattle.pegnodes.specs.declared.by_byte.Decided.{Decided}
use Rattle.pegnodes.specs.declared.by_byte.ByteVerdict.TheVariants.{Fails}
use Rattle.pegmatch.specs.KeptEvents.{SpellsSome}
use Rattle.memo.specs.declared.task.MatchTask.{MatchTask}
use Rattle.memo.specs.declared.task.MatchTask.TheVariants.{Eval}
use Rattle.packrat.specs.ByteGives.{AreFresh}
use Rattle.packrat.specs.declared.frames.Frame.{Frame}
use Rattle.packrat.specs.declared.frames.Wait.TheVariants.{Turned}
use Rattle.packrat.specs.declared.iterations.Iterations.{Iterations}

-- A byte stands there, before the position `to`, whose entry says that the node fails. The evaluations are those that
-- the entry counts, and one more.
pub record IsClosing (entries : List (Option Decided)) (x : List ℕ) (at to evals : ℕ) : Type 0 where
  pub before : at < to
  pub byte : ℕ
  pub here : slice_get x at ≡ Some byte
  pub decided : Decided
  pub entry : slice_get entries byte ≡ Some (Some decided)
  pub fails : decided.verdict ≡ Fails
  pub count : evals ≡ 1 + decided.count

module _ (g : Grammar) (x : List ℕ) (more : Bool) (marks : Marks) where
  -- Repetition s of node k takes the bytes between p and q by iterations that the bytes decide, which are so many
  -- evaluations. If more bytes follow the window, its last byte is none of them.
  pub record AreTurned (s k p q count : ℕ) : Type 0 where
    pub at : slice_get (shapes_of g.nodes) s ≡ Some (Star k)
    pub spelled : SpellsSome (rules_of g.rules) (shapes_of g.nodes) s
    pub low : p ≤ q
    pub within : q ≤ length x
    pub last : more ≡ true → q < length x
    pub iterations : AreIterations (shapes_of g.nodes) g.bodies x (node_marks marks) (tail_marks marks) k p
        (q - p) count

  -- the byte at position q decides that node k fails there, and so that a repetition of it ends there, with so many
  -- evaluations
  pub record IsStopped (k q count : ℕ) : Type 0 where
    pub byte : ℕ
    pub here : slice_get x q ≡ Some byte
    pub evals : ℕ
    pub fails : ByByte (shapes_of g.nodes) g.bodies (node_marks marks) (tail_marks marks) byte k Fails evals
    pub is : count ≡ 1 + evals
    pub last : more ≡ true → q + 1 < length x

  -- The byte after the iterations decides that the repetition ends there; or there is an iteration at least.
  abbrev pub AreEnded : Bool → Iterations → ℕ → Type 0
  AreEnded true t count = (d : ℕ) × IsStopped t.operand t.end d × (t.evals ≡ count + d)
  AreEnded false t count = (t.from < t.end) × (t.evals ≡ count)

  -- what is decided of a repetition from a position on
  abbrev pub AreDecided : Iterations → Type 0
  AreDecided t = (count : ℕ) × AreTurned t.star t.operand t.from t.end count × AreEnded t.whole t count

  -- iterations from a task on; none of their evaluations is stored that is a key
  pub record AreFree (stored : List MatchTask) (a : MatchTask) (t : Iterations) : Type 0 where
    pub decided : AreDecided t
    pub task : a ≡ Eval t.star t.from
    pub star : (n : ℕ) → AreFresh (node_marks marks t.star) t.star t.from n stored
    pub operand : (n : ℕ) → AreFresh (node_marks marks t.operand) t.operand t.from n stored

-- The frames of a repetition that awaits its result after its iterations: it has one if it is a key.
abbrev pub AreTurnedFrames : Bool → Iterations → List Frame → List Frame → Type 0
AreTurnedFrames true t old new =
    new ≡ record { task = Eval t.star t.from; key = true; wait = Turned (t.end - 1) } ∷ old
AreTurnedFrames false t old new = new ≡ old

-- its marks are right, and its start rule has a body
abbrev pub IsKeyed : Grammar → Type 0
IsKeyed g = HasKeys g × ((root : ℕ) × (slice_get g.bodies g.start ≡ Some root))
