-- Nodes whose outcome, or whose operand's, the byte at their position decides.
use Rattle.std.specs.Prelude.{◌≡◌, ℕ, ◌+◌, ◌<◌, Bool, true, false, List, length, slice_get, Some}
use Rattle.gramcheck.specs.Grammar.{Grammar}
use Rattle.pegnodes.specs.ByByte.{ByByte}
use Rattle.pegnodes.specs.KeyLists.{Marks, node_marks, tail_marks}
use Rattle.pegnodes.specs.Nodes.{Plus, shapes_of}
use Rattle.pegnodes.specs.declared.by_byte.Decided.{Decided}
use Rattle.pegnodes.specs.declared.by_byte.ByteVerdict.{ByteVerdict}
use Rattle.pegnodes.specs.declared.by_byte.ByteVerdict.TheVariants.{Takes}
use Rattle.memo.specs.declared.task.MatchTask.{MatchTask}
use Rattle.memo.specs.declared.task.MatchTask.TheVariants.{Eval, Tail}
use Rattle.packrat.specs.ByteGives.{found_by}
use Rattle.packrat.specs.Onward.{IsLed}
use Rattle.packrat.specs.declared.known.Known.{Known}
use Rattle.packrat.specs.declared.known.Taken.{Taken}

-- the task that is a repetition of one or more
abbrev pub taken_of : Taken → MatchTask
taken_of t = Eval t.plus t.position

module _ (g : Grammar) (x : List ℕ) (more : Bool) (marks : Marks) where
  -- The byte at position p decides this of node k. If more bytes follow the window, the byte is not its last one.
  pub record IsDecidedAt (k p : ℕ) (d : Decided) : Type 0 where
    pub byte : ℕ
    pub here : slice_get x p ≡ Some byte
    pub last : more ≡ true → p + 1 < length x
    pub decides : ByByte (shapes_of g.nodes) g.bodies (node_marks marks) (tail_marks marks) byte k d.verdict d.count

  -- The byte at position p decides that node n gives this there, without events, and by so many evaluations. If more
  -- bytes follow the window, the byte is not its last one.
  pub record IsKnownAt (n p : ℕ) (known : Known) : Type 0 where
    pub byte : ℕ
    pub here : slice_get x p ≡ Some byte
    pub last : more ≡ true → p + 1 < length x
    pub verdict : ByteVerdict
    pub decides : ByByte (shapes_of g.nodes) g.bodies (node_marks marks) (tail_marks marks) byte n verdict known.evals
    pub found : known.found ≡ found_by verdict p

  -- likewise of a task
  abbrev pub IsKnown : MatchTask → Known → Type 0
  IsKnown (Eval n p) known = IsKnownAt n p known
  IsKnown (Tail n i p) known = ⊥

  -- The byte at position p decides that node k takes it, by so many evaluations, likewise.
  pub record IsTakenAt (k p evals : ℕ) : Type 0 where
    pub byte : ℕ
    pub here : slice_get x p ≡ Some byte
    pub last : more ≡ true → p + 1 < length x
    pub takes : ByByte (shapes_of g.nodes) g.bodies (node_marks marks) (tail_marks marks) byte k Takes evals

  -- likewise of the operand of a repetition of one or more
  pub record IsTaken (t : Taken) : Type 0 where
    pub at : slice_get (shapes_of g.nodes) t.plus ≡ Some (Plus t.operand t.star)
    pub led : IsLed g x more false (taken_of t) (Eval t.operand t.position)
    pub by_byte : IsTakenAt t.operand t.position t.evals
