-- How a task begins, in code.
use Rattle.std.specs.Prelude.{◌≡◌, ℕ, Bool, true, false, List, slice_get, Some}
use Rattle.gramcheck.specs.Grammar.{Grammar}
use Rattle.pegnodes.specs.Nodes.{Star, shapes_of}
use Rattle.pegmatch.specs.declared.leaves.Tried.{Tried}
use Rattle.memo.specs.declared.task.MatchTask.{MatchTask}
use Rattle.memo.specs.declared.task.MatchTask.TheVariants.{Eval}
use Rattle.packrat.specs.Known.{IsKnown, IsTaken, taken_of}
use Rattle.packrat.specs.Onward.{AfterStart, IsLed, ReachesEnd}
use Rattle.packrat.specs.Skipped.{AreSkipped}
use Rattle.packrat.specs.declared.onward.Begun.{Begun}
use Rattle.packrat.specs.declared.onward.Begun.TheVariants.{Starts, Knows, Takes, Skips, Repeats, Need}
use Rattle.packrat.specs.declared.onward.Repeated.{Repeated}
use Rattle.packrat.specs.declared.onward.Start.TheVariants.{Gives, Marks, Leads, Passes, Enters}

-- the task that is a repetition
abbrev pub repeated_of : Repeated → MatchTask
repeated_of r = Eval r.star r.position

module _ (g : Grammar) (x : List ℕ) (more : Bool) where
  -- a repetition of this operand leads to it
  abbrev pub IsRepeated : Repeated → Type 0
  IsRepeated r = (slice_get (shapes_of g.nodes) r.star ≡ Some (Star r.operand))
      × IsLed g x more false (repeated_of r) (Eval r.operand r.position)

  abbrev pub AfterNone : MatchTask → Begun → Type 0
  AfterNone a (Starts s) = AfterStart g x more a s
  AfterNone a (Knows known) = IsKnown g x more g.keys a known
  AfterNone a (Takes t) = (a ≡ taken_of t) × IsTaken g x more g.keys t
  AfterNone a (Skips s) = AreSkipped g x more g.keys a s
  AfterNone a (Repeats r) = (a ≡ repeated_of r) × IsRepeated r
  AfterNone a Need = ReachesEnd g x more a

-- the result of a comparison: what was found, unless it reached the last byte of a window that more bytes follow
abbrev pub IsLeaf : Tried → ℕ → Bool → Begun → Type 0
IsLeaf tried n more (Starts (Gives f)) = (f ≡ tried.found) × (more ≡ true → tried.looked ≡ n → ⊥)
IsLeaf tried n more (Starts (Marks kept)) = ⊥
IsLeaf tried n more (Starts (Leads k p)) = ⊥
IsLeaf tried n more (Starts (Passes k p)) = ⊥
IsLeaf tried n more (Starts (Enters e)) = ⊥
IsLeaf tried n more (Knows known) = ⊥
IsLeaf tried n more (Takes t) = ⊥
IsLeaf tried n more (Skips s) = ⊥
IsLeaf tried n more (Repeats r) = ⊥
IsLeaf tried n more Need = (more ≡ true) × (tried.looked ≡ n)
