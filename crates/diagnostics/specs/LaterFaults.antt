-- The faults of a text that is read anew after each of them, from the next line on that begins a rule by its form. Own.
use Rattle.std.specs.Prelude.{◌≡◌, ℕ, suc, ◌<◌, ◌≤◌, Bool, true, false, List, [], ◌++◌, Option, Some, None}
use Rattle.ruletable.specs.declared.fault.ReadFault.{ReadFault}
use Rattle.ruletable.specs.declared.fault.ReadFault.TheVariants as faults

-- the same fault on another line
abbrev pub on_line : ℕ → ReadFault → ReadFault
on_line line (faults.Syntax _) = faults.Syntax line
on_line line (faults.Depth _) = faults.Depth line
on_line line (faults.CodePredicate _) = faults.CodePredicate line
on_line line (faults.NumberTooLarge _) = faults.NumberTooLarge line
on_line line faults.TooLong = faults.TooLong
on_line line faults.Memory = faults.Memory

-- a position is the first one from another one on for which a test holds, and it lies before a third one
pub record IsFirstThere (test : ℕ → Bool) (from to found : ℕ) : Type 0 where
  pub low : from ≤ found
  pub high : found < to
  pub holds : test found ≡ true
  pub first : (k : ℕ) → from ≤ k → k < found → test k ≡ false

-- it is that position, or none if the test holds nowhere there
abbrev pub IsFirstAt : (ℕ → Bool) → ℕ → ℕ → Option ℕ → Type 0
IsFirstAt test from to None = (k : ℕ) → from ≤ k → k < to → test k ≡ false
IsFirstAt test from to (Some found) = IsFirstThere test from to found

-- `IsFaultFrom next reported low`: a reading from a line on has a fault with that report, and the next line from which
-- the text is read depends on `low`. `IsNext start low next`: after a reading from `start` on, that is the next line.
module _ (IsFaultFrom : ℕ → List ℕ → ℕ → Type 0) (IsNext : ℕ → ℕ → Option ℕ → Type 0) where
  -- The reports of the faults after that of a reading, at most so many.
  pub data AreLaterFaults : ℕ → ℕ → ℕ → List ℕ → Type 0 where
    enough : {start low : ℕ} → AreLaterFaults 0 start low []
    no_line : {left start low : ℕ} → IsNext start low None → AreLaterFaults (suc left) start low []
    it_reads : {left start low next : ℕ} → IsNext start low (Some next)
        → ((reported : List ℕ) (further : ℕ) → IsFaultFrom next reported further → ⊥)
        → AreLaterFaults (suc left) start low []
    one_more : {left start low next further : ℕ} {reported others : List ℕ} → IsNext start low (Some next)
        → IsFaultFrom next reported further → AreLaterFaults left next further others
        → AreLaterFaults (suc left) start low (reported ++ others)
