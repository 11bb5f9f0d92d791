-- Marks on names and rules by id. Private helpers alone use it.
use Rattle.std.specs.Prelude.{◌≡◌, ◌⊎◌, ℕ, Bool, true, List, slice_index_or, Contains}
use Rattle.fixpoint.specs.NumberMarks.{IsMarked}
use Rattle.fixpoint.specs.Reach.{Reaches}
use Rattle.fixpoint.specs.StepRows.{Step}
use Rattle.fixpoint.specs.IdMarks.{AreMarks}
use Rattle.abnfread.specs.Element.{Rule}
use Rattle.abnfcheck.specs.AbnfUses.{HoldsProse}
use Rattle.abnfcheck.specs.AbnfNotes.{IsUnused}

-- the judged number, and those to which steps lead
abbrev pub IsUsed : List (List ℕ) → ℕ → ℕ → Type 0
IsUsed rows judged id = (judged ≡ id) ⊎ ((user : ℕ) × Step rows user id)

-- the marks on the rules of a file
pub record AreNoteMarks (rules : List Rule) (count : ℕ) (again early : List ℕ) (judged : ℕ)
    (redefined extended prose unused : List Bool) : Type 0 where
  pub redefined_are : AreMarks (Contains again) count redefined
  pub extended_are : AreMarks (Contains early) count extended
  pub prose_are : AreMarks (HoldsProse rules) count prose
  pub unused_are : AreMarks (IsUnused rules judged) count unused

-- a marked number that stands for no rule, or for one that holds prose
pub record IsBroken (marks prose : List Bool) (id : ℕ) : Type 0 where
  pub marked : IsMarked marks id
  pub broken : slice_index_or prose id true ≡ true

-- a number that stands for no rule, or for one that holds prose, and that chains of steps reach
pub record ReachesBroken (rows : List (List ℕ)) (prose : List Bool) (judged id : ℕ) : Type 0 where
  pub reaches : Reaches rows judged id
  pub broken : slice_index_or prose id true ≡ true
