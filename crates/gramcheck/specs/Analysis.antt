-- What is known of a grammar's rules and nodes before it is run.
use Rattle.std.specs.Prelude.{◌≡◌, ◌↔◌, ℕ, Bool, List, length, slice_get, Some}
use Rattle.pegread.specs.Pattern.{Rule}
use Rattle.gramcheck.specs.Left.{IsLeftRecursive, Loops}
use Rattle.fixpoint.specs.NumberMarks.{IsMarked}
use Rattle.pegnodes.specs.Nodes.{Shape, id_of}
use Rattle.gramcheck.specs.Nulls.{AreNullMarks}
use Rattle.gramcheck.specs.Ranks.{AreRanks}

-- exactly the nullable nodes, the left-recursive rules and the rules that repeat a nullable expression are marked
pub record IsAnalysed (rules : List Rule) (nodes : List Shape) (bodies : List ℕ) (nulls recursive looping : List Bool)
    (ranks : List ℕ) : Type 0 where
  pub null_marks : AreNullMarks rules nodes nulls
  pub recursive_count : length recursive ≡ length rules
  pub recursive_sound : (id : ℕ) (rule : Rule) → slice_get rules id ≡ Some rule → IsMarked recursive id
      → IsLeftRecursive rules rule
  pub recursive_whole : (id : ℕ) (rule : Rule) → slice_get rules id ≡ Some rule → id_of rules rule.name ≡ id
      → IsLeftRecursive rules rule → IsMarked recursive id
  pub looping_count : length looping ≡ length rules
  pub looping_exact : (id : ℕ) (rule : Rule) → slice_get rules id ≡ Some rule → (IsMarked looping id ↔ Loops rules rule)
  -- where no rule is left-recursive, each left step lowers the rank
  pub ranked : ((id : ℕ) → IsMarked recursive id → ⊥) → AreRanks rules nodes bodies ranks
