-- Tables by the next byte: of operands of a grammar's repetitions, of its options and predicates, and of its choices.
use Rattle.std.specs.Prelude.{◌≡◌, ℕ, List, Option, slice_get, Some}
use Rattle.pegnodes.specs.ChoiceTables.{IsChoiceTable}
use Rattle.pegnodes.specs.KeyLists.{Marks, node_marks, tail_marks}
use Rattle.pegnodes.specs.Nodes.{Shape, Any, Bytes, Set, Name, Seq, Choice, Star, Plus, Opt, And, Not, Act, Open}
use Rattle.pegnodes.specs.Nodes.{Close}
use Rattle.pegnodes.specs.RunTables.{IsTable}
use Rattle.pegnodes.specs.declared.choice_table.ChoiceTable.{ChoiceTable}
use Rattle.pegnodes.specs.declared.run_table.RunTable.{RunTable}

-- the table at a position of a list, which is as P says
pub record HasTable {T : Type 0} (P : T → Type 0) (tables : List T) (position : ℕ) : Type 0 where
  pub table : T
  pub there : slice_get tables position ≡ Some table
  pub is_table : P table

-- the node whose outcomes are in the table of node n of this shape: a repetition's operand; or an option or predicate
abbrev pub IsTabled : ℕ → Shape → ℕ → Type 0
IsTabled n Any k = ⊥
IsTabled n (Bytes bs) k = ⊥
IsTabled n (Set s) k = ⊥
IsTabled n (Name id) k = ⊥
IsTabled n (Seq ms) k = ⊥
IsTabled n (Choice ms) k = ⊥
IsTabled n (Star m) k = k ≡ m
IsTabled n (Plus m s) k = ⊥
IsTabled n (Opt m) k = k ≡ n
IsTabled n (And m) k = k ≡ n
IsTabled n (Not m) k = k ≡ n
IsTabled n (Act t) k = ⊥
IsTabled n Open k = ⊥
IsTabled n Close k = ⊥

module _ (nodes : List Shape) (bodies : List ℕ) (marks : Marks) where
  -- the table of a node's outcomes
  abbrev pub IsRunTableOf : ℕ → RunTable → Type 0
  IsRunTableOf k table = IsTable nodes bodies (node_marks marks) (tail_marks marks) k table.entries.items

  -- the table of a choice of these alternatives
  abbrev pub IsChoiceTableOf : ℕ → List ℕ → ChoiceTable → Type 0
  IsChoiceTableOf n ms table = IsChoiceTable nodes bodies (node_marks marks) (tail_marks marks) n ms
      table.entries.items

  -- the position of a node's table: among those of the choices if the node is one, else among the others
  pub record HasByteTable (runs : List RunTable) (choices : List ChoiceTable) (n position : ℕ) : Type 0 where
    pub run : (s : Shape) (k : ℕ) → slice_get nodes n ≡ Some s → IsTabled n s k
        → HasTable (IsRunTableOf k) runs position
    pub choice : (ms : List ℕ) → slice_get nodes n ≡ Some (Choice ms) → HasTable (IsChoiceTableOf n ms) choices position

  -- of each node the position of its table, if it has one
  abbrev pub AreByteTables : List (Option ℕ) → List RunTable → List ChoiceTable → Type 0
  AreByteTables positions runs choices = (n position : ℕ) → slice_get positions n ≡ Some (Some position)
      → HasByteTable runs choices n position
