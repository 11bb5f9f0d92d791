-- What nodes need to fail late or to succeed over a byte, and what is looked at of each node.
use Rattle.std.specs.Prelude.{◌≡◌, ℕ, suc, Bool, List, [], Option, Some, None, drop, slice_get, Contains}
use Rattle.fixpoint.specs.Demands.{Demand, All, One}
use Rattle.fixpoint.specs.NumberMarks.{IsMarked}
use Rattle.pegnodes.specs.Nodes.{Shape, Any, Bytes, Set, Name, Seq, Choice, Star, Plus, Opt, And, Not, Act, Open}
use Rattle.pegnodes.specs.Nodes.{Close}
use Rattle.pegnodes.specs.declared.by_byte.ByteVerdict.{ByteVerdict}
use Rattle.pegnodes.specs.declared.by_byte.ByteVerdict.TheVariants.{Takes, Stays, Fails}
use Rattle.pegnodes.specs.Predictive.{of_members, of_alternatives, Late, Over}

-- where m is in the set, the need is met
abbrev pub Lets : Demand → ℕ → Type 0
Lets (All row) m = row ≡ []
Lets (One row) m = Contains row m

-- the need is met by nothing
abbrev pub IsFree : Demand → Type 0
IsFree (All row) = row ≡ []
IsFree (One row) = ⊥

-- succeeds or fails, and takes nothing
abbrev pub IsSure : Option ByteVerdict → Type 0
IsSure None = ⊥
IsSure (Some Fails) = Unit {0}
IsSure (Some Stays) = Unit {0}
IsSure (Some Takes) = ⊥

-- The need of an operand's repetition or option to succeed over the byte is met where the definition says that it may.
-- lates: the nodes that may fail late
pub record LetsOperand (lates : List Bool) (k : ℕ) (need : Demand) : Type 0 where
  pub late : IsMarked lates k → IsFree need
  pub over : Lets need k

-- likewise a choice's
pub record LetsAlternatives (of : ℕ → Option ByteVerdict) (lates : List Bool) (ms : List ℕ) (need : Demand) : Type 0
  where
    pub over : (i m : ℕ) → slice_get ms i ≡ Some m → Lets need m
    pub late : (i m : ℕ) → slice_get ms i ≡ Some m → IsMarked lates m
        → of_alternatives of (drop (suc i) ms) ≡ Some Stays → IsFree need

module _ (bodies : List ℕ) (of : ℕ → Option ByteVerdict) where
  -- likewise a node's to fail late. own: what the byte decides of it
  abbrev pub LetsLate : Option ByteVerdict → Shape → Demand → Type 0
  LetsLate own Any need = Unit {0}
  LetsLate own (Bytes bs) need = Unit {0}
  LetsLate own (Set s) need = Unit {0}
  LetsLate own (Name id) need = (m : ℕ) → slice_get bodies id ≡ Some m → Lets need m
  LetsLate own (Seq ms) need = own ≡ None → IsFree need
  LetsLate own (Choice ms) need = (i m : ℕ) → slice_get ms i ≡ Some m
      → of_alternatives of (drop (suc i) ms) ≡ Some Fails → Lets need m
  LetsLate own (Star k) need = Unit {0}
  LetsLate own (Plus k s) need = Lets need k
  LetsLate own (Opt k) need = Unit {0}
  LetsLate own (And k) need = Unit {0}
  LetsLate own (Not k) need = Unit {0}
  LetsLate own (Act t) need = Unit {0}
  LetsLate own Open need = Unit {0}
  LetsLate own Close need = Unit {0}

  -- and a node's to succeed over the byte
  abbrev pub LetsOver : List Bool → Shape → Demand → Type 0
  LetsOver lates Any need = Unit {0}
  LetsOver lates (Bytes bs) need = Unit {0}
  LetsOver lates (Set s) need = Unit {0}
  LetsOver lates (Name id) need = (m : ℕ) → slice_get bodies id ≡ Some m → Lets need m
  LetsOver lates (Seq ms) need = (i m : ℕ) → slice_get ms i ≡ Some m
      → of_members of (drop (suc i) ms) ≡ Some Stays → Lets need m
  LetsOver lates (Choice ms) need = LetsAlternatives of lates ms need
  LetsOver lates (Star k) need = LetsOperand lates k need
  LetsOver lates (Plus k s) need = Lets need s
  LetsOver lates (Opt k) need = LetsOperand lates k need
  LetsOver lates (And k) need = Unit {0}
  LetsOver lates (Not k) need = Unit {0}
  LetsOver lates (Act t) need = Unit {0}
  LetsOver lates Open need = Unit {0}
  LetsOver lates Close need = Unit {0}

-- the byte says which way to go in a node. late, over: the nodes that may fail late, and those that may succeed over it
module _ (of : ℕ → Option ByteVerdict) (late over : List Bool) where
  abbrev pub IsSureNode : Shape → Type 0
  IsSureNode Any = Unit {0}
  IsSureNode (Bytes bs) = Unit {0}
  IsSureNode (Set s) = Unit {0}
  IsSureNode (Name id) = Unit {0}
  IsSureNode (Seq ms) = (i m : ℕ) → slice_get ms i ≡ Some m → IsMarked over m → IsSure (of_members of (drop (suc i) ms))
  IsSureNode (Choice ms) = (i m : ℕ) → slice_get ms i ≡ Some m → IsMarked late m
      → IsSure (of_alternatives of (drop (suc i) ms))
  IsSureNode (Star k) = IsMarked over k → of k ≡ Some Fails
  IsSureNode (Plus k s) = IsMarked over k → of k ≡ Some Fails
  IsSureNode (Opt k) = Unit {0}
  IsSureNode (And k) = of k ≡ None → ⊥
  IsSureNode (Not k) = of k ≡ None → ⊥
  IsSureNode (Act t) = Unit {0}
  IsSureNode Open = Unit {0}
  IsSureNode Close = Unit {0}

module _ (nodes : List Shape) (bodies : List ℕ) (of : ℕ → Option ByteVerdict) where
  -- all nodes that may fail late are marked, and all that may succeed over the byte
  abbrev pub AreLate : List Bool → Type 0
  AreLate late = (n : ℕ) → Late nodes bodies of n → IsMarked late n

  abbrev pub AreOver : List Bool → Type 0
  AreOver over = (n : ℕ) → Over nodes bodies of n → IsMarked over n
