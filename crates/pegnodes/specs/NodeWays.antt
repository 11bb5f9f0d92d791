-- In which way nodes go on to others.
use Rattle.std.specs.Prelude.{ℕ, List}
use Rattle.pegnodes.specs.Nodes.{Shape, Any, Bytes, Set, Name, Seq, Choice, Star, Plus, Opt, And, Not, Act, Open}
use Rattle.pegnodes.specs.Nodes.{Close}

-- in which way a node goes on to others
pub data Way : Type 0 where
  Leaf : Way
  Body : ℕ → Way
  Members : List ℕ → Way
  Alternatives : List ℕ → Way
  -- the operand, and then the repetition
  Iterations : (operand : ℕ) → (again : ℕ) → Way
  Operand : ℕ → Way

abbrev pub way_of : ℕ → Shape → Way
way_of n Any = Leaf
way_of n (Bytes bytes) = Leaf
way_of n (Set s) = Leaf
way_of n (Name id) = Body id
way_of n (Seq ms) = Members ms
way_of n (Choice ms) = Alternatives ms
way_of n (Star k) = Iterations k n
way_of n (Plus k s) = Iterations k s
way_of n (Opt k) = Operand k
way_of n (And k) = Operand k
way_of n (Not k) = Operand k
way_of n (Act t) = Leaf
way_of n Open = Leaf
way_of n Close = Leaf
