-- Where the comparisons of a start rule's evaluation fail outside of `!`, and the farthest such position (Ford 2004,
-- section 3.3: what an expression gives; a comparison is that of `.`, of a class or of a literal with the input).
use Rattle.std.specs.Prelude.{◌≡◌, ◌↔◌, ℕ, ◌+◌, ◌<◌, ◌≤◌, false, List, length, slice_get, Some, None}
use Rattle.pegread.specs.Pattern.{Rule}
use Rattle.pegnodes.specs.Nodes.{Shape, Any, Bytes, Set, Name, Seq, Choice, Star, Plus, Opt, And, Not, Act, Open}
use Rattle.pegnodes.specs.Nodes.{Close}
use Rattle.pegnodes.specs.NodeWays.{way_of, Leaf}
use Rattle.pegmatch.specs.Visits.{Asks}
use Rattle.matchfailure.specs.declared.farthest.visit.Visit.{Visit}
use Rattle.matchfailure.specs.VisitLists.{ListsVisit, Ascends}

-- the node is a `!`
abbrev pub IsDenial : List Shape → ℕ → Type 0
IsDenial nodes n = (k : ℕ) × (slice_get nodes n ≡ Some (Not k))

-- the node has no operands
abbrev pub IsLeafNode : List Shape → ℕ → Type 0
IsLeafNode nodes n = (shape : Shape) × (slice_get nodes n ≡ Some shape) × (way_of n shape ≡ Leaf)

-- from p on the input has the literal's first k bytes, and after them another byte than the literal, or its end
pub record PartsAt (x : List ℕ) (p : ℕ) (literal : List ℕ) (k : ℕ) : Type 0 where
  pub inside : k < length literal
  pub agree : (i : ℕ) → i < k → slice_get x (p + i) ≡ slice_get literal i
  pub differ : slice_get x (p + k) ≡ slice_get literal k → ⊥

-- the comparison that an expression of this shape makes at p fails at byte f, or at the input's end
abbrev pub StopsBy : List ℕ → Shape → ℕ → ℕ → Type 0
StopsBy x Any p f = (slice_get x p ≡ None) × (f ≡ p)
StopsBy x (Bytes bytes) p f = (k : ℕ) × PartsAt x p bytes k × (f ≡ p + k)
StopsBy x (Set s) p f = ((b : ℕ) → slice_get x p ≡ Some b → s b ≡ false) × (f ≡ p)
StopsBy x (Name id) p f = ⊥
StopsBy x (Seq ms) p f = ⊥
StopsBy x (Choice ms) p f = ⊥
StopsBy x (Star k) p f = ⊥
StopsBy x (Plus k s) p f = ⊥
StopsBy x (Opt k) p f = ⊥
StopsBy x (And k) p f = ⊥
StopsBy x (Not k) p f = ⊥
StopsBy x (Act t) p f = ⊥
StopsBy x Open p f = ⊥
StopsBy x Close p f = ⊥

-- node n's own comparison at p fails at byte f
pub record LeafStops (nodes : List Shape) (x : List ℕ) (n p f : ℕ) : Type 0 where
  pub shape : Shape
  pub at : slice_get nodes n ≡ Some shape
  pub by : StopsBy x shape p f

module _ (rules : List Rule) (nodes : List Shape) (bodies x : List ℕ) where
  -- node n at p is no `!`, and its outcome asks for that of node m at q
  abbrev pub AsksOutside : ℕ → ℕ → ℕ → ℕ → Type 0
  AsksOutside n p m q = (IsDenial nodes n → ⊥) × Asks rules nodes bodies x n p m q

  -- The least set that holds the start rule's body at 0 and, with each evaluation that is not of a `!`, those whose
  -- outcome it asks for.
  pub data Outside (start : ℕ) : ℕ → ℕ → Type 0 where
    first_outside : {n : ℕ} → slice_get bodies start ≡ Some n → Outside start n 0
    asked_outside : {n p m q : ℕ} → Outside start n p → AsksOutside n p m q → Outside start m q

  module _ (start : ℕ) where
    -- a comparison outside of `!` fails at byte f: that of node n at p
    abbrev pub FailsAt : ℕ → ℕ → ℕ → Type 0
    FailsAt n p f = Outside start n p × LeafStops nodes x n p f

    -- no comparison fails outside of `!`
    abbrev pub NoneFails : Type 0
    NoneFails = (n p f : ℕ) → FailsAt n p f → ⊥

    -- Byte f is the farthest at which a comparison fails outside of `!`, and these are all that fail there, each once,
    -- by the grammar's order and then by where they begin.
    pub record IsFarthest (f : ℕ) (expected : List Visit) : Type 0 where
      pub some : (n : ℕ) × (p : ℕ) × FailsAt n p f
      pub none_further : (n p h : ℕ) → FailsAt n p h → h ≤ f
      pub ordered : Ascends expected
      pub exact : (v : Visit) → ListsVisit expected v ↔ FailsAt v.node v.position f
