-- What a byte decides, as code returns it.
use Rattle.std.specs.Prelude.{◌≡◌, ℕ, Bool, false, List, slice_get, Some}
use Rattle.pegnodes.specs.ByByte.{ByByte, Below, ByShape, ByMembers, ByAlternatives, LeavesEvent}
use Rattle.pegnodes.specs.KeyLists.{Marks, marks_of, node_marks, tail_marks}
use Rattle.pegnodes.specs.Nodes.{Shape, shapes_of}
use Rattle.pegnodes.specs.declared.by_byte.Decided.{Decided}
use Rattle.pegnodes.specs.declared.by_byte.MarkedNodes.{MarkedNodes}

module _ (g : MarkedNodes) where
  -- the marks of the nodes and of their tails
  abbrev pub marks_in : Marks
  marks_in = marks_of (shapes_of g.nodes.now) g.keys.now g.after.now

  -- whether a node is a key
  abbrev pub mark_in : ℕ → Bool
  mark_in n = node_marks marks_in n

  -- whether a node's tail from a member on is one
  abbrev pub tail_in : ℕ → ℕ → Bool
  tail_in n i = tail_marks marks_in n i

  -- the node takes nothing and leaves an event, and is no key
  pub record IsEvent (n : ℕ) : Type 0 where
    pub free : mark_in n ≡ false
    pub shape : Shape
    pub at : slice_get (shapes_of g.nodes.now) n ≡ Some shape
    pub leaves : LeavesEvent shape

module _ (g : MarkedNodes) (b : ℕ) where
  abbrev pub Decides : ℕ → Decided → Type 0
  Decides n d = ByByte (shapes_of g.nodes.now) g.bodies.now (mark_in g) (tail_in g) b n d.verdict d.count

  abbrev pub DecidesBelow : ℕ → Decided → Type 0
  DecidesBelow n d = Below (shapes_of g.nodes.now) g.bodies.now (mark_in g) (tail_in g) b n d.verdict d.count

  abbrev pub DecidesShape : ℕ → Shape → Decided → Type 0
  DecidesShape n s d = ByShape (shapes_of g.nodes.now) g.bodies.now (mark_in g) (tail_in g) b n s d.verdict d.count

  abbrev pub DecidesMembers : ℕ → List ℕ → Decided → Type 0
  DecidesMembers n ms d = ByMembers (shapes_of g.nodes.now) g.bodies.now (mark_in g) (tail_in g) b n ms 0 d.verdict
      d.count

  abbrev pub DecidesAlternatives : ℕ → List ℕ → Decided → Type 0
  DecidesAlternatives n ms d = ByAlternatives (shapes_of g.nodes.now) g.bodies.now (mark_in g) (tail_in g) b n ms 0
      d.verdict d.count
