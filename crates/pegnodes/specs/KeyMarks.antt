-- Marks of the nodes and tails that may be asked for twice.
use Rattle.std.specs.Prelude.{◌≡◌, ◌⊎◌, ℕ, suc, Bool, true, false, List, slice_get, Some}
use Rattle.pegnodes.specs.Nodes.{Shape, Seq, Star}
use Rattle.pegnodes.specs.Width.{Width}
use Rattle.pegnodes.specs.Predictive.{IsPredictive}
use Rattle.pegnodes.specs.NodeWays.{Way, Leaf, Body, Members, Alternatives, Iterations, Operand, way_of}

module _ (start : ℕ) (nodes : List Shape) (bodies : List ℕ) where
  -- a node that goes on in this way names node m
  abbrev pub WayNames : Way → ℕ → Type 0
  WayNames Leaf m = ⊥
  WayNames (Body id) m = slice_get bodies id ≡ Some m
  WayNames (Members ms) m = (i : ℕ) × (slice_get ms i ≡ Some m)
  WayNames (Alternatives ms) m = (i : ℕ) × (slice_get ms i ≡ Some m)
  WayNames (Iterations k s) m = (m ≡ k) ⊎ (m ≡ s)
  WayNames (Operand k) m = m ≡ k

  -- it names m once, and not as the repetition that it goes on with
  abbrev pub WayNamesOnce : Way → ℕ → Type 0
  WayNamesOnce Leaf m = Unit {0}
  WayNamesOnce (Body id) m = Unit {0}
  WayNamesOnce (Members ms) m = (i j : ℕ) → slice_get ms i ≡ Some m → slice_get ms j ≡ Some m → i ≡ j
  WayNamesOnce (Alternatives ms) m = (i j : ℕ) → slice_get ms i ≡ Some m → slice_get ms j ≡ Some m → i ≡ j
  WayNamesOnce (Iterations k s) m = m ≡ s → ⊥
  WayNamesOnce (Operand k) m = Unit {0}

  abbrev pub DoesNotRepeat : Way → Type 0
  DoesNotRepeat Leaf = Unit {0}
  DoesNotRepeat (Body id) = Unit {0}
  DoesNotRepeat (Members ms) = Unit {0}
  DoesNotRepeat (Alternatives ms) = Unit {0}
  DoesNotRepeat (Iterations k s) = ⊥
  DoesNotRepeat (Operand k) = Unit {0}

  -- Node m is named by one node, once, and is not the start rule's body.
  pub record IsPlain (m : ℕ) : Type 0 where
    pub asker : ℕ
    pub shape : Shape
    pub at : slice_get nodes asker ≡ Some shape
    pub only : (i : ℕ) (other : Shape) → slice_get nodes i ≡ Some other → WayNames (way_of i other) m → i ≡ asker
    pub once : WayNamesOnce (way_of asker shape) m
    pub not_root : slice_get bodies start ≡ Some m → ⊥

  -- nodes that are asked for at one position at most
  pub data Single : ℕ → Type 0 where
    single_root : {m : ℕ} → slice_get bodies start ≡ Some m
        → ((i : ℕ) (other : Shape) → slice_get nodes i ≡ Some other → WayNames (way_of i other) m → ⊥) → Single m
    single_below : {m : ℕ} → (plain : IsPlain m) → DoesNotRepeat (way_of plain.asker plain.shape)
        → Single plain.asker → Single m

  -- it leads to m once, and not as the operand of a repetition
  abbrev pub WayEntersOnce : Way → ℕ → Type 0
  WayEntersOnce Leaf m = Unit {0}
  WayEntersOnce (Body id) m = Unit {0}
  WayEntersOnce (Members ms) m = (i j : ℕ) → slice_get ms i ≡ Some m → slice_get ms j ≡ Some m → i ≡ j
  WayEntersOnce (Alternatives ms) m = (i j : ℕ) → slice_get ms i ≡ Some m → slice_get ms j ≡ Some m → i ≡ j
  WayEntersOnce (Iterations k s) m = m ≡ k → ⊥
  WayEntersOnce (Operand k) m = Unit {0}

  -- Node m is a repetition that is named by itself and by one node that is asked for at one position at most.
  pub record IsLoop (m : ℕ) : Type 0 where
    pub operand : ℕ
    pub is_star : slice_get nodes m ≡ Some (Star operand)
    pub entry : ℕ
    pub shape : Shape
    pub at : slice_get nodes entry ≡ Some shape
    pub only : (i : ℕ) (other : Shape) → slice_get nodes i ≡ Some other → WayNames (way_of i other) m
        → (i ≡ entry) ⊎ (i ≡ m)
    pub once : WayEntersOnce (way_of entry shape) m
    pub single : Single entry
    pub not_root : slice_get bodies start ≡ Some m → ⊥

  -- Node m is the operand of a repetition that a repetition of one or more of m enters, at one position at most. Only
  -- these two name m.
  pub record IsIterated (m : ℕ) : Type 0 where
    pub star : ℕ
    pub loop : IsLoop star
    pub goes : way_of loop.entry loop.shape ≡ Iterations m star
    pub only : (i : ℕ) (other : Shape) → slice_get nodes i ≡ Some other → WayNames (way_of i other) m
        → (i ≡ loop.entry) ⊎ (i ≡ star)
    pub not_root : slice_get bodies start ≡ Some m → ⊥

  -- nodes that one evaluation asks for at each position
  pub data AskedOnce (m : ℕ) : Type 0 where
    once_plain : IsPlain m → AskedOnce m
    once_loop : IsLoop m → AskedOnce m
    once_iterated : IsIterated m → AskedOnce m

  -- A node without a mark is asked for once; a tail without one stands after a member of some width, or in a node that
  -- is asked for at one position at most.
  pub record AreByNamers (marks : ℕ → Bool) (tails : ℕ → ℕ → Bool) : Type 0 where
    pub plain : (m : ℕ) → marks m ≡ false → AskedOnce m
    pub fixed : (n i m : ℕ) (ms : List ℕ) → slice_get nodes n ≡ Some (Seq ms) → slice_get ms i ≡ Some m
        → tails n (suc i) ≡ false → ((w : ℕ) × Width nodes bodies m w) ⊎ Single n

  -- The marks: what has none is asked for once by its namers, or since each byte says which way to go; the start rule's
  -- body has one.
  pub record AreMarks (marks : ℕ → Bool) (tails : ℕ → ℕ → Bool) : Type 0 where
    pub once : AreByNamers marks tails ⊎ IsPredictive nodes bodies
    pub root : (m : ℕ) → slice_get bodies start ≡ Some m → marks m ≡ true
