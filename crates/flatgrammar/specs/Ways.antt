-- How targets are found: ways that lead on, and targets that are known.
use Rattle.std.specs.Prelude.{◌≡◌, ◌⊎◌, ℕ, ◌<◌, List, [], ◌∷◌, length, slice_get, Option, Some, None, Contains}
use Rattle.std.proofs.Math.ListN.{set}
use Rattle.flatgrammar.specs.Flat.{Node, Letters, Concat, Alt, Rep, Iterations, Opt, Name, Nothing}
use Rattle.flatgrammar.specs.declared.targets.Way.{Way}
use Rattle.flatgrammar.specs.declared.targets.Way.TheVariants.{On, Found}

abbrev pub way_to : Option ℕ → Way
way_to None = Found None
way_to (Some body) = On body

-- what a node says of its target: a name leads on to its rule's body, any other is its own target
abbrev pub first_way : List ℕ → ℕ → Node → Way
first_way bodies s (Letters sets) = Found (Some s)
first_way bodies s (Concat ms) = Found (Some s)
first_way bodies s (Alt ms) = Found (Some s)
first_way bodies s (Rep a b m) = Found (Some s)
first_way bodies s (Iterations b m) = Found (Some s)
first_way bodies s (Opt m) = Found (Some s)
first_way bodies s (Name r) = way_to (slice_get bodies r)
first_way bodies s Nothing = Found (Some s)

pub record AreFirst (nodes : List Node) (bodies : List ℕ) (ways : List Way) : Type 0 where
  pub count : length ways ≡ length nodes
  pub each : (s : ℕ) (node : Node) → slice_get nodes s ≡ Some node → slice_get ways s ≡ Some (first_way bodies s node)

-- the target that a way leads to
abbrev pub target_of : Way → Option ℕ
target_of (On t) = None
target_of (Found target) = target

-- the target of s is known, or that there is none
abbrev pub IsFound : List Way → ℕ → Type 0
IsFound ways s = (target : Option ℕ) × (slice_get ways s ≡ Some (Found target))

-- ways lead to nodes that have ways
abbrev pub IsOnWithin : List Way → Type 0
IsOnWithin ways = (s t : ℕ) → slice_get ways s ≡ Some (On t) → t < length ways

-- the ways, with one way for each number of a path
abbrev pub set_all : List ℕ → Way → List Way → List Way
set_all [] way ways = ways
set_all (p ∷ ps) way ways = set_all ps way (set ways p way)

module _ (old : List Way) where
  -- the ways lead from s to the known target u
  pub data LeadsTo : ℕ → ℕ → Type 0 where
    arrived : {s u : ℕ} → slice_get old s ≡ Some (Found (Some u)) → LeadsTo s u
    leads_on : {s t u : ℕ} → slice_get old s ≡ Some (On t) → LeadsTo t u → LeadsTo s u

  -- Of some nodes more the targets are known. Each of these has the target of the node that it led to.
  pub record AreWays (new : List Way) : Type 0 where
    pub count : length new ≡ length old
    pub kept : (s : ℕ) (r : Option ℕ) → slice_get old s ≡ Some (Found r) → slice_get new s ≡ Some (Found r)
    pub ahead : (s t : ℕ) → slice_get new s ≡ Some (On t) → slice_get old s ≡ Some (On t)
    pub found : (s : ℕ) (r : Option ℕ) → slice_get new s ≡ Some (Found r) →
        (slice_get old s ≡ Some (Found r)) ⊎ ((t : ℕ) × (slice_get old s ≡ Some (On t))
        × (slice_get new t ≡ Some (Found r)))
    pub sound : (s u : ℕ) → slice_get new s ≡ Some (Found (Some u)) → LeadsTo s u

  -- A walk from a node came to s: each node on its path led on, to one on the path or to s. The others are as they
  -- were.
  pub record IsWalk (start s : ℕ) (path : List ℕ) (ways : List Way) : Type 0 where
    pub count : length ways ≡ length old
    pub within : s < length ways
    pub from : Contains path start ⊎ (start ≡ s)
    pub led : (p : ℕ) → Contains path p → (t : ℕ) × (slice_get old p ≡ Some (On t)) × (Contains path t ⊎ (t ≡ s))
    pub marked : (p : ℕ) → Contains path p → slice_get ways p ≡ Some (Found None)
    pub others : (p : ℕ) → Contains path p ⊎ (slice_get ways p ≡ slice_get old p)
    pub leads : (p u : ℕ) → Contains path p → LeadsTo s u → LeadsTo p u

  -- the target of a node, and perhaps of others, is now known
  pub record Settles (start : ℕ) (new : List Way) : Type 0 where
    pub ways : AreWays new
    pub found : IsFound new start
