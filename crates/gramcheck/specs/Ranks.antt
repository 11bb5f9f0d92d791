-- Left steps between numbered nodes, and ranks that each of them lowers.
use Rattle.std.specs.Prelude.{◌≡◌, ℕ, ◌<◌, ◌≤◌, List, ◌∷◌, length, slice_get, Some, Contains}
use Rattle.pegread.specs.Pattern.{Pattern, Rule}
use Rattle.gramcheck.specs.Left.{Nullable}
use Rattle.pegnodes.specs.Nodes.{Shape, Name, Seq, Choice, Star, Plus, Opt, And, Not, Spells}

module _ (rules : List Rule) (nodes : List Shape) (bodies : List ℕ) where
  -- the node spells a nullable expression
  abbrev pub IsNullNode : ℕ → Type 0
  IsNullNode n = (p : Pattern) × Spells rules nodes n p × Nullable rules p

  -- a member that only nullable ones stand before
  pub data FrontNode : List ℕ → ℕ → Type 0 where
    front_first : {m : ℕ} {ms : List ℕ} → FrontNode (m ∷ ms) m
    front_later : {k m : ℕ} {ms : List ℕ} → IsNullNode k → FrontNode ms m → FrontNode (k ∷ ms) m

  -- a left step leads from one node to another
  pub data NodeStep : ℕ → ℕ → Type 0 where
    to_body : {n id m : ℕ} → slice_get nodes n ≡ Some (Name id) → slice_get bodies id ≡ Some m → NodeStep n m
    to_alternative : {n m : ℕ} {ms : List ℕ} → slice_get nodes n ≡ Some (Choice ms) → Contains ms m → NodeStep n m
    to_member : {n m : ℕ} {ms : List ℕ} → slice_get nodes n ≡ Some (Seq ms) → FrontNode ms m → NodeStep n m
    to_starred : {n m : ℕ} → slice_get nodes n ≡ Some (Star m) → NodeStep n m
    to_repeated : {n m k : ℕ} → slice_get nodes n ≡ Some (Plus m k) → NodeStep n m
    to_optional : {n m : ℕ} → slice_get nodes n ≡ Some (Opt m) → NodeStep n m
    to_asserted : {n m : ℕ} → slice_get nodes n ≡ Some (And m) → NodeStep n m
    to_denied : {n m : ℕ} → slice_get nodes n ≡ Some (Not m) → NodeStep n m

  -- each node has a rank, at most the number of nodes, and every left step lowers it
  pub record AreRanks (ranks : List ℕ) : Type 0 where
    pub count : length ranks ≡ length nodes
    pub bound : (n r : ℕ) → slice_get ranks n ≡ Some r → r ≤ length nodes
    pub lower : (n m r s : ℕ) → NodeStep n m → slice_get ranks n ≡ Some r → slice_get ranks m ≡ Some s → s < r

  -- no node repeats a nullable one
  pub record RepeatsNoNull : Type 0 where
    pub star : (n m : ℕ) → slice_get nodes n ≡ Some (Star m) → IsNullNode m → ⊥
    pub plus : (n m k : ℕ) → slice_get nodes n ≡ Some (Plus m k) → IsNullNode m → ⊥
