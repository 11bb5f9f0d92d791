-- Operands that an evaluation goes on to: they spell expressions, and the measure falls.
-- Serves: Plain::match_unit
use Rattle.std.proofs.Common.{◌≡◌, ℕ, zero, suc, ◌+◌, ◌-◌, ◌*◌, ◌<◌, ◌≤◌, List, [], ◌∷◌, length, drop, get_or, Some}
use Rattle.std.proofs.Common.{arith, add-one, drop-cons}
use Rattle.std.specs.Prelude.{slice_get, slice_index}
use Rattle.std.proofs.Math.Nat.{mul-le-mul_right}
use Rattle.pegread.specs.Pattern.{Patterns, Rule}
use Rattle.pegnodes.specs.Nodes as shape
use Rattle.pegnodes.specs.Nodes.{Shape, Spells, SpellAll, spell_none, spell_more}
use Rattle.gramcheck.specs.Outcome.{Gives}
use Rattle.gramcheck.specs.Ranks.{IsNullNode, NodeStep, FrontNode, front_first, front_later}
use Rattle.gramcheck.specs.Sound.{IsRanked}
use Rattle.gramcheck.proofs.SomeOutcomeLemmas.{measure, measure_falls, falls_here}
use Rattle.gramcheck.proofs.StepsToBodyLemmas.{rank_bound, rank_lower}
use Rattle.pegnodes.proofs.HasShapeLemmas.{has_shape}
use Rattle.pegnodes.proofs.NodeSpellsLemmas.{is_there}
use Rattle.gramcheck.proofs.NullIfLemmas.{takes_forward, null_of}
use Rattle.pegmatch.specs.KeptEvents.{SpellsSome, MatchesBy, IsMatch}
use Rattle.pegmatch.specs.declared.event.Kept.{Kept}
use Rattle.memo.specs.declared.found.Found.{Found}
use Rattle.pegmatch.specs.declared.leaves.Tried.{Tried}

-- the measure of a node at a position
abbrev pub at : List Shape → List ℕ → ℕ → ℕ → ℕ → ℕ
at nodes ranks len p n = measure len p (length nodes) (slice_index ranks n)

module _ (rules : List Rule) (start : ℕ) (nodes : List Shape) (bodies ranks : List ℕ)
    (sound : IsRanked rules start nodes bodies ranks) (len : ℕ) where
  -- further on there is less left, and at the same position a left step lowers the rank
  pub falls_to : (n m p q : ℕ) → SpellsSome rules nodes m → p ≤ q → q ≤ len
      → (q ≡ p → NodeStep rules nodes bodies n m) →
      at nodes ranks len q m < at nodes ranks len p n
  falls_to n m p q (e, s) low high step =
      measure_falls len p q (length nodes) (slice_index ranks m) (slice_index ranks n) low high
      (rank_bound rules start nodes bodies ranks sound m (is_there rules nodes s))
      (λ is. rank_lower rules start nodes bodies ranks sound n m (step is))

  pub falls_at : (n m p : ℕ) → NodeStep rules nodes bodies n m → at nodes ranks len p m < at nodes ranks len p n
  falls_at n m p step = falls_here len p (length nodes) (slice_index ranks m) (slice_index ranks n)
      (rank_lower rules start nodes bodies ranks sound n m step)

-- the measure of one node never rises
pub falls_on : (nodes : List Shape) (ranks : List ℕ) (len m p q : ℕ) → p ≤ q
    → at nodes ranks len q m ≤ at nodes ranks len p m
falls_on nodes ranks len m p q low = falls_by (len - q) (len - p) (length nodes) (slice_index ranks m) (omega arith)
  where
    falls_by : (a b n r : ℕ) → a ≤ b → a * (n + 1) + r ≤ b * (n + 1) + r
    falls_by a b n r h = omega (arith, mul-le-mul_right (n + 1) h)

module _ (rules : List Rule) (nodes : List Shape) where
  member_spells : (ms : List ℕ) (es : Patterns) (i : ℕ) → SpellAll rules nodes ms es → i < length ms
      → SpellsSome rules nodes (get_or ms i 0)
  member_spells [] es i spell_none lt = absurd (omega arith)
  member_spells (m ∷ ms) es zero (spell_more {p = p} s ss) lt = (p, s)
  member_spells (m ∷ ms) es (suc i) (spell_more {ps = ps} s ss) lt = member_spells ms ps i ss (omega arith)

  pub member_of_seq : (n i : ℕ) (ms : List ℕ) → SpellsSome rules nodes n → slice_get nodes n ≡ Some (shape.Seq ms)
      → i < length ms → SpellsSome rules nodes (get_or ms i 0)
  member_of_seq n i ms (e, s) at lt = let is = has_shape rules nodes s (shape.Seq ms) at in
      member_spells ms is.0 i is.2 lt

  pub member_of_choice : (n i : ℕ) (ms : List ℕ) → SpellsSome rules nodes n → slice_get nodes n ≡ Some (shape.Choice ms)
      → i < length ms → SpellsSome rules nodes (get_or ms i 0)
  member_of_choice n i ms (e, s) at lt = let is = has_shape rules nodes s (shape.Choice ms) at in
      member_spells ms is.0 i is.2 lt

  -- a success goes on, unless the node is nullable
  pub goes_onward : (bodies x : List ℕ) (n p q : ℕ) (tried : Tried) (old new : List Kept) → p ≤ length x
      → SpellsSome rules nodes n →
      IsMatch rules nodes x n p tried old new → tried.found ≡ Found.Took q → (p ≤ q) × (q ≤ length x)
      × (q ≡ p → IsNullNode rules nodes bodies n)
  goes_onward bodies x n p q tried old new le (e, s) match found =
      let m : MatchesBy nodes (Gives rules x e p) (Found.Took q) tried.looked old new = rw found at match e s in
      let on = takes_forward rules x p q tried.looked e m.1 m.3 le in
      (on.0, on.1, λ is. (e, s, null_of rules x m.3 le is))

module _ (rules : List Rule) (nodes : List Shape) (bodies ms : List ℕ) where
  -- what stands at the front of the members from i on stands at the front of all
  abbrev pub IsFront : ℕ → Type 0
  IsFront i = (m : ℕ) → FrontNode rules nodes bodies (drop i ms) m → FrontNode rules nodes bodies ms m

  pub front_here : (i : ℕ) → i < length ms → IsFront i → FrontNode rules nodes bodies ms (get_or ms i 0)
  front_here i lt front = let front' = rw (drop-cons ms i 0) at front in front' (get_or ms i 0) front_first

  pub front_next : (i : ℕ) → i < length ms → IsFront i → IsNullNode rules nodes bodies (get_or ms i 0) → IsFront (i + 1)
  front_next i lt front null = let front' = rw (drop-cons ms i 0) at front in
      rw (add-one i) (λ m f. front' m (front_later null f))
