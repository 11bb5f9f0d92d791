-- Evaluations in steps: an evaluation of a node and a position, or what is left of a sequence or a choice from a member
-- on.
use Rattle.std.specs.Prelude.{◌≡◌, ◌⊎◌, ℕ, zero, suc, Bool, List, [], ◌∷◌, slice_get, Some, None}
use Rattle.pegread.specs.Pattern.{Rule}
use Rattle.pegnodes.specs.Nodes.{Shape}
use Rattle.pegnodes.specs.NodeWays.{Way, Leaf, Body, Members, Alternatives, Iterations, Operand, way_of}
use Rattle.pegmatch.specs.Visits.{NodeTakes, NodeFails}
use Rattle.memo.specs.declared.task.MatchTask.{MatchTask}
use Rattle.memo.specs.declared.task.MatchTask.TheVariants.{Eval, Tail}

module _ (rules : List Rule) (nodes : List Shape) (bodies x : List ℕ) where
  -- where node n at p leads
  abbrev pub LeadsBy : Way → ℕ → ℕ → MatchTask → Type 0
  LeadsBy Leaf n p b = ⊥
  LeadsBy (Body id) n p b = (m : ℕ) × (slice_get bodies id ≡ Some m) × (b ≡ Eval m p)
  LeadsBy (Members ms) n p b = (m : ℕ) × (slice_get ms zero ≡ Some m) × (b ≡ Tail n zero p)
  LeadsBy (Alternatives ms) n p b = (m : ℕ) × (slice_get ms zero ≡ Some m) × (b ≡ Tail n zero p)
  LeadsBy (Iterations k s) n p b = (b ≡ Eval k p) ⊎ ((q : ℕ) × NodeTakes rules nodes bodies x k p q × (b ≡ Eval s q))
  LeadsBy (Operand k) n p b = b ≡ Eval k p

  -- where the rest from member i on at p leads: to that member, and after it to the rest
  abbrev pub TailLeadsBy : Way → ℕ → ℕ → ℕ → MatchTask → Type 0
  TailLeadsBy Leaf n i p b = ⊥
  TailLeadsBy (Body id) n i p b = ⊥
  TailLeadsBy (Members ms) n i p b = (m : ℕ) × (slice_get ms i ≡ Some m) × ((b ≡ Eval m p)
      ⊎ ((k : ℕ) × (q : ℕ) × (slice_get ms (suc i) ≡ Some k) × NodeTakes rules nodes bodies x m p q
      × (b ≡ Tail n (suc i) q)))
  TailLeadsBy (Alternatives ms) n i p b = (m : ℕ) × (slice_get ms i ≡ Some m) × ((b ≡ Eval m p)
      ⊎ ((k : ℕ) × (slice_get ms (suc i) ≡ Some k) × NodeFails rules nodes bodies x m p × (b ≡ Tail n (suc i) p)))
  TailLeadsBy (Iterations k s) n i p b = ⊥
  TailLeadsBy (Operand k) n i p b = ⊥

  abbrev pub Leads : MatchTask → MatchTask → Type 0
  Leads (Eval n p) b = (shape : Shape) × (slice_get nodes n ≡ Some shape) × LeadsBy (way_of n shape) n p b
  Leads (Tail n i p) b = (shape : Shape) × (slice_get nodes n ≡ Some shape) × TailLeadsBy (way_of n shape) n i p b

  -- the list of where node n at p leads, in order
  abbrev pub KidsBy : Way → ℕ → ℕ → List MatchTask → Type 0
  KidsBy Leaf n p ks = ks ≡ []
  KidsBy (Body id) n p ks = (m : ℕ) × (slice_get bodies id ≡ Some m) × (ks ≡ Eval m p ∷ [])
  KidsBy (Members ms) n p ks = ((slice_get ms zero ≡ None) × (ks ≡ []))
      ⊎ ((m : ℕ) × (slice_get ms zero ≡ Some m) × (ks ≡ Tail n zero p ∷ []))
  KidsBy (Alternatives ms) n p ks = ((slice_get ms zero ≡ None) × (ks ≡ []))
      ⊎ ((m : ℕ) × (slice_get ms zero ≡ Some m) × (ks ≡ Tail n zero p ∷ []))
  KidsBy (Iterations k s) n p ks = (NodeFails rules nodes bodies x k p × (ks ≡ Eval k p ∷ []))
      ⊎ ((q : ℕ) × NodeTakes rules nodes bodies x k p q × (ks ≡ Eval k p ∷ (Eval s q ∷ [])))
  KidsBy (Operand k) n p ks = ks ≡ Eval k p ∷ []

  abbrev pub TailKidsBy : Way → ℕ → ℕ → ℕ → List MatchTask → Type 0
  TailKidsBy Leaf n i p ks = ⊥
  TailKidsBy (Body id) n i p ks = ⊥
  TailKidsBy (Members ms) n i p ks = (m : ℕ) × (slice_get ms i ≡ Some m)
      × (((NodeFails rules nodes bodies x m p ⊎ (slice_get ms (suc i) ≡ None)) × (ks ≡ Eval m p ∷ []))
      ⊎ ((k : ℕ) × (q : ℕ) × (slice_get ms (suc i) ≡ Some k) × NodeTakes rules nodes bodies x m p q
      × (ks ≡ Eval m p ∷ (Tail n (suc i) q ∷ []))))
  TailKidsBy (Alternatives ms) n i p ks = (m : ℕ) × (slice_get ms i ≡ Some m)
      × ((((q : ℕ) × NodeTakes rules nodes bodies x m p q) ⊎ (slice_get ms (suc i) ≡ None)) × (ks ≡ Eval m p ∷ [])
      ⊎ ((k : ℕ) × (slice_get ms (suc i) ≡ Some k) × NodeFails rules nodes bodies x m p
      × (ks ≡ Eval m p ∷ (Tail n (suc i) p ∷ []))))
  TailKidsBy (Iterations k s) n i p ks = ⊥
  TailKidsBy (Operand k) n i p ks = ⊥

  abbrev pub Kids : MatchTask → List MatchTask → Type 0
  Kids (Eval n p) ks = (shape : Shape) × (slice_get nodes n ≡ Some shape) × KidsBy (way_of n shape) n p ks
  Kids (Tail n i p) ks = (shape : Shape) × (slice_get nodes n ≡ Some shape) × TailKidsBy (way_of n shape) n i p ks

-- whether a task is a key: a node that is marked, or a tail that is marked
abbrev pub is_key : (ℕ → Bool) → (ℕ → ℕ → Bool) → MatchTask → Bool
is_key marks tails (Eval n p) = marks n
is_key marks tails (Tail n i p) = tails n i
