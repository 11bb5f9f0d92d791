-- Left steps between numbered nodes as rows of numbers, and rules in a cycle of them.
use Rattle.std.specs.Prelude.{◌≡◌, ◌⊎◌, ◌↔◌, ℕ, ◌<◌, Bool, false, cond, List, [], ◌∷◌, length, map, slice_get}
use Rattle.std.specs.Prelude.{slice_index_or, option_to_list, Some}
use Rattle.pegread.specs.Pattern.{Rule}
use Rattle.fixpoint.specs.Leads.{Leads}
use Rattle.fixpoint.specs.NumberMarks.{IsMarked}
use Rattle.fixpoint.specs.StepRows.{Step}
use Rattle.gramcheck.specs.Left.{IsLeftRecursive}
use Rattle.pegnodes.specs.Nodes.{Shape, Any, Bytes, Set, Name, Seq, Choice, Star, Plus, Opt, And, Not, Act, Open}
use Rattle.pegnodes.specs.Nodes.{Close, id_of}
use Rattle.gramcheck.specs.Ranks.{AreRanks}

-- the first members, as far as the first that isn't marked nullable
abbrev pub front : List Bool → List ℕ → List ℕ
front nulls [] = []
front nulls (m ∷ ms) = m ∷ cond (slice_index_or nulls m false) (front nulls ms) []

-- where left steps lead from a node
abbrev pub steps_of : List ℕ → List Bool → Shape → List ℕ
steps_of bodies nulls Any = []
steps_of bodies nulls (Bytes bs) = []
steps_of bodies nulls (Set s) = []
steps_of bodies nulls (Name id) = option_to_list (slice_get bodies id)
steps_of bodies nulls (Seq ms) = front nulls ms
steps_of bodies nulls (Choice ms) = ms
steps_of bodies nulls (Star m) = m ∷ []
steps_of bodies nulls (Plus m k) = m ∷ []
steps_of bodies nulls (Opt m) = m ∷ []
steps_of bodies nulls (And m) = m ∷ []
steps_of bodies nulls (Not m) = m ∷ []
steps_of bodies nulls (Act t) = []
steps_of bodies nulls Open = []
steps_of bodies nulls Close = []

-- of each node the nodes to which left steps lead from it
abbrev pub step_rows : List ℕ → List Bool → List Shape → List (List ℕ)
step_rows bodies nulls nodes = map (steps_of bodies nulls) nodes

module _ (rows : List (List ℕ)) (nodes : List Shape) (bodies : List ℕ) where
  -- from a name steps lead to its rule's body alone
  pub record AreNameSteps : Type 0 where
    pub step : (id n m : ℕ) → slice_get nodes n ≡ Some (Name id) → slice_get bodies id ≡ Some m → Step rows n m
    pub only : (id n m : ℕ) → slice_get nodes n ≡ Some (Name id) → Step rows n m → slice_get bodies id ≡ Some m

  -- a chain of steps leads from the rule's body to its name
  pub record ComesBack (id : ℕ) : Type 0 where
    pub body : ℕ
    pub name : ℕ
    pub starts : slice_get bodies id ≡ Some body
    pub named : slice_get nodes name ≡ Some (Name id)
    pub leads : Leads rows body name

  -- exactly the rules in a cycle are marked
  pub record AreComingBack (found : List Bool) : Type 0 where
    pub count : length found ≡ length bodies
    pub marks : (id : ℕ) → IsMarked found id ↔ ComesBack id

-- the rules are marked now that marked nodes among the first i name, and no others that were not marked before
pub record MarksNames (nodes : List Shape) (i : ℕ) (marks found found' : List Bool) : Type 0 where
  pub count : length found' ≡ length found
  pub kept : (id : ℕ) → IsMarked found id → IsMarked found' id
  pub all : (n id : ℕ) → n < i → IsMarked marks n → slice_get nodes n ≡ Some (Name id) →
      id < length found → IsMarked found' id
  pub only : (id : ℕ) → IsMarked found' id →
      IsMarked found id ⊎ ((n : ℕ) × IsMarked marks n × (slice_get nodes n ≡ Some (Name id)))

-- exactly the left-recursive rules are marked; where none is, each left step lowers the rank
pub record IsLeft (rules : List Rule) (nodes : List Shape) (bodies : List ℕ) (recursive : List Bool)
    (ranks : List ℕ) : Type 0 where
  pub count : length recursive ≡ length rules
  pub sound : (id : ℕ) (rule : Rule) → slice_get rules id ≡ Some rule → IsMarked recursive id →
      IsLeftRecursive rules rule
  pub whole : (id : ℕ) (rule : Rule) → slice_get rules id ≡ Some rule → id_of rules rule.name ≡ id →
      IsLeftRecursive rules rule → IsMarked recursive id
  pub ranked : ((id : ℕ) → IsMarked recursive id → ⊥) → AreRanks rules nodes bodies ranks
