-- Which notes on left-recursive rules are explained by the steps of a way back, and what explains one.
use Rattle.std.specs.Prelude.{◌≡◌, ◌↔◌, ℕ, zero, suc, ◌+◌, ◌<◌, Bool, true, false, List, [], Option, Some, None}
use Rattle.std.specs.Prelude.{if◌then◌else◌, length, nat_lt, slice_get, slice_index_or}
use Rattle.fixpoint.specs.Leads.{Leads}
use Rattle.gramcheck.specs.Left.{IsLeftRecursive, Nullable}
use Rattle.pegread.specs.Definitions.{id_in}
use Rattle.pegread.specs.Pattern.{Pattern, Rule}
use Rattle.pegexplain.specs.LeftLines.{IsWayReported}

-- the test says exactly which expressions may take nothing
abbrev pub SettlesNullable : List Rule → (Pattern → Bool) → Type 0
SettlesNullable rules null = (e : Pattern) → (null e ≡ true) ↔ Nullable rules e

-- where each row has the rules to which left steps lead, a rule leads back to itself exactly if it is left-recursive
-- (Ford 2004, section 3.6)
abbrev pub LeadBack : List Rule → List (List ℕ) → Type 0
LeadBack rules rows = (id : ℕ) (rule : Rule) → slice_get rules id ≡ Some rule → id_in rules rule.name ≡ Some id
    → Leads rows id id ↔ IsLeftRecursive rules rule

-- how many marks are set before a position
abbrev pub set_before : List Bool → ℕ → ℕ
set_before marks zero = 0
set_before marks (suc n) = set_before marks n + (if slice_index_or marks n false then 1 else 0)

-- whether a rule is among the first eight left-recursive ones, of which marks say
abbrev pub is_early : List Bool → ℕ → Bool
is_early marks id = nat_lt (set_before marks id) 8

-- of the marked rules, the first eight stand before that id
abbrev pub EndsEarly : List Bool → ℕ → Type 0
EndsEarly marks end = (id : ℕ) → id < length marks → nat_lt id end ≡ is_early marks id

-- where it is known which expressions may take nothing, and on which lines the names in a rule's first definition stand
module _ (rules : List Rule) (null : Pattern → Bool) (lines : List ℕ → List ℕ) where
  -- of an early one the steps of the way back, and of another one where it is defined
  abbrev pub IsWayOr : List ℕ → ℕ → Bool → List ℕ → Type 0
  IsWayOr defined id true reported = IsWayReported rules null lines id reported
  IsWayOr defined id false reported = reported ≡ defined

  -- of no rule there are none
  abbrev pub AreLeftLines : List ℕ → List Bool → Option ℕ → List ℕ → Type 0
  AreLeftLines defined marks None reported = reported ≡ []
  AreLeftLines defined marks (Some id) reported = IsWayOr defined id (is_early marks id) reported
