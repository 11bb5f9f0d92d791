-- What there is to say of a grammar, in order.
use Rattle.std.specs.Prelude.{◌≡◌, ◌↔◌, ℕ, Bool, true, false, List, [], ◌∷◌, ◌++◌, map, length, slice_get, Option, Some}
use Rattle.std.specs.Prelude.{None, option_to_list, Contains}
use Rattle.std.specs.List.{flat_map}
use Rattle.fixpoint.specs.NumberMarks.{IsMarked}
use Rattle.ruletable.specs.Notes.{Said, said}
use Rattle.ruletable.specs.declared.note.NoteKind.TheVariants.{Redefined, ExtendedEarly, Undefined, Prose, Unused}
use Rattle.ruletable.specs.declared.note.NoteKind.TheVariants.{LeftRecursion, Loop}
use Rattle.ruletable.specs.declared.note.NoteKind.{NoteKind}
use Rattle.ruletable.specs.declared.table.NameCase.TheVariants.{Exact}
use Rattle.pegread.specs.Pattern.{Rule}
use Rattle.gramcheck.specs.Left.{IsLeftRecursive, Loops}
use Rattle.fixpoint.specs.FirstUses.{news}
use Rattle.gramcheck.specs.Uses.{names_used, rule_names}

-- those of a list of which P holds, in the list's order
module _ {A : Type 0} (P : A → Type 0) where
  pub data Those : List A → List A → Type 0 where
    no_more : Those [] []
    this_one : {x : A} {xs ys : List A} → P x → Those xs ys → Those (x ∷ xs) (x ∷ ys)
    not_this : {x : A} {xs ys : List A} → (P x → ⊥) → Those xs ys → Those (x ∷ xs) ys

-- the name of the start rule: the given one, or that of the first rule; a given name that no rule has makes no rule the
-- start rule
abbrev pub start_of : Option (List ℕ) → List Rule → Option (List ℕ)
start_of (Some name) rules = Some name
start_of None [] = None
start_of None (rule ∷ rules) = Some rule.name

-- no body uses the rule's name, and it is not the start rule
abbrev pub IsUnused : Option (List ℕ) → List Rule → Rule → Type 0
IsUnused start rules rule = (Contains (names_used rules) rule.name → ⊥) × (start_of start rules ≡ Some rule.name → ⊥)

-- the names of the rules with these ids
abbrev pub names_at : List Rule → List ℕ → List (List ℕ)
names_at rules ids = flat_map (λ id. option_to_list (slice_get (rule_names rules) id)) ids

-- The notes on a grammar, given its rules, the names that are defined again, and the name of the start rule if one is
-- given: those on rules that are defined again, on names that no rule has, in order of first use, where a given start
-- is a use before all others, on rules that are not used, on left-recursive rules, and on rules that repeat a nullable
-- expression; each kind by the order of the rules.
pub record AreNotes (rules : List Rule) (again : List (List ℕ)) (start : Option (List ℕ)) (notes : List Said) : Type
    0 where
  pub redefined : List Rule
  pub unused : List Rule
  pub recursive : List Rule
  pub looping : List Rule
  pub are_redefined : Those (λ rule. Contains again rule.name) rules redefined
  pub are_unused : Those (IsUnused start rules) rules unused
  pub are_recursive : Those (IsLeftRecursive rules) rules recursive
  pub are_looping : Those (Loops rules) rules looping
  pub all : notes ≡ map (λ rule. said Redefined rule.name) redefined
      ++ (map (said Undefined) (news Exact (rule_names rules) (option_to_list start ++ names_used rules))
      ++ (map (λ rule. said Unused rule.name) unused
      ++ (map (λ rule. said LeftRecursion rule.name) recursive ++ map (λ rule. said Loop rule.name) looping)))

-- the notes on rules that are defined again, alone
pub record AreRedefinitions (rules : List Rule) (again : List (List ℕ)) (notes : List Said) : Type 0 where
  pub redefined : List Rule
  pub are_redefined : Those (λ rule. Contains again rule.name) rules redefined
  pub all : notes ≡ map (λ rule. said Redefined rule.name) redefined

-- whether a note of that kind rejects the grammar: each does, but that on a rule that is not used
abbrev pub kind_refuses : NoteKind → Bool
kind_refuses Redefined = true
kind_refuses ExtendedEarly = true
kind_refuses Undefined = true
kind_refuses Prose = true
kind_refuses Unused = false
kind_refuses LeftRecursion = true
kind_refuses Loop = true

abbrev pub said_refuses : Said → Bool
said_refuses note = kind_refuses note.kind

-- a mark for each rule, set exactly where P holds of it
pub record AreMarks (P : Rule → Type 0) (rules : List Rule) (marks : List Bool) : Type 0 where
  pub count : length marks ≡ length rules
  pub exact : (id : ℕ) (rule : Rule) → slice_get rules id ≡ Some rule → (IsMarked marks id ↔ P rule)
