-- The table of a list of definitions (RFC 5234, sections 2.2 and 3.3): names compare without case, `=/` adds
-- alternatives, and core rules are there.
use Rattle.std.specs.Prelude.{◌≡◌, ℕ, suc, Bool, true, false, cond, ◌&&◌, List, [], ◌∷◌, ◌++◌, map, length}
use Rattle.std.specs.Prelude.{position, slice_get, Option, Some, None}
use Rattle.ruletable.specs.Rules as table
use Rattle.ruletable.specs.Rules.{find_in, same_name}
use Rattle.ruletable.specs.declared.table.NameCase.TheVariants.{Fold}
use Rattle.abnfread.specs.declared.elem.Elem.{Elem}
use Rattle.abnfread.specs.CoreRules.{core_list}
use Rattle.abnfread.specs.Element.{Element, Elements, none, more, append, Alt, Rule, body_of, Definition}
use Rattle.abnfread.specs.AbnfViews.{element_of, rules_of}
use Rattle.abnfread.specs.AbnfSpelling.{alternation}

-- the alternatives of a body
abbrev pub alternatives_of : Element → Elements
alternatives_of (Alt xs) = xs
alternatives_of x = more x none

-- the alternatives of one body, and then those of another (RFC 5234, section 3.3)
abbrev pub with_alternatives : Element → Element → Element
with_alternatives x y = alternation (append (alternatives_of x) (alternatives_of y))

-- the position of the definition's name among these
abbrev pub id_in : List (List ℕ) → Definition → Option ℕ
id_in known d = position (same_name Fold d.name) known

-- the bodies that the definitions add to that name's
abbrev pub added : List ℕ → List Definition → List Element
added n [] = []
added n (d ∷ ds) = cond (d.adds && same_name Fold d.name n) (d.body ∷ added n ds) (added n ds)

abbrev pub extended : Element → List Element → Element
extended x [] = x
extended x (y ∷ ys) = extended (with_alternatives x y) ys

-- what the first definition of a name begins with: its body, after that of a core rule which it extends
abbrev pub first_body : (List ℕ → Option Element) → Definition → Element
first_body core d = cond d.adds (elim (core d.name) [ None ↦ d.body | Some c ↦ with_alternatives c d.body ]) d.body

-- the rule that a definition begins, before any other adds to it
abbrev pub begun : (List ℕ → Option Element) → Definition → Rule
begun core d = record { name = d.name; body = first_body core d; span = d.span }

-- a rule, with what the definitions add to it
abbrev pub grown : List Definition → Rule → Rule
grown ds rule = record { name = rule.name; body = extended rule.body (added rule.name ds); span = rule.span }

-- the first definition of each name that is not known yet, with what later ones add to it
abbrev pub firsts : (List ℕ → Option Element) → List (List ℕ) → List Definition → List Rule
firsts core known [] = []
firsts core known (d ∷ ds) = elim (id_in known d)
    [ None ↦ grown ds (begun core d) ∷ firsts core (known ++ d.name ∷ []) ds | Some id ↦ firsts core known ds ]

-- of each further definition by `=` the id of the rule that it names again
abbrev pub agains : (List ℕ → Option Element) → List (List ℕ) → List Definition → List ℕ
agains core known [] = []
agains core known (d ∷ ds) = elim (id_in known d) [
  | None ↦ agains core (known ++ d.name ∷ []) ds
  | Some id ↦ cond d.adds (agains core known ds) (id ∷ agains core known ds)
]

-- a definition by `=/` that begins a rule, where no core rule has the name
abbrev pub is_early : (List ℕ → Option Element) → Definition → Bool
is_early core d = d.adds && elim (core d.name) [ None ↦ true | Some c ↦ false ]

-- the ids of the rules that begin with `=/`, and that no core rule names
abbrev pub earlies : (List ℕ → Option Element) → ℕ → List (List ℕ) → List Definition → List ℕ
earlies core n known [] = []
earlies core n known (d ∷ ds) = elim (id_in known d) [
  | None ↦ cond (is_early core d) (n ∷ earlies core (suc n) (known ++ d.name ∷ []) ds)
      (earlies core (suc n) (known ++ d.name ∷ []) ds)
  | Some id ↦ earlies core n known ds
]

-- The file's rules are those that the definitions make, with the core rules after them. The ids are those of the rules
-- that are defined again, and of those that are extended before they are defined.
pub record IsTableOf (definitions : List Definition) (rules : table.Rules Elem) (redefined early : List ℕ) : Type
    0 where
  pub names : rules.names ≡ Fold
  pub kept : rules_of rules ≡ firsts (body_of core_list) [] definitions
  pub again : redefined ≡ agains (body_of core_list) [] definitions
  pub before : early ≡ earlies (body_of core_list) 0 [] definitions

-- the table of the core rules
pub record IsCoreTable (rules : table.Rules Elem) : Type 0 where
  pub names : rules.names ≡ Fold
  pub listed : rules_of rules ≡ core_list

-- the first definition of its name, and whether it extends what no core rule defines
abbrev pub IsFirstBody : Definition → Elem → Bool → Type 0
IsFirstBody d e early = (element_of e ≡ first_body (body_of core_list) d) × (early ≡ is_early (body_of core_list) d)

-- the rule with that id has more alternatives, and all else is as it was
pub record IsExtended (old new : table.Rules Elem) (id : ℕ) (more_body : Element) : Type 0 where
  pub body : Elem
  pub joins : Elem
  pub there : slice_get (table.bodies_of old) id ≡ Some body
  pub is : new ≡ table.with_body old id joins
  pub sums : element_of joins ≡ with_alternatives (element_of body) more_body

-- but for the body of one rule the table is as it was
pub record IsTaken {E : Type 0} (old : table.Rules E) (id : ℕ) (new : table.Rules E) : Type 0 where
  pub body : E
  pub is : new ≡ table.with_body old id body

-- a rule, with the definition's body after its own if the definition names it
abbrev pub grow_named : Definition → Rule → Rule
grow_named d rule = cond (same_name Fold d.name rule.name)
    (record { name = rule.name; body = with_alternatives rule.body d.body; span = rule.span }) rule

-- the definition begins a rule after the others, and the flag says whether it extends what no core rule defines
pub record IsBegun (d : Definition) (old new : table.Rules Elem) (early : Bool) : Type 0 where
  pub names : new.names ≡ old.names
  pub rules : rules_of new ≡ rules_of old ++ begun (body_of core_list) d ∷ []
  pub is : early ≡ is_early (body_of core_list) d

-- what one definition more makes of the rules and of both lists of ids
pub data TakesDefinition (d : Definition) (old : table.Rules Elem) (redefined early : List ℕ) : table.Rules Elem
    → List ℕ → List ℕ → Type 0 where
  grows : (id : ℕ) (new : table.Rules Elem) → find_in old d.name ≡ Some id → d.adds ≡ true → new.names ≡ old.names
      → rules_of new ≡ map (grow_named d) (rules_of old) → TakesDefinition d old redefined early new redefined early
  redefines : (id : ℕ) → find_in old d.name ≡ Some id → d.adds ≡ false
      → TakesDefinition d old redefined early old (redefined ++ id ∷ []) early
  extends : (new : table.Rules Elem) → find_in old d.name ≡ None → IsBegun d old new true
      → TakesDefinition d old redefined early new redefined (early ++ length old.rules ∷ [])
  begins : (new : table.Rules Elem) → find_in old d.name ≡ None → IsBegun d old new false
      → TakesDefinition d old redefined early new redefined early
