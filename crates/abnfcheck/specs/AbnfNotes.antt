-- The notes on a grammar in ABNF, in order, and what rejects it. Own, but for what RFC 5234, sections 2.1, 3.3 and 4,
-- says of rule names, `=/` and prose.
use Rattle.std.specs.Prelude.{◌≡◌, ℕ, suc, ◌<◌, Bool, List, [], ◌∷◌, ◌++◌, map, length, Option, Some, None}
use Rattle.std.specs.Prelude.{Contains, MatchOption, option_to_list}
use Rattle.ruletable.specs.Notes.{Said, said}
use Rattle.ruletable.specs.Rules as table
use Rattle.ruletable.specs.declared.note.NoteKind.TheVariants as kind
use Rattle.ruletable.specs.declared.table.NameCase.TheVariants.{Fold}
use Rattle.fixpoint.specs.NumberMarks.{IsMarked}
use Rattle.fixpoint.specs.FirstUses.{news}
use Rattle.abnfread.specs.AbnfViews.{rules_of}
use Rattle.abnfread.specs.Element.{Rule, id_of}
use Rattle.abnfread.specs.declared.elem.Elem.{Elem}
use Rattle.abnfcheck.specs.AbnfGrammar.{Grammar, Reachable}
use Rattle.abnfcheck.specs.AbnfUses.{names_used, rule_names, Uses, HoldsProse}

module _ (P : ℕ → Type 0) where
  -- the names of those rules of which P holds by their ids, in the order of the rules; i is the id of the first
  pub data Those : ℕ → List Rule → List (List ℕ) → Type 0 where
    no_more : {i : ℕ} → Those i [] []
    this_one : {i : ℕ} {rule : Rule} {rules : List Rule} {names : List (List ℕ)} → P i → Those (suc i) rules names
        → Those i (rule ∷ rules) (rule.name ∷ names)
    not_this : {i : ℕ} {rule : Rule} {rules : List Rule} {names : List (List ℕ)} → (P i → ⊥) → Those (suc i) rules names
        → Those i (rule ∷ rules) names

-- the id of the judged rule: of that with the given name, or of the first; the number of rules stands for a name
-- without a rule
abbrev pub judged_in : Option (List ℕ) → List Rule → ℕ
judged_in None rules = 0
judged_in (Some name) rules = id_of rules name

-- no body holds a name of the rule, and it is not judged
abbrev pub IsUnused : List Rule → ℕ → ℕ → Type 0
IsUnused rules judged id = ((user : ℕ) → Uses rules user id → ⊥) × (judged ≡ id → ⊥)

-- The notes, given the rules of the file, all rules, the ids of the rules that are defined again, and of those that are
-- extended before they are defined, and the name of the judged rule if one is given: those on rules of the file that
-- are defined again; on rules of the file that are extended before they are defined; on names that no rule has, each
-- once, by first use, where a given name is a use before all others; on rules of the file that hold prose; and on rules
-- of the file that are not used. Each kind on rules goes by their order.
pub record AreNotes (file rules : List Rule) (again early : List ℕ) (given : Option (List ℕ)) (notes : List Said) : Type
    0 where
  pub redefined : List (List ℕ)
  pub extended : List (List ℕ)
  pub prose : List (List ℕ)
  pub unused : List (List ℕ)
  pub are_redefined : Those (Contains again) 0 file redefined
  pub are_extended : Those (Contains early) 0 file extended
  pub hold_prose : Those (HoldsProse rules) 0 file prose
  pub are_unused : Those (IsUnused rules (judged_in given rules)) 0 file unused
  pub all : notes ≡ map (said kind.Redefined) redefined
      ++ (map (said kind.ExtendedEarly) extended
      ++ (map (said kind.Undefined) (news Fold (rule_names rules) (option_to_list given ++ names_used rules))
      ++ (map (said kind.Prose) prose ++ map (said kind.Unused) unused)))

module _ (file rules : List Rule) (again : List ℕ) (judged : ℕ) where
  -- a rule of the file is defined again; or a name without a rule, or prose, can be reached from the judged rule
  pub data IsRefused : Type 0 where
    by_redefinition : {id : ℕ} → id < length file → Contains again id → IsRefused
    by_name : Reachable rules judged (length rules) → IsRefused
    by_prose : {id : ℕ} → Reachable rules judged id → HoldsProse rules id → IsRefused

-- each rule that is not marked is rejected where it is judged, whatever the file is and what it redefines
abbrev pub AreOthersRefused : List Rule → List Bool → Type 0
AreOthersRefused rules marks = (id : ℕ) → id < length rules → (IsMarked marks id → ⊥) → (file : List Rule)
    → (again : List ℕ) → IsRefused file rules again id

-- there is a grammar of all rules, with its judged rule, exactly where it is not rejected
abbrev pub IsSoundUnlessRefused : List Rule → table.Rules Elem → List ℕ → Option (List ℕ) → Option Grammar → Type 0
IsSoundUnlessRefused file all again given sound =
    MatchOption sound (IsRefused file (rules_of all) again (judged_in given (rules_of all)))
    (λ g. (IsRefused file (rules_of all) again (judged_in given (rules_of all)) → ⊥) × (g.rules ≡ all)
    × (g.judged ≡ judged_in given (rules_of all)))
