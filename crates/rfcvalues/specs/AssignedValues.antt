-- Rules that only assign values, and runs of them that are no ABNF.
use Rattle.std.specs.Prelude.{◌≡◌, ◌↔◌, ◌⊎◌, ℕ, ◌||◌, ◌&&◌, nat_lt, not, Bool, true, false, List, [], ◌∷◌, length}
use Rattle.std.specs.Prelude.{slice_get, Some, Contains}
use Rattle.std.specs.List.{list_any}
use Rattle.fixpoint.specs.NumberMarks.{IsMarked}
use Rattle.ruletable.specs.Rules.{same_name}
use Rattle.ruletable.specs.declared.table.NameCase.TheVariants.{Fold}
use Rattle.abnfread.specs.CoreRules.{core_names}
use Rattle.rfcvalues.specs.RuleSketches.{SketchedRule}

-- a rule has that name, in whatever case
abbrev pub goes_by : List ℕ → SketchedRule → Bool
goes_by name rule = same_name Fold name rule.name

abbrev pub is_core : List ℕ → Bool
is_core name = list_any (same_name Fold name) core_names

-- The names from which words lead to some terminal. They are the least set that has those of core rules (RFC 5234,
-- appendix B.1), of rules with a mark, and of rules with such a name among their words.
pub data IsGrounded (rules : List SketchedRule) : List ℕ → Type 0 where
  of_core : {name : List ℕ} → is_core name ≡ true → IsGrounded rules name
  by_mark : {name : List ℕ} (n : ℕ) (rule : SketchedRule) → slice_get rules n ≡ Some rule → goes_by name rule ≡ true
      → rule.is_marked ≡ true → IsGrounded rules name
  by_word : {name : List ℕ} (word : List ℕ) (n : ℕ) (rule : SketchedRule) → slice_get rules n ≡ Some rule
      → goes_by name rule ≡ true → Contains rule.uses word → IsGrounded rules word → IsGrounded rules name

-- the rule has a mark, or a grounded name among its words
abbrev pub IsRuleGrounded : List SketchedRule → SketchedRule → Type 0
IsRuleGrounded rules rule = (rule.is_marked ≡ true)
    ⊎ ((word : List ℕ) × Contains rule.uses word × IsGrounded rules word)

-- the rule assigns a value: it is not grounded, ends like a statement, or is written without blanks
abbrev pub IsValue : List SketchedRule → SketchedRule → Type 0
IsValue rules rule = (IsRuleGrounded rules rule → ⊥) ⊎ ((rule.is_statement || rule.is_compact) ≡ true)

-- the values among the rules are marked
pub record AreValueMarks (rules : List SketchedRule) (marks : List Bool) : Type 0 where
  pub count : length marks ≡ length rules
  pub values : (n : ℕ) (rule : SketchedRule) → slice_get rules n ≡ Some rule → IsMarked marks n ↔ IsValue rules rule

-- two of the rules have the same name
abbrev pub has_same_names : List SketchedRule → Bool
has_same_names [] = false
has_same_names (rule ∷ rules) = list_any (λ other. goes_by other.name rule) rules || has_same_names rules

-- a rule that does not read, or has a word in hexadecimal digits
abbrev pub is_test_vector : SketchedRule → Bool
is_test_vector rule = not rule.reads || rule.has_hex

-- Values one after another are no ABNF if one ends like a statement; or if they are two or more, and one does not read
-- or has a word in hexadecimal digits, or two have the same name.
abbrev pub is_no_abnf : List SketchedRule → Bool
is_no_abnf run = list_any (λ rule. rule.is_statement) run
    || (nat_lt 1 (length run) && (list_any is_test_vector run || has_same_names run))
