-- What becomes of the rules that several texts give, in their order.
use Rattle.std.specs.Prelude.{ℕ, ◌&&◌, ◌||◌, nat_lt, not, Bool, false, List, length, map, take, if◌then◌else◌}
use Rattle.std.specs.List.{enumerate_from, prefix_len}
use Rattle.ruletable.specs.Rules.{same_name}
use Rattle.ruletable.specs.declared.table.NameCase.TheVariants.{Fold}
use Rattle.abnfread.specs.AbnfViews.{element_of}
use Rattle.abnfread.specs.Element.{Element}
use Rattle.abnftexts.specs.SameElements.{same_as, same_flag}
use Rattle.abnftexts.specs.declared.join.fate.Fate.{Fate}
use Rattle.abnftexts.specs.declared.join.fate.Fate.TheVariants.{Stands, Again, Yields}
use Rattle.abnftexts.specs.declared.join.given.GivenRule.{GivenRule}

-- a rule as a text gives it: whether it adds alternatives (`=/`), its name, its elements, and whether it is a
-- definition that its text writes as prose alone
pub record RuleGiven : Type 0 where
  pub adds : Bool
  pub name : List ℕ
  pub body : Element
  pub is_prose : Bool

-- what the code's rule stands for
abbrev pub text_rule : GivenRule → RuleGiven
text_rule rule = record {
  adds = rule.adds;
  name = rule.name.items;
  body = element_of rule.body;
  is_prose = rule.is_prose;
}

-- The same name and elements, but for case, and both define or both add. A definition of prose alone is the same only
-- as another one. Where `named` is true, that does not count, and a name of the second may stand for a prose of that
-- name in the first.
abbrev pub is_same_rule : Bool → RuleGiven → RuleGiven → Bool
is_same_rule named a b = (named || same_flag a.is_prose b.is_prose) && (same_flag a.adds b.adds
    && (same_name Fold a.name b.name && same_as named a.body b.body))

-- A definition of prose alone yields to one of the same name that has elements.
abbrev pub yields_to : RuleGiven → RuleGiven → Bool
yields_to a b = a.is_prose && (not b.adds && (same_name Fold a.name b.name && not b.is_prose))

-- the position of the first rule to which that one yields, or the number of rules
abbrev pub first_wanted : RuleGiven → List RuleGiven → ℕ
first_wanted rule rules = prefix_len (λ other. not (yields_to rule other)) rules

-- the position of the first rule that is the same, or the number of rules
abbrev pub first_same : RuleGiven → List RuleGiven → ℕ
first_same rule rules = prefix_len (λ other. not (is_same_rule false rule other)) rules

-- What becomes of a rule, where those stand before it: it yields to the first rule to which it yields; else it is
-- given again, if the same one stands before it; else it stands.
abbrev pub fate_of : List RuleGiven → List RuleGiven → RuleGiven → Fate
fate_of rules before rule =
    if nat_lt (first_wanted rule rules) (length rules) then Yields (first_wanted rule rules)
    else if nat_lt (first_same rule before) (length before) then Again (first_same rule before)
    else Stands

-- of each of the rules
abbrev pub fates_of : List RuleGiven → List Fate
fates_of rules = map (λ p. fate_of rules (take p.0 rules) p.1) (enumerate_from 0 rules)
