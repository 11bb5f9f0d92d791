-- Sound grammars: from the judged rule no name without a rule can be reached, and no prose.
use Rattle.std.specs.Prelude.{◌≡◌, ℕ, ◌<◌, List, length, slice_get, Option, Some}
use Rattle.ruletable.specs.Rules as table
use Rattle.ruletable.specs.declared.table.NameCase.TheVariants.{Fold}
use Rattle.abnfread.specs.declared.elem.Elem.{Elem}
use Rattle.abnfread.specs.Element.{Element, Elements, Concat, Alt, Rep, Opt, Name, Prose, more, Rule, bodies, id_of}
use Rattle.abnfread.specs.AbnfViews.{rules_of}

-- what stands in an element, itself included
mutual
  pub data Within : Element → Element → Type 0 where
    itself : {e : Element} → Within e e
    of_concat : {es : Elements} {d : Element} → WithinSome es d → Within (Concat es) d
    of_alt : {es : Elements} {d : Element} → WithinSome es d → Within (Alt es) d
    of_rep : {a : ℕ} {b : Option ℕ} {e d : Element} → Within e d → Within (Rep a b e) d
    of_opt : {e d : Element} → Within e d → Within (Opt e) d

  pub data WithinSome : Elements → Element → Type 0 where
    of_first : {e : Element} {es : Elements} {d : Element} → Within e d → WithinSome (more e es) d
    of_later : {e : Element} {es : Elements} {d : Element} → WithinSome es d → WithinSome (more e es) d

module _ (rules : List Rule) (judged : ℕ) where
  -- The least set of ids with the judged rule and, with each rule, those of the names in its body. The number of rules
  -- stands for a name without a rule.
  pub data Reachable : ℕ → Type 0 where
    judged_rule : Reachable judged
    by_name : {id : ℕ} {body : Element} {name : List ℕ} → Reachable id → slice_get (bodies rules) id ≡ Some body
        → Within body (Name name) → Reachable (id_of rules name)

  pub record IsSound : Type 0 where
    pub judged_is_rule : judged < length rules
    pub defined : (id : ℕ) → Reachable id → id < length rules
    pub plain : (id : ℕ) (body : Element) (text : List ℕ) → Reachable id → slice_get (bodies rules) id ≡ Some body
        → Within body (Prose text) → ⊥

-- the file's rules, then the core rules that it leaves alone, and the id of the judged one
pub record Grammar : Type 0 where
  pub rules : table.Rules Elem
  pub judged : ℕ

pub record IsSoundGrammar (g : Grammar) : Type 0 where
  pub folds : g.rules.names ≡ Fold
  pub sound : IsSound (rules_of g.rules) g.judged
