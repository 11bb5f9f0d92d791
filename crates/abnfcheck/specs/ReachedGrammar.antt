-- The grammar of the rules that the judged one reaches: the same names, and empty bodies for other rules.
use Rattle.std.specs.Prelude.{◌≡◌, ◌⊎◌, ℕ, Bool, true, false, List, [], ◌∷◌, length, slice_get, Some}
use Rattle.abnfcheck.specs.AbnfGrammar.{Grammar, Reachable}
use Rattle.abnfread.specs.AbnfViews.{rules_of}
use Rattle.abnfread.specs.Element.{Concat, Element, Rule, bodies, id_of, none}

-- a body that is kept, or an empty one
abbrev pub kept_element : Bool → Element → Element
kept_element true el = el
kept_element false el = Concat none

-- the rules, with empty bodies for those that are not marked
abbrev pub rules_kept : List Bool → List Rule → List Rule
rules_kept [] rules = []
rules_kept (mark ∷ marks) [] = []
rules_kept (mark ∷ marks) (rule ∷ rules) =
    record { name = rule.name; body = kept_element mark rule.body; span = rule.span } ∷ rules_kept marks rules

-- rules of the same names: the body of each that the judged one reaches is the same, and that of each other is empty
pub record AreReachedOf (rules : List Rule) (judged : ℕ) (kept : List Rule) : Type 0 where
  pub count : length kept ≡ length rules
  pub ids : (name : List ℕ) → id_of kept name ≡ id_of rules name
  pub reached : (id : ℕ) → Reachable rules judged id → slice_get (bodies kept) id ≡ slice_get (bodies rules) id
  pub others : (id : ℕ) (body : Element) → slice_get (bodies kept) id ≡ Some body
      → Reachable rules judged id ⊎ (body ≡ Concat none)

-- a grammar of the rules that the judged one reaches
pub record IsReachedGrammar (g kept : Grammar) : Type 0 where
  pub judged : kept.judged ≡ g.judged
  pub rules : AreReachedOf (rules_of g.rules) g.judged (rules_of kept.rules)
