-- Names, the bodies of their rules, and the nodes of these.
-- Serves: items_decide, lower, judge.
use Rattle.std.proofs.Common.{◌≡◌, ℕ, List, Some}
use Rattle.std.proofs.Common.{◌∙◌, subst, arith}
use Rattle.std.specs.Prelude.{slice_get}
use Rattle.std.proofs.lemmas.List.{length-map}
use Rattle.abnfread.specs.Element.{Element, Rule, bodies, body_of, id_of}
use Rattle.abnfcheck.proofs.RuleIdLemmas.{body_at_id}
use Rattle.flatgrammar.specs.Flat.{Node}
use Rattle.lowering.specs.Lowered.{Spells, AreBodies}
use Rattle.flatgrammar.proofs.SliceGetLemmas.{get_below}
use Rattle.flatgrammar.proofs.SliceGetLemmas.{get_there}

-- the node of a rule's body
pub record HasNode (rules : List Rule) (limit : ℕ) (nodes : List Node) (numbers : List ℕ) (r : ℕ) (el : Element) : Type
    0 where
  pub node : ℕ
  pub at : slice_get numbers r ≡ Some node
  pub spelled : Spells rules limit nodes node el

module _ (rules : List Rule) (limit : ℕ) (nodes : List Node) (numbers : List ℕ)
    (are : AreBodies rules limit nodes numbers) where
  pub node_of_rule : (r : ℕ) (el : Element) → slice_get (bodies rules) r ≡ Some el
      → HasNode rules limit nodes numbers r el
  node_of_rule r el is =
      let below = get_below (bodies rules) r is in
      let count = length-map rules (λ rule. rule.body) in
      let number = get_there numbers r (omega (arith, below, count, are.count)) in
      let body = are.spelled r number.0 number.1 in
      let same : body.0 ≡ el = cc (body.1, is) in
      record { node = number.0; at = number.1; spelled = subst (λ v. Spells rules limit nodes number.0 v) same body.2 }

  -- the body that a node's number spells is the name's
  pub body_of_number : (n : List ℕ) (r t : ℕ) → r ≡ id_of rules n → slice_get numbers r ≡ Some t → (el : Element)
      × (body_of rules n ≡ Some el) × Spells rules limit nodes t el
  body_of_number n r t is at =
      let body = are.spelled r t at in
      (body.0, (body_at_id rules n ∙ subst (λ v. slice_get (bodies rules) v ≡ Some body.0) is body.1), body.2)
