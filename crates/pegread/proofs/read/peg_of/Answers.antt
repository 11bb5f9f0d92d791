use Rattle.std.proofs.Common.{◌≡◌, [], arith}
use Rattle.std.proofs.lemmas.List.{length-map, nil_from_length}
use Rattle.pegread.specs.Definitions.{IsTableOf}
use Rattle.pegread.specs.Steps.{rule_from, rules_from}
use Rattle.pegread.proofs.IsTableOfLemmas.{goes-first, goes-added, goes-again, goes-last, table-some, table-ids}
use Rattle.pegread.proofs.read.peg_of.Goals as goal

pub loop-definition-init : goal.loop-definition-init
loop-definition-init c = rw c.into_iter-definition-iterator.ensures.into_iter_gives.0
    (goes-first (rules_from c.args.definitions.items) c.new-rules.result c.new-redefined.result.items
    c.new-rules.ensures.names c.new-rules.ensures.rules c.new-redefined.ensures.items)

pub loop-definition-preserved-in-Added : goal.loop-definition-preserved-in-Added
loop-definition-preserved-in-Added c =
    let t = c.loop-definition in
    let left = rw c.in-Some.ensures.steps.0 at t.invariant in
    goes-added (rules_from c.args.definitions.items) t.rules c.define.new.self t.redefined.items c.in-Some.definition
    (rules_from c.next.new.self.rest.items) c.in-Added.field-0 left
    (rw c.in-Added.is at c.in_ok-define.ensures.defines)

pub loop-definition-preserved : goal.loop-definition-preserved
loop-definition-preserved c =
    let t = c.loop-definition in
    let left = rw c.in-Some.ensures.steps.0 at t.invariant in
    rw c.in_ok-push-in-Duplicate.ensures.items
    (goes-again (rules_from c.args.definitions.items) t.rules c.define.new.self t.redefined.items c.in-Some.definition
    (rules_from c.next.new.self.rest.items) c.in-Duplicate.id left
    (rw c.in-Duplicate.is at c.in_ok-define.ensures.defines))

module _ (c : goal.After-drop-definition-iterator-2) where
  made : IsTableOf (rules_from c.args.definitions.items) c.loop-definition.rules c.loop-definition.redefined.items
  made =
      let t = c.loop-definition in
      let none : t.definition-iterator.rest.items ≡ [] =
      nil_from_length _ (omega (arith, t.definition-iterator.rest.ok, c.in-None.ensures.steps.0)) in
      goes-last (rules_from c.args.definitions.items) t.rules t.redefined.items (rw none at t.invariant)

pub returns : goal.returns
returns c =
    let t = c.loop-definition in
    let none : t.definition-iterator.rest.items ≡ [] =
    nil_from_length _ (omega (arith, t.definition-iterator.rest.ok, c.in-None.ensures.steps.0)) in
    goes-last (rules_from c.args.definitions.items) t.rules t.redefined.items (rw none at t.invariant)

pub invariant_of-result-clause-exact : goal.invariant_of-result-clause-exact
invariant_of-result-clause-exact c = (made c).names

pub invariant_of-result-clause-some : goal.invariant_of-result-clause-some
invariant_of-result-clause-some c = table-some (rules_from c.args.definitions.items) c.loop-definition.rules
    c.loop-definition.redefined.items (made c) (omega
    (arith, c.requires, length-map c.args.definitions.items rule_from))

pub invariant_of-result-clause-within : goal.invariant_of-result-clause-within
invariant_of-result-clause-within c = table-ids (rules_from c.args.definitions.items) c.loop-definition.rules
    c.loop-definition.redefined.items (made c)
