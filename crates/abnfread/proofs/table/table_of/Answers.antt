use Rattle.std.proofs.Common.{◌≡◌, [], arith}
use Rattle.abnfread.specs.AbnfViews.{definitions_from}
use Rattle.abnfread.proofs.FirstBodyLemmas.{length-none}
use Rattle.abnfread.proofs.JoinedTableLemmas.{goes-first, goes-last, goes-on}
use Rattle.abnfread.proofs.table.table_of.Goals as goal

pub loop-definition-init : goal.loop-definition-init
loop-definition-init c = (
  rw c.into_iter-definition-iterator.ensures.into_iter_gives.0
      (goes-first (definitions_from c.args.definitions.items) c.new.result c.new-2.result.items c.new-3.result.items
      c.new.ensures.names c.new.ensures.rules c.new-2.ensures.items c.new-3.ensures.items),
  record { names = c.in_ok-core.ensures.names; listed = c.in_ok-core.ensures.rules },
)

pub loop-definition-preserved : goal.loop-definition-preserved
loop-definition-preserved c = (
  goes-on (definitions_from c.args.definitions.items) c.loop-definition.abnf.rules c.take_definition.new.abnf.rules
      c.loop-definition.abnf.redefined.items c.loop-definition.abnf.extended.items
      c.take_definition.new.abnf.redefined.items c.take_definition.new.abnf.extended.items
      c.loop-definition.definition-iterator.rest.items c.next.new.self.rest.items c.in-Some.definition
      c.loop-definition.invariant.0 c.in-Some.ensures.steps.0 c.in_ok-take_definition.ensures.taken,
  rw c.take_definition.ensures.core c.loop-definition.invariant.1,
)

pub returns-clause-table : goal.returns-clause-table
returns-clause-table c =
    let t = c.loop-definition in
    let none : t.definition-iterator.rest.items ≡ [] =
    length-none _ (omega (arith, t.definition-iterator.rest.ok, c.in-None.ensures.steps.0)) in
    goes-last (definitions_from c.args.definitions.items) t.abnf.rules t.abnf.redefined.items t.abnf.extended.items
    (rw none at t.invariant.0)
