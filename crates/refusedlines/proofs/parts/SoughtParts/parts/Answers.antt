use Rattle.std.proofs.Common.{map, arith}
use Rattle.refusedlines.specs.ShownParts.{awaited_part}
use Rattle.refusedlines.specs.SoughtParts.{is_sought, operand_of}
use Rattle.refusedlines.proofs.SoughtPartsLemmas.{rule_added, rules_added}
use Rattle.refusedlines.proofs.parts.SoughtParts.parts.Goals as goal

pub loop-id-preserved : goal.loop-id-preserved
loop-id-preserved c =
    let self = c.args.self.now in
    rule_added (operand_of self.flat.now) (is_sought self) self.flat.now.bodies c.args.rules.now.rules
    c.loop-id.id c.body.result.now c.body-node.result (map awaited_part c.loop-id.parts.items)
    (map awaited_part c.add_parts.new.parts.items) _ c.body.ensures c.body-node.ensures
    c.loop-id.invariant c.in_ok-add_parts.ensures

pub returns : goal.returns
returns c =
    let self = c.args.self.now in
    let over = c.loop-id-test.false in
    let count = c.len-id-end.ensures.len in
    rules_added (operand_of self.flat.now) (is_sought self) self.flat.now.bodies c.args.rules.now.rules
    c.loop-id.id (map awaited_part c.loop-id.parts.items) _ (omega (arith, over, count)) c.loop-id.invariant
