use Rattle.std.proofs.Common.{map}
use Rattle.refusedlines.specs.ShownParts.{awaited_part}
use Rattle.refusedlines.specs.SoughtParts.{is_sought, operand_of}
use Rattle.refusedlines.proofs.SoughtPartsLemmas.{operand_added, operands_added}
use Rattle.refusedlines.proofs.parts.SoughtParts.+adding.Goals as goal

pub add_operands-loop-i-preserved : goal.add_operands-loop-i-preserved
add_operands-loop-i-preserved t c =
    let self = c.args.self.now in
    operand_added (operand_of self.flat.now) (is_sought self) c.args.rule c.args.node c.args.operands.now c.loop-i.i
    c.index-operands-i.result (map awaited_part c.loop-i.parts.items) (map awaited_part c.add_parts.new.parts.items)
    _ c.loop-i-test.true c.index-operands-i.is c.loop-i.invariant (rw c.operand.ensures at c.in_ok-add_parts.ensures)

pub add_operands-returns : goal.add_operands-returns
add_operands-returns t c =
    let self = c.args.self.now in
    operands_added (operand_of self.flat.now) (is_sought self) c.args.rule c.args.node c.args.operands.now c.loop-i.i
    (map awaited_part c.loop-i.parts.items) _ c.loop-i-test.false c.loop-i.invariant
