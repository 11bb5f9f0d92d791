use Rattle.std.proofs.Common.{◌≡◌, ◌++◌, drop, map}
use Rattle.abnfread.specs.AbnfViews.{elements_of}
use Rattle.refusedlines.specs.ShownParts.{awaited_part}
use Rattle.refusedlines.specs.SoughtParts.{is_sought, operand_of, sought_operands}
use Rattle.refusedlines.proofs.parts.SoughtParts.+adding.Given as goal

-- the parts so far, and those of the operands that are left
abbrev pub invariant-add_operands-loop-i : goal.invariant-add_operands-loop-i
invariant-add_operands-loop-i l = map awaited_part l.parts.items
    ++ sought_operands (operand_of l.self.flat.now) (is_sought l.self) l.rule l.node l.i
    (elements_of (drop l.i l.operands))
    ≡ map awaited_part l.fn.parts.items
    ++ sought_operands (operand_of l.self.flat.now) (is_sought l.self) l.rule l.node 0 (elements_of l.operands)
