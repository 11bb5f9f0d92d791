use Rattle.std.proofs.Common.{◌≡◌, ◌++◌, map}
use Rattle.abnfread.specs.AbnfViews.{element_of}
use Rattle.refusedlines.specs.ShownParts.{awaited_part}
use Rattle.refusedlines.specs.SoughtParts.{is_sought, operand_of, sought_reads}
use Rattle.refusedlines.proofs.parts.SoughtParts.add_reads.Given as goal

-- what is sought after fewer symbols
abbrev pub invariant-loop-read : goal.invariant-loop-read
invariant-loop-read l = map awaited_part l.parts.items ≡ map awaited_part l.fn.parts.items
    ++ sought_reads (operand_of l.self.flat.now) (is_sought l.self) l.rule l.node (element_of l.element) l.read
