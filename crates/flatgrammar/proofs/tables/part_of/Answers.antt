use Rattle.std.proofs.Common.{sym, ◌∙◌}
use Rattle.flatgrammar.proofs.CalledPartsLemmas.{name_part, reader_part}
use Rattle.flatgrammar.proofs.tables.part_of.Goals as goal

pub returns-then-operation_of : goal.returns-then-operation_of
returns-then-operation_of c =
    reader_part c.args.flat.now c.args.dot.node c.args.dot.step (c.operation_of.ensures.reads.0 c.if-operation_of.true)

pub returns-then-is_name : goal.returns-then-is_name
returns-then-is_name c =
    name_part c.args.flat.now c.args.dot.node c.args.dot.step c.in-Some.node c.in-Some._next
    (λ some. let is_true = c.operation_of.ensures.reads.1 some in let is_false = c.if-operation_of.false in
    cc (is_true, is_false))
    (sym c.called_node.ensures ∙ c.in-Some.is) (sym c.is_name.ensures ∙ c.if-is_name.true)
