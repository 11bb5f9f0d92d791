-- The rule is there, or it is not.
use Rattle.std.proofs.Common.{arith}
use Rattle.refusedlines.proofs.RefusalLemmas.{name_found, no_name}
use Rattle.refusedlines.proofs.part_texts.rule_name.Goals as goal

pub returns-then-id-len : goal.returns-then-id-len
returns-then-id-len c = name_found c.args.rules.now c.args.id c.name.result.now c.name.ensures

pub returns-else-id-len : goal.returns-else-id-len
returns-else-id-len c = no_name c.args.rules.now c.args.id (omega (arith, c.len.ensures.len, c.if-id-len.false))
