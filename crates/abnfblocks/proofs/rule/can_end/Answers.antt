use Rattle.std.proofs.Common.{arith, ◌<◌, length}
use Rattle.abnfblocks.proofs.RuleCutLemmas.{slash-ends}
use Rattle.abnfblocks.proofs.rule.can_end.Goals as goal

pub returns-then-blanks-gt0 : goal.returns-then-blanks-gt0
returns-then-blanks-gt0 c =
    let less : c.blank_count-blanks.result < length c.args.rest.now =
    omega (arith, c.blank_count-blanks.ensures.within, c.if-blanks-rest.false) in
    slash-ends c.args.rest.now c.blank_count-blanks.result c.begins_slash.result c.blank_count-blanks.ensures.count less
    c.if-blanks-gt0.true c.begins_slash.ensures
