-- What is left of one more rule.
use Rattle.std.proofs.Common.{arith}
use Rattle.abnfhints.proofs.RulesWithoutLemmas.{next_left, all_left, none_left}
use Rattle.abnfhints.proofs.without.rules_without.Goals as goal

pub loop-id-init : goal.loop-id-init
loop-id-init c = none_left c.args.letter c.args.rules.now _ c.new-left.ensures.names c.new-left.ensures.rules

pub loop-id-preserved : goal.loop-id-preserved
loop-id-preserved c =
    next_left c.args.letter c.args.rules.now _ _ _ _ _ _ c.len-id-end.ensures.unique c.requires
    c.loop-id.invariant c.name.ensures c.body.ensures c.in_ok-body.ensures c.in_ok-define.ensures.defines

pub returns-clause-left : goal.returns-clause-left
returns-clause-left c = all_left c.args.letter c.args.rules.now _ _ c.loop-id.invariant
    (let n = c.len-id-end.ensures.len in let over = c.loop-id-test.false in omega (arith, n, over))
