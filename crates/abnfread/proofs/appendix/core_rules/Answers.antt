use Rattle.std.proofs.Common.{refl, arith}
use Rattle.abnfread.proofs.CoreRuleLemmas.{next-core, core-at, all-core}
use Rattle.abnfread.proofs.appendix.core_rules.Goals as goal

pub loop-id-init : goal.loop-id-init
loop-id-init c = record { names = c.new-rules.ensures.names; so_far = rw c.new-rules.ensures.rules refl }

pub loop-id-preserved : goal.loop-id-preserved
loop-id-preserved c =
    let lt = c.loop-id-test.true in
    core-at c.loop-id.id _ c.define.new.self (omega arith)
    (next-core c.loop-id.rules c.define.new.self c.loop-id.id _ c.in_ok-body.body _ c.loop-id.invariant
    (omega (arith, lt)) c.core_name.ensures c.in_ok-body.ensures c.in_ok-define.ensures.defines)

pub returns-clause-names : goal.returns-clause-names
returns-clause-names c = c.loop-id.invariant.names

pub returns-clause-rules : goal.returns-clause-rules
returns-clause-rules c = let le = c.loop-id.auto.id-end in let over = c.loop-id-test.false in
    all-core c.loop-id.id c.loop-id.rules c.loop-id.invariant (omega (arith, le, over))
