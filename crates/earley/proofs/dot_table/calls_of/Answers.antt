use Rattle.std.proofs.Common.{arith}
use Rattle.flatgrammar.proofs.CallOfLemmas.{get_below}
use Rattle.earley.proofs.DotTableLemmas.{below_calls_none, get_or_index}
use Rattle.earley.proofs.dot_table.calls_of.Goals as goal

pub loop-from-init : goal.loop-from-init
loop-from-init c = rw c.new-calls.ensures.items (below_calls_none c.args.steps.now c.args.target)

pub loop-from-preserved : goal.loop-from-preserved
loop-from-preserved c = c.in_ok-keep_call.ensures c.args.steps.now
    (get_or_index c.args.steps.now c.loop-from.from _ c.loop-from-test.true) c.loop-from.invariant

pub returns : goal.returns
returns c = record {
  only = c.loop-from.invariant.only;
  all = λ p s d is. c.loop-from.invariant.all p s d (let lt = get_below c.args.steps.now p is in
      let over = c.loop-from-test.false in omega (arith, lt, over)) is;
}
