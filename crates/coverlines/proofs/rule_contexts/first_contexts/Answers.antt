-- One context more.
use Rattle.std.proofs.Common.{[], ◌∷◌, ap, arith, length, length-append}
use Rattle.coverlines.proofs.RuleContextsLemmas.{next_first}
use Rattle.coverlines.proofs.rule_contexts.first_contexts.Goals as goal

pub loop-id-preserved : goal.loop-id-preserved
loop-id-preserved c = record {
  count =
      let n = ap length c.in_ok-push.ensures.items in
      let m = length-append c.loop-id.known.items (c.first_context.result ∷ []) in
      let k = c.loop-id.invariant.count in omega (arith, n, m, k);
  each = next_first c.args.judged c.loop-id.id c.loop-id.known.items c.push.new.self.items c.first_context.result
      c.in_ok-push.ensures.items c.first_context.ensures c.loop-id.invariant.count c.loop-id.invariant.each;
}
