use Rattle.std.proofs.Common.{ap, length, ◌∙◌}
use Rattle.fixpoint.proofs.RowsOfLemmas as t
use Rattle.fixpoint.proofs.chains.chains_from.Goals as goal

pub backs_of-requires-clause-far : goal.backs_of-requires-clause-far
backs_of-requires-clause-far c = ap length c.deref.ensures.value
    ∙ (c.in_ok-far.ensures.count ∙ t.length-slices c.args.steps.now)

pub returns : goal.returns
returns c = record {
  far = c.in_ok-far.ensures;
  backs = c.in_ok-backs.ensures c.args.from (rw c.deref.ensures.value c.in_ok-far.ensures);
}
