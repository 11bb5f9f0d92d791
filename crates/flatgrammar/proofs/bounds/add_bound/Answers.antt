use Rattle.flatgrammar.proofs.AreClassesLemmas.{bound_there}
use Rattle.flatgrammar.proofs.bounds.add_bound.Goals as goal

pub returns-then-is_bound : goal.returns-then-is_bound
returns-then-is_bound c =
    bound_there c.args.bounds.now.numbers.items c.args.number (c.is_bound.ensures c.if-is_bound.true)
