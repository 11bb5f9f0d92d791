use Rattle.std.proofs.Common.{arith}
use Rattle.lazydfa.proofs.IsAtLemmas.{first_at}
use Rattle.lazydfa.proofs.run.begin.Goals as goal

pub returns-then-len-gt0-clause-is : goal.returns-then-len-gt0-clause-is
returns-then-len-gt0-clause-is c = λ made.
    first_at c.args.tables.now c.args.samples.now c.args.cache.now.conts.items.items c.args.cache.now.states.items
    c.args.cache.now.cells.items c.requires.cached
    (let l = c.len.ensures in let t = c.if-len-gt0.true in omega (arith, l, t))
