use Rattle.std.proofs.Common.{arith}
use Rattle.lazydfa.proofs.AreCachedLemmas.{cell_written}
use Rattle.lazydfa.proofs.fill.write.Goals as goal

pub returns-then-at-len-clause-cached : goal.returns-then-at-len-clause-cached
returns-then-at-len-clause-cached c tables cached is =
    cell_written tables c.args.samples.now c.args.cache.now.conts.items.items c.args.cache.now.states.items
    c.args.cache.now.cells.items cached c.args.state c.args.class c.in-Some.at c.args.cell
    (let lt = c.if-class-samples.false in omega (arith, lt)) c.in-Some.ensures
    (let l = c.len.ensures in let t = c.if-at-len.true in omega (arith, l, t)) is
