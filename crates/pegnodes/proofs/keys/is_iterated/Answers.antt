use Rattle.std.proofs.Common.{sym}
use Rattle.pegnodes.specs.Nodes.{shapes_of}
use Rattle.pegnodes.proofs.KeyNeedsLemmas as o
use Rattle.pegnodes.proofs.keys.is_iterated.Goals as goal

pub returns-then-goes_again : goal.returns-then-goes_again
returns-then-goes_again c = λ start bodies known single is.
    o.is_iterated start (shapes_of c.args.nodes.now) bodies c.args.root c.args.namers.now known c.args.m
    c.in-Both.first c.in-Both.second (sym c.in-Both.ensures) c.if-m-root.false
    (λ k at. absurd (cc (c.if-is_star.false, c.is_star.ensures.1 (k, at)))) c.if-first-second.false
    (c.is_loop.ensures start bodies known single is) (c.goes_again.ensures c.if-goes_again.true)
