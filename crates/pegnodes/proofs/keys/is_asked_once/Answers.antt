use Rattle.std.proofs.Common.{sym}
use Rattle.pegnodes.specs.KeyMarks.{once_plain, once_loop, once_iterated}
use Rattle.pegnodes.specs.Nodes.{shapes_of}
use Rattle.pegnodes.proofs.KeyNeedsLemmas as o
use Rattle.pegnodes.proofs.keys.is_asked_once.Goals as goal

pub returns-then-is_loop : goal.returns-then-is_loop
returns-then-is_loop c = λ start bodies known single is.
    once_loop (c.is_loop.ensures start bodies known single c.if-is_loop.true)

pub returns-then-is_iterated : goal.returns-then-is_iterated
returns-then-is_iterated c = λ start bodies known single is.
    once_iterated (c.is_iterated.ensures start bodies known single c.if-is_iterated.true)

pub returns : goal.returns
returns c = λ start bodies known single is.
    once_plain (o.is_plain start (shapes_of c.args.nodes.now) bodies c.args.root c.args.namers.now known c.args.m
    c.in-By.namer (sym c.in-By.ensures) c.if-m-root.false (c.may_be_plain.ensures is))
