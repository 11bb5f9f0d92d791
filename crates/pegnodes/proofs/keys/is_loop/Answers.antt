use Rattle.std.proofs.Common.{◌∙◌, sym}
use Rattle.pegnodes.specs.Nodes.{shapes_of}
use Rattle.pegnodes.proofs.KeyNeedsLemmas as o
use Rattle.pegnodes.proofs.keys.is_loop.Goals as goal

pub returns-then-may_be_loop : goal.returns-then-may_be_loop
returns-then-may_be_loop c = λ start bodies known single is.
    o.is_loop start (shapes_of c.args.nodes.now) bodies c.args.root c.args.namers.now known c.args.m c.in-By.entry
    (sym c.in-By.ensures) c.if-m-root.false (c.may_be_loop.ensures c.if-may_be_loop.true)
    (single c.in-By.entry (sym c.mark_or.ensures ∙ is))
