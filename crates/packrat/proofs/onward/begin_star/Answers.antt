use Rattle.std.proofs.Common.{refl}
use Rattle.pegnodes.specs.Nodes.{Star}
use Rattle.packrat.proofs.onward.begin_star.Goals as goal

pub returns-in-Some-ended_at : goal.returns-in-Some-ended_at
returns-in-Some-ended_at c =
    c.in-Some-ended_at.ensures c.args.window.now c.args.more c.args.star c.requires.is.0
    (c.in-Some.ensures.decided (Star c.args.operand) c.args.operand c.requires.is.0 refl)

pub returns-in-None : goal.returns-in-None
returns-in-None c = c.requires.is.1
