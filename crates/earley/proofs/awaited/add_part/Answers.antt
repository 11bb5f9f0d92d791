use Rattle.earley.proofs.OldDotsLemmas.{part_more}
use Rattle.earley.proofs.awaited.add_part.Goals as goal

pub returns-in_ok-push : goal.returns-in_ok-push
returns-in_ok-push c =
    part_more c.args.tables.now c.args.dot.node c.args.dot.step _ _ c.in-Some.part c.part_of.result c.in-Some.is
    c.part_of.ensures c.in_ok-push.ensures.items
