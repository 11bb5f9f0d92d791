use Rattle.lazydfa.proofs.TopPartLemmas.{part_more}
use Rattle.lazydfa.proofs.awaited.add_part.Goals as goal

pub returns-in_ok-push : goal.returns-in_ok-push
returns-in_ok-push c =
    part_more c.args.tables.now c.args.cont.node c.args.cont.step _ _ c.in-Some.part c.part_of.result c.in-Some.is
    c.part_of.ensures c.in_ok-push.ensures.items
