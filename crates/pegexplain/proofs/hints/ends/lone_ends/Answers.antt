use Rattle.pegexplain.specs.BodyLeaves.{lone_ends_in}
use Rattle.pegexplain.proofs.BodyHintsLemmas.{rule-more}
use Rattle.pegexplain.proofs.hints.ends.lone_ends.Goals as goal

pub loop-id-preserved : goal.loop-id-preserved
loop-id-preserved c = rule-more lone_ends_in c.args.rules.now.rules c.loop-id.id c.name.result.now c.body.result.now _ _
    c.name.ensures c.body.ensures c.in_ok-add_lone_ends.ensures c.loop-id.invariant
