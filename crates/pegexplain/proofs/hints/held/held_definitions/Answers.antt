use Rattle.pegexplain.specs.HeldDefinitions.{held_in_rule}
use Rattle.pegexplain.proofs.BodyHintsLemmas.{rule-more}
use Rattle.pegexplain.proofs.hints.held.held_definitions.Goals as goal

pub loop-id-preserved : goal.loop-id-preserved
loop-id-preserved c = rule-more held_in_rule c.args.rules.now.rules c.loop-id.id c.name.result.now c.body.result.now _ _
    c.name.ensures c.body.ensures c.in_ok-add_held_in_rule.ensures c.loop-id.invariant
