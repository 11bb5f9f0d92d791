use Rattle.std.proofs.Common.{[]}
use Rattle.pegexplain.specs.CodeHints.{known_literal, null_in, sure_in}
use Rattle.pegexplain.specs.HiddenAlternatives.{hints_in}
use Rattle.pegexplain.proofs.BodyHintsLemmas.{rule-more}
use Rattle.pegexplain.proofs.hints.hints.all_hints.Goals as goal

pub loop-id-preserved : goal.loop-id-preserved
loop-id-preserved c = rule-more (λ name e. hints_in (known_literal c.args.known) (sure_in c.args.known)
    (null_in c.args.known) name e [] e)
    c.args.known.rules.now.rules c.loop-id.id c.name.result.now c.body.result.now _ _
    c.name.ensures c.body.ensures c.in_ok-add_rule_hints.ensures c.loop-id.invariant
