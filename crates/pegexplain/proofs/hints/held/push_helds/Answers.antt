use Rattle.std.proofs.Common.{◌++◌, ◌∙◌, ap}
use Rattle.diagnostics.specs.MentionLines.{mention_lines_by}
use Rattle.pegexplain.specs.CodeLeaves.{held_found}
use Rattle.pegexplain.specs.PegHints.{held_reported}
use Rattle.pegexplain.specs.declared.hints.held.HeldDefinition.{HeldDefinition}
use Rattle.pegexplain.proofs.PegHintsLemmas.{reported-more}
use Rattle.pegexplain.proofs.hints.held.push_helds.Goals as goal

pub loop-held-preserved : goal.loop-held-preserved
loop-held-preserved c =
    let reported = held_reported (mention_lines_by c.args.positions.now.positions) in
    reported-more held_found reported c.args.helds.now c.loop-held.held-index c.held-item.result c.args.out.now.items
    c.loop-held.out.items c.push_held.new.out.items c.loop-held-test.true
    (c.in_ok-push_held.ensures
    ∙ ap (λ (e : HeldDefinition). c.loop-held.out.items ++ reported (held_found e)) c.held-item.is)
    c.loop-held.invariant
