-- One more range.
use Rattle.std.proofs.Common.{map}
use Rattle.diagnostics.specs.BodyMentions.{mentioned_at}
use Rattle.diagnostics.specs.DefinitionHeads.{defined_at}
use Rattle.abnfhints.specs.AbnfHints.{reversed_reported}
use Rattle.abnfhints.proofs.ReportedFirstLemmas.{each_next}
use Rattle.abnfhints.proofs.reversed.push_each_reversed.Goals as goal

pub loop-mention-preserved : goal.loop-mention-preserved
loop-mention-preserved c = each_next (λ m. mentioned_at m.now)
    (reversed_reported (map defined_at c.args.positions.now.heads.items))
    c.args.mentions.now c.loop-mention.mention-index c.mention-item.result _ _ _ c.loop-mention-test.true
    c.mention-item.is c.loop-mention.invariant c.in_ok-push_reversed.ensures
