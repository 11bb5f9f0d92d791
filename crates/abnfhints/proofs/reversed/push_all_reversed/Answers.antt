-- The first ones, and how many more there are.
use Rattle.std.proofs.Common.{map}
use Rattle.diagnostics.specs.BodyMentions.{mentioned_at}
use Rattle.diagnostics.specs.DefinitionHeads.{defined_at}
use Rattle.abnfhints.specs.AbnfHints.{reversed_reported}
use Rattle.abnfhints.proofs.ReportedFirstLemmas.{first_join}
use Rattle.abnfhints.proofs.reversed.push_all_reversed.Goals as goal

pub returns : goal.returns
returns c = first_join (λ m. mentioned_at m.now)
    (reversed_reported (map defined_at c.args.positions.now.heads.items))
    c.args.mentions.now c.min-shown.result _ _ _ c.min-shown.ensures c.in_ok-push_each_reversed.ensures
    c.in_ok-push_more.ensures
