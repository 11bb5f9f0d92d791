-- The first ones, and how many more there are.
use Rattle.std.proofs.Common.{map}
use Rattle.diagnostics.specs.DefinitionHeads.{defined_at}
use Rattle.abnfhints.specs.AbnfHints.{barren_reported}
use Rattle.abnfhints.proofs.ReportedFirstLemmas.{first_join}
use Rattle.abnfhints.proofs.barren.push_all_barren.Goals as goal

pub returns : goal.returns
returns c = first_join (λ name. name.now)
    (barren_reported (map defined_at c.args.positions.now.heads.items))
    c.args.names.now c.min-shown.result _ _ _ c.min-shown.ensures c.in_ok-push_each_barren.ensures
    c.in_ok-push_more.ensures
