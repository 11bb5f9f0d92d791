use Rattle.std.proofs.Common.{sym, ◌∙◌}
use Rattle.abnfread.proofs.FirstBodyLemmas.{first-core, first-new}
use Rattle.abnfread.proofs.table.added_body.Goals as goal

pub returns-in_ok-body-in-Some : goal.returns-in_ok-body-in-Some
returns-in_ok-body-in-Some c =
    first-core c.args.definition c.args.core.now c.in-Some.id c.in_ok-core_body-in-Some.field-0
    c.in_ok-body-in-Some.body c.requires.core c.requires.adds (sym c.in_ok-id.ensures.found ∙ c.in-Some.is)
    c.in_ok-core_body-in-Some.ensures
    c.in_ok-body-in-Some.ensures

pub returns-in-None : goal.returns-in-None
returns-in-None c = first-new c.args.definition c.args.core.now c.requires.core c.requires.adds
    (sym c.in_ok-id.ensures.found ∙ c.in-None.is)
