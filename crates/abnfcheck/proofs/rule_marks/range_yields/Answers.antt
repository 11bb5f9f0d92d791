-- A range derives its letters.
use Rattle.abnfcheck.proofs.AimLemmas.{range_reported}
use Rattle.abnfcheck.proofs.rule_marks.range_yields.Goals as goal

pub returns-in-Letters : goal.returns-in-Letters
returns-in-Letters c = λ test rules asked. range_reported c.args.aim c.in-Letters.alphabet c.in-Letters.is test rules
    asked
    c.args.low c.args.high c.has_between.result c.has_between.ensures
