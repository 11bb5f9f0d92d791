-- A list of values derives itself if they are letters.
use Rattle.abnfcheck.proofs.AimLemmas.{empty_values_reported, values_reported}
use Rattle.abnfcheck.proofs.rule_marks.values_yield.Goals as goal

pub returns-in-Empty : goal.returns-in-Empty
returns-in-Empty c = λ test rules asked. empty_values_reported c.args.aim c.in-Empty.is test rules c.args.values.now
    c.is_empty.result c.is_empty.ensures

pub returns-in-Letters : goal.returns-in-Letters
returns-in-Letters c = λ test rules asked. values_reported c.args.aim c.in-Letters.alphabet c.in-Letters.is test rules
    asked
    c.args.values.now c.has_all.result c.has_all.ensures
