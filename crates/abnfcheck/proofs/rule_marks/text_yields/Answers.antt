-- The empty text derives the empty list, and each text itself.
use Rattle.std.proofs.Common.{arith}
use Rattle.abnfcheck.proofs.AimLemmas.{empty_text_reported, text_reported}
use Rattle.abnfcheck.proofs.rule_marks.text_yields.Goals as goal

pub returns-in-Empty : goal.returns-in-Empty
returns-in-Empty c = λ test rules folds asked. empty_text_reported c.args.aim c.in-Empty.is test rules folds
    c.args.text.now
    c.is_empty.result c.is_empty.ensures

pub returns-in-Letters : goal.returns-in-Letters
returns-in-Letters c = λ test rules folds asked. text_reported c.args.aim c.in-Letters.field-0 c.in-Letters.is test
    rules
    asked folds c.args.text.now (λ i. omega (arith, c.type_inv.text i))
