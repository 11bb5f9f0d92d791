-- The marks of the rules alone.
use Rattle.std.proofs.Common.{◌∙◌, sym}
use Rattle.std.proofs.lemmas.List.{length-map}
use Rattle.abnfread.specs.AbnfViews.{rule_of, rules_of}
use Rattle.abnfcheck.proofs.YieldsLemmas.{productive_marks}
use Rattle.abnfcheck.proofs.table_marks.productive_rules.Goals as goal

pub returns : goal.returns
returns c = rw c.truncate.ensures.items
    (productive_marks c.args.alphabet (rules_of c.args.rules.now) c.in_ok-marks.marks.items c.len.result
    (c.len.ensures.len ∙ sym (length-map c.args.rules.now.rules rule_of))
    c.in_ok-marks.ensures.count c.in_ok-marks.ensures.marks)
