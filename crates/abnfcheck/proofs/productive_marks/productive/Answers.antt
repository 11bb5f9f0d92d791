-- The marks of the rules alone.
use Rattle.std.proofs.Common.{◌∙◌, ap, length, sym}
use Rattle.std.proofs.lemmas.List.{length-map}
use Rattle.ruletable.specs.Rules as table
use Rattle.abnfread.specs.declared.elem.Elem.{Elem}
use Rattle.abnfread.specs.AbnfViews.{rule_of, rules_of}
use Rattle.abnfcheck.proofs.YieldsLemmas.{productive_marks}
use Rattle.abnfcheck.proofs.productive_marks.productive.Goals as goal

pub returns : goal.returns
returns c = rw (c.truncate.ensures.items, sym c.rules.ensures.rules)
    (productive_marks c.args.alphabet (rules_of c.rules.result.now) c.in_ok-marks.marks.items c.len.result
    (c.len.ensures.len ∙ ap (λ (t : table.Rules Elem). length t.rules) (c.rules-2.ensures.rules
    ∙ sym c.rules.ensures.rules)
    ∙ sym (length-map c.rules.result.now.rules rule_of))
    c.in_ok-marks.ensures.count c.in_ok-marks.ensures.marks)
