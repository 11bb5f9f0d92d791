-- The marks of the rules alone.
use Rattle.std.proofs.Common.{◌∙◌, ap, arith, length, sym}
use Rattle.std.proofs.lemmas.List.{length-map, length-take-le}
use Rattle.ruletable.specs.Rules as table
use Rattle.abnfread.specs.declared.elem.Elem.{Elem}
use Rattle.abnfread.specs.AbnfViews.{rule_of, rules_of}
use Rattle.abnfcheck.proofs.YieldsLemmas.{null_marks}
use Rattle.abnfcheck.proofs.nullable_marks.nullable_rules.Goals as goal

pub returns-clause-count : goal.returns-clause-count
returns-clause-count c =
    let same = c.len.ensures.len ∙ ap (λ (t : table.Rules Elem). length t.rules) (c.rules-2.ensures.rules
    ∙ sym c.rules.ensures.rules) ∙ sym (length-map c.rules.result.now.rules rule_of) in
    let fits = c.in_ok-marks.ensures.count in
    rw (c.truncate.ensures.items, sym c.rules.ensures.rules)
    (length-take-le c.len.result c.in_ok-marks.marks.items (omega (arith, same, fits)) ∙ same)

pub returns-clause-marks : goal.returns-clause-marks
returns-clause-marks c =
    rw (c.truncate.ensures.items, sym c.rules.ensures.rules)
    (null_marks (rules_of c.rules.result.now) c.in_ok-marks.marks.items c.len.result
    (c.len.ensures.len ∙ ap (λ (t : table.Rules Elem). length t.rules) (c.rules-2.ensures.rules
    ∙ sym c.rules.ensures.rules)
    ∙ sym (length-map c.rules.result.now.rules rule_of)) c.in_ok-marks.ensures.marks)
