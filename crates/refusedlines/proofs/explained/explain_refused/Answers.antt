use Rattle.std.proofs.Common.{IfOk, subst, sym}
use Rattle.abnfread.specs.AbnfViews.{rules_of}
use Rattle.refusedlines.specs.Refusals.{IsExplained}
use Rattle.refusedlines.proofs.explained.explain_refused.Goals as goal

pub returns-in-Bytes-clause-reported : goal.returns-in-Bytes-clause-reported
returns-in-Bytes-clause-reported c =
    subst (λ v. IfOk c.explain_bytes.result (λ done. IsExplained c.args.line.unit v
    (rules_of c.args.explainer.now.grammar.now.rules) c.args.explainer.now.grammar.now.judged c.args.line.bytes.now
    c.args.line.number c.args.out.now.items
    c.explain_bytes.new.out.items)) (sym c.in-Bytes.is) c.explain_bytes.ensures.reported

pub returns-in-Utf8-clause-reported : goal.returns-in-Utf8-clause-reported
returns-in-Utf8-clause-reported c =
    subst (λ v. IfOk c.explain_points.result (λ done. IsExplained c.args.line.unit v
    (rules_of c.args.explainer.now.grammar.now.rules) c.args.explainer.now.grammar.now.judged c.args.line.bytes.now
    c.args.line.number c.args.out.now.items
    c.explain_points.new.out.items)) (sym c.in-Utf8.is) c.explain_points.ensures.reported
