use Rattle.std.proofs.lemmas.Result.{IfOk-weaker}
use Rattle.abnfread.specs.AbnfViews.{rules_of}
use Rattle.abnfrun.proofs.AbnfTextHintsLemmas.{text_hints}
use Rattle.abnfrun.proofs.hints.hints_of.Goals as goal

pub returns : goal.returns
returns c = IfOk-weaker c.abnf_hints.result _ _ (λ hints reported text are.
    text_hints text c.args.settings.now are.definitions (rules_of c.args.positions.now.all.rules)
    c.args.positions.now.all.count c.in_ok-judged.judged c.line_end.result hints.items are.reads are.all are.counted
    c.in_ok-judged.ensures c.line_end.ensures (reported text are.positions))
    c.abnf_hints.ensures
