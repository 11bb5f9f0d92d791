use Rattle.std.proofs.Common.{◌∙◌, true≢false, sym}
use Rattle.earley.proofs.IsFlatVerdictLemmas.{is_no}
use Rattle.earley.proofs.verdict.verdict_by.Goals as goal

pub returns-else-derived : goal.returns-else-derived
returns-else-derived c = λ flat x size are answer.
    is_no flat x c.args.chart.now c.args.end c.furthest.result are size
    (λ derives. true≢false (sym (answer.1 derives) ∙ c.if-derived.false))
    c.furthest.ensures.within c.furthest.ensures.some c.furthest.ensures.last
