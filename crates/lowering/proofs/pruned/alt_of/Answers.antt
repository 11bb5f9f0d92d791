use Rattle.std.proofs.Common.{◌==◌, ◌∙◌, ap}
use Rattle.abnfread.proofs.ElementLemmas.{element-Alt}
use Rattle.lowering.proofs.PruneLemmas as o
use Rattle.lowering.proofs.pruned.alt_of.Goals as goal

pub returns-then-is_empty : goal.returns-then-is_empty
returns-then-is_empty c test rules es ks =
    o.no_alts test rules es c.args.alternatives.items c.is_empty.result
    (c.is_empty.ensures ∙ ap (λ n. n == 0) c.args.alternatives.ok.0) c.if-is_empty.true ks

pub returns-else-is_empty : goal.returns-else-is_empty
returns-else-is_empty c test rules es ks =
    rw element-Alt (o.some_alts test rules es c.args.alternatives.items c.is_empty.result
    (c.is_empty.ensures ∙ ap (λ n. n == 0) c.args.alternatives.ok.0) c.if-is_empty.false ks)
