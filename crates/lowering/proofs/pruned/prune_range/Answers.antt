use Rattle.abnfread.proofs.ElementLemmas.{element-Range}
use Rattle.ruletable.specs.Letters.{has}
use Rattle.lowering.specs.Pruned.{keep_range}
use Rattle.lowering.proofs.PruneLemmas as o
use Rattle.lowering.proofs.pruned.prune_range.Goals as goal

pub returns-then-has_between : goal.returns-then-has_between
returns-then-has_between c rules = rw element-Range (keep_range (c.has_between.ensures.0 c.if-has_between.true))

pub returns-else-has_between : goal.returns-else-has_between
returns-else-has_between c rules =
    o.no_range (has c.args.alphabet) rules c.args.low c.args.high
    (λ some. absurd (cc (c.if-has_between.false, c.has_between.ensures.1 some)))
