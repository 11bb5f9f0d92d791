use Rattle.std.proofs.Common.{◌∙◌, ◌+◌, ap, arith}
use Rattle.ruletable.specs.declared.alphabet.Alphabet.TheVariants.{Utf8}
use Rattle.refusedlines.specs.Refusals.{octets}
use Rattle.refusedlines.proofs.RefusalLemmas.{count_next, count_within}
use Rattle.refusedlines.proofs.explained.octets_of.Goals as goal

pub overflow_add-count : goal.overflow_add-count
overflow_add-count c =
    let more = count_next c.args.points.now c.loop-point.point-index _ _ _ c.loop-point-test.true c.loop-point.invariant
    (c.octets-count.ensures.value ∙ ap (octets Utf8) c.value.ensures.number) in
    let most = count_within c.args.points.now (c.loop-point.point-index + 1) in
    let short = c.requires in
    omega (arith, more, most, short)

pub loop-point-preserved : goal.loop-point-preserved
loop-point-preserved c =
    count_next c.args.points.now c.loop-point.point-index _ _ _ c.loop-point-test.true c.loop-point.invariant
    (c.octets-count.ensures.value ∙ ap (octets Utf8) c.value.ensures.number)
