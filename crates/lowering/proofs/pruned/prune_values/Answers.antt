use Rattle.std.proofs.Common.{sym, ◌∙◌, arith}
use Rattle.ruletable.specs.Letters.{has}
use Rattle.abnfread.proofs.ElementLemmas.{element-Values}
use Rattle.abnfcheck.proofs.AimLemmas.{letter_in, next_value}
use Rattle.lowering.proofs.PruneLemmas as o
use Rattle.lowering.proofs.pruned.prune_values.Goals as goal

pub returns-then-not-has : goal.returns-then-not-has
returns-then-not-has c rules = o.no_values (has c.args.alphabet) rules c.args.values.now
    (λ all. absurd (cc (
      c.if-not-has.true,
      c.has.ensures,
      letter_in (has c.args.alphabet) c.args.values.now c.loop-value.value-index 0 c.loop-value-test.true all,
    )))

pub loop-value-preserved : goal.loop-value-preserved
loop-value-preserved c = (
  next_value (has c.args.alphabet) c.args.values.now c.loop-value.value-index 0 c.loop-value-test.true
      c.loop-value.invariant.0 (sym c.has.ensures ∙ c.if-not-has.false),
  c.in_ok-push.ensures.items ∙ o.copied_next c.args.values.now c.loop-value.copied.items c.loop-value.value-index 0
      c.loop-value-test.true c.loop-value.invariant.1,
)

pub returns : goal.returns
returns c rules = rw element-Values
    (o.values_left (has c.args.alphabet) rules c.args.values.now c.loop-value.copied.items c.loop-value.value-index
    (let over = c.loop-value-test.false in omega (arith, over)) c.loop-value.invariant)
