-- One alternative more, and all.
use Rattle.std.proofs.Common.{◌∙◌, ap}
use Rattle.std.proofs.lemmas.List.{take_all}
use Rattle.abnfread.specs.AbnfViews.{elements_of, rules_of}
use Rattle.abnfcheck.specs.UnrolledRules.{firsts, steps}
use Rattle.abnfcheck.proofs.UnrolledRulesLemmas.{firsts_next, steps_next}
use Rattle.abnfcheck.proofs.copies.unrolled.parts_of.Goals as goal

pub loop-alternative-preserved : goal.loop-alternative-preserved
loop-alternative-preserved c = record {
  firsts = firsts_next _ _ c.args.alternatives.now c.loop-alternative.alternative-index _ _ _
      c.loop-alternative-test.true c.alternative-item.is c.loop-alternative.invariant.firsts c.in_ok-add.ensures.firsts;
  steps = steps_next _ _ c.args.alternatives.now c.loop-alternative.alternative-index _ _ _ c.loop-alternative-test.true
      c.alternative-item.is c.loop-alternative.invariant.steps c.in_ok-add.ensures.steps;
}
