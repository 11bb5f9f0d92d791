-- The parts of the alternatives so far.
use Rattle.std.proofs.Common.{◌≡◌, take}
use Rattle.abnfread.specs.AbnfViews.{elements_of, rules_of}
use Rattle.abnfcheck.specs.UnrolledRules.{firsts, steps}
use Rattle.abnfcheck.proofs.copies.unrolled.parts_of.Given as goal

abbrev pub invariant-loop-alternative : goal.invariant-loop-alternative
invariant-loop-alternative l = record {
  firsts : elements_of l.parts.firsts.items
      ≡ firsts (rules_of l.rules) l.id (elements_of (take l.alternative-index l.alternatives));
  steps : elements_of l.parts.steps.items
      ≡ steps (rules_of l.rules) l.id (elements_of (take l.alternative-index l.alternatives));
}
