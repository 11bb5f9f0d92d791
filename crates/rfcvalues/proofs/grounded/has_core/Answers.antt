use Rattle.std.proofs.Common.{◌≡◌, ◌∙◌, ap, sym}
use Rattle.rfcvalues.specs.AssignedValues.{is_core}
use Rattle.rfcvalues.proofs.GroundedRulesLemmas.{core-all, core-found, core-none, core-there}
use Rattle.rfcvalues.proofs.grounded.has_core.Goals as goal

pub loop-word-preserved : goal.loop-word-preserved
loop-word-preserved c =
    let found = core-found c.args.core.now c.deref.result.now c.in_ok-find.field-0 c.requires
    c.in_ok-find.ensures.found in
    core-none c.args.words.now c.loop-word.word-index c.word-item.result c.loop-word-test.true c.loop-word.invariant
    c.word-item.is
    (ap is_core (sym c.deref.ensures.value) ∙ sym found ∙ sym c.is_some.ensures ∙ c.if-is_some.false)

pub returns-then-is_some : goal.returns-then-is_some
returns-then-is_some c =
    let found = core-found c.args.core.now c.deref.result.now c.in_ok-find.field-0 c.requires
    c.in_ok-find.ensures.found in
    core-there c.args.words.now c.loop-word.word-index c.word-item.result c.loop-word-test.true c.word-item.is
    (ap is_core (sym c.deref.ensures.value) ∙ sym found ∙ sym c.is_some.ensures ∙ c.if-is_some.true)

pub returns : goal.returns
returns c = core-all c.args.words.now c.loop-word.word-index c.loop-word-test.false c.loop-word.invariant
