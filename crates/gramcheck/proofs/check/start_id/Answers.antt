use Rattle.std.proofs.Common.{arith, sym, ◌∙◌}
use Rattle.std.proofs.lemmas.List.{length-map}
use Rattle.pegread.specs.PegViews.{rule_of, rules_of}
use Rattle.gramcheck.proofs.JudgeLemmas.{first-start, found-start}
use Rattle.gramcheck.proofs.check.start_id.Goals as goal

pub returns-in_default : goal.returns-in_default
returns-in_default c = rw c.in_default.is (first-start (rules_of c.args.rules.now)
    (omega (arith, c.requires.some, length-map c.args.rules.now.rules rule_of)))

pub returns : goal.returns
returns c = rw c.in-Some.is (rw (← c.as_bytes.ensures.value)
    (found-start c.args.rules.now c.requires.exact c.as_bytes.result.now c.in-Some-2.id
    (sym c.in-Some-2.is ∙ c.in_ok-id.ensures.found)))
