-- A rule that is found has its position among the rules.
use Rattle.std.proofs.Common.{option_copied, refl}
use Rattle.abnfread.specs.AbnfViews.{rules_of}
use Rattle.abnfrun.proofs.AbnfTextHintsLemmas.{judged_first, judged_found}
use Rattle.abnfrun.proofs.hints.judged_rule.Goals as goal

pub returns-in-Some : goal.returns-in-Some
returns-in-Some c =
    judged_found c.find.result c.args.rules.now (option_copied c.args.start) c.as_bytes.result.now c.requires
    (rw (c.in-Some.is, c.as_bytes.ensures.value) refl) c.find.ensures.found

pub returns-in-None : goal.returns-in-None
returns-in-None c =
    λ some. judged_first (rules_of c.args.rules.now) (option_copied c.args.start) (rw c.in-None.is refl) some
