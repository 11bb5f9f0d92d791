-- The mark of one more rule.
use Rattle.std.proofs.Common.{ap, sym, ◌∙◌, ◌++◌, ◌∷◌, [], take}
use Rattle.abnfread.specs.AbnfViews.{element_of, rules_of}
use Rattle.abnfcheck.specs.ProseIn.{prose_marks}
use Rattle.abnfcheck.proofs.NameIdsLemmas.{body_shown}
use Rattle.abnfcheck.proofs.NameMarksLemmas.{prose_next}
use Rattle.abnfcheck.proofs.prose.rules_with_prose.Goals as goal

pub loop-id-preserved : goal.loop-id-preserved
loop-id-preserved c =
    c.in_ok-push.ensures.items ∙ ap (λ l. l ++ c.has_prose.result ∷ []) c.loop-id.invariant
    ∙ ap (λ b. prose_marks (take c.loop-id.id (rules_of c.args.rules.now)) ++ b ∷ []) c.has_prose.ensures
    ∙ sym (prose_next (rules_of c.args.rules.now) c.loop-id.id (element_of c.body.result.now)
    (body_shown c.args.rules.now.rules c.loop-id.id c.body.result.now c.body.ensures))
