-- Its rule, and that of the first of the others.
use Rattle.std.proofs.Common.{ap, sym, ◌∙◌, subst}
use Rattle.std.specs.Prelude.{option_map}
use Rattle.diagnostics.specs.BodyMentions.{mentioned_at}
use Rattle.diagnostics.specs.DefinitionHeads.{defined_at}
use Rattle.diagnostics.specs.FirstMentions.{IsFirstIfAny}
use Rattle.diagnostics.specs.FoundMentions.{mention_found}
use Rattle.diagnostics.proofs.FirstMentionLemmas.{pass-later, pass-other}
use Rattle.diagnostics.proofs.noteplaces.uses.earlier_of.Goals as goal

pub returns-in_default : goal.returns-in_default
returns-in_default c = λ names definitions ms stands h.
    pass-other names definitions (mentioned_at c.args.mention.now) ms
    (sym stands ∙ ap (option_map (λ h. defined_at h.now)) c.in_default.is) (option_map mention_found c.args.other) h

pub returns-then-later-rule : goal.returns-then-later-rule
returns-then-later-rule c = λ names definitions ms stands h.
    pass-later names definitions (mentioned_at c.args.mention.now) ms (defined_at c.in-Some.rule.now)
    (mention_found c.in-Some-other.later) (sym stands ∙ ap (option_map (λ h. defined_at h.now)) c.in-Some.is)
    c.if-later-rule.true
    (subst (λ o. IsFirstIfAny names definitions ms (option_map mention_found o)) c.in-Some-other.is h)
