-- By its kind.
use Rattle.std.proofs.Common.{◌≡◌}
use Rattle.abnfhints.specs.AbnfHints.{IsReversed, IsReversedMention, IsReversedRepeat, is_range, is_repeat}
use Rattle.diagnostics.specs.BodyMentions.{MentionedAt}
use Rattle.diagnostics.specs.declared.noteplaces.mentions.MentionKind.TheVariants.{Number, Repeat}
use Rattle.abnfhints.proofs.reversed.is_reversed_mention.Goals as goal

of_range : {m : MentionedAt} → m.kind ≡ Number → IsReversedMention m → IsReversed m.text
of_range is (is_range k r) = r
of_range is (is_repeat k r) = absurd (cc (is, k))

of_repeat : {m : MentionedAt} → m.kind ≡ Repeat → IsReversedMention m → IsReversedRepeat m.text
of_repeat is (is_range k r) = absurd (cc (is, k))
of_repeat is (is_repeat k r) = r

pub returns-in-Number : goal.returns-in-Number
returns-in-Number c =
    let reported = rw c.deref.ensures.value at c.is_reversed.ensures in
    ((λ on. is_range c.in-Number.is (reported.0 on)), (λ r. reported.1 (of_range c.in-Number.is r)))

pub returns-in-Repeat : goal.returns-in-Repeat
returns-in-Repeat c =
    let reported = rw c.deref-in-Repeat.ensures.value at c.is_reversed_repeat.ensures in
    ((λ on. is_repeat c.in-Repeat.is (reported.0 on)), (λ r. reported.1 (of_repeat c.in-Repeat.is r)))

of_others : {m : MentionedAt} → (m.kind ≡ Number → ⊥) → (m.kind ≡ Repeat → ⊥) → IsReversedMention m → ⊥
of_others f g (is_range k r) = f k
of_others f g (is_repeat k r) = g k

pub returns-in_default : goal.returns-in_default
returns-in_default c = (
  (λ on. absurd (cc on)),
  (λ r. absurd (of_others c.in_default.not-Number c.in_default.not-Repeat r)),
)
