-- One more mention.
use Rattle.std.proofs.lemmas.List.{map-append}
use Rattle.abnfhints.specs.AbnfHints.{none_reversed}
use Rattle.abnfhints.proofs.AreReversedLemmas.{next_reversed, next_other}
use Rattle.abnfhints.proofs.reversed.reversed_among.Goals as goal
use Rattle.abnfhints.proofs.reversed.reversed_among.Goals.{else-is_reversed_mention}
use Rattle.abnfhints.proofs.reversed.reversed_among.Goals.{then-is_reversed_mention+in_ok-push}

pub loop-mention-init : goal.loop-mention-init
loop-mention-init c = rw c.new-found.ensures.items none_reversed

pub loop-mention-preserved : goal.loop-mention-preserved
loop-mention-preserved c = elim c.if-is_reversed_mention.branch [
  | then-is_reversed_mention+in_ok-push w ↦ rw (w.found-is, w.in_ok-push.ensures.items, map-append)
      (next_reversed c.args.mentions.now c.loop-mention.mention-index c.mention-item.result c.loop-mention-test.true
      c.mention-item.is _ c.loop-mention.invariant (c.is_reversed_mention.ensures.0 w.if-is_reversed_mention.true))
  | else-is_reversed_mention w ↦ rw w.found-is
      (next_other c.args.mentions.now c.loop-mention.mention-index c.mention-item.result c.loop-mention-test.true
      c.mention-item.is _ c.loop-mention.invariant
      (λ k. let on = c.is_reversed_mention.ensures.1 k in let off = w.if-is_reversed_mention.false in
      absurd (cc (on, off))))
]
