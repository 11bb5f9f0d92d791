-- The reversed ranges so far.
use Rattle.std.proofs.Common.{map, take}
use Rattle.abnfhints.specs.AbnfHints.{AreReversed}
use Rattle.diagnostics.specs.BodyMentions.{mentioned_at}
use Rattle.abnfhints.proofs.reversed.reversed_among.Given as goal

abbrev pub invariant-loop-mention : goal.invariant-loop-mention
invariant-loop-mention l = AreReversed (map mentioned_at (take l.mention-index l.mentions))
    (map (λ m. mentioned_at m.now) l.found.items)
