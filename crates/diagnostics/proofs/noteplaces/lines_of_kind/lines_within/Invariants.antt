use Rattle.std.proofs.Common.{◌≡◌, map, take}
use Rattle.diagnostics.specs.BodyMentions.{mentioned_at}
use Rattle.diagnostics.specs.MentionLines.{mentions_within}
use Rattle.diagnostics.proofs.noteplaces.lines_of_kind.lines_within.Given as goal

abbrev pub invariant-loop-mention : goal.invariant-loop-mention
invariant-loop-mention l = l.lines.items
    ≡ map (λ m. m.line) (mentions_within l.kind l.start (map (λ m. mentioned_at m.now)
    (take l.mention-index l.mentions)))
