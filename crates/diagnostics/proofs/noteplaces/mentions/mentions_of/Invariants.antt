use Rattle.std.proofs.Common.{map}
use Rattle.std.specs.Prelude.{option_map}
use Rattle.diagnostics.specs.BodyMentions.{mentioned_at}
use Rattle.diagnostics.specs.DefinitionHeads.{signed_at}
use Rattle.diagnostics.proofs.KeptTokenLemmas.{AreFrom}
use Rattle.diagnostics.proofs.MentionsTakenLemmas.{HasMentioned}
use Rattle.diagnostics.proofs.noteplaces.mentions.mentions_of.Given as goal

abbrev pub invariant-loop-token : goal.invariant-loop-token
invariant-loop-token g l = HasMentioned g.K.Kind.white g.K.Kind.first g.K.Kind.is_end g.S.Signs.sign_of l.rule l.text
    (AreFrom l.tokens l.token-index) (option_map signed_at l.before) l.within
    l.at l.line (map mentioned_at l.found.items)
