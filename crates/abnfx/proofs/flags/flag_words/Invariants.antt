use Rattle.std.proofs.Common.{string_bytes}
use Rattle.abnfx.proofs.FlagWordsLemmas.{AreFlagsSoFar}
use Rattle.abnfx.proofs.flags.flag_words.Given as goal

abbrev pub invariant-loop-word : goal.invariant-loop-word
invariant-loop-word l = AreFlagsSoFar string_bytes l.words l.word-index l.ended l.flags.items
