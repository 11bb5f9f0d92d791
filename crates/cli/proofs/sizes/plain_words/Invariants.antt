use Rattle.std.proofs.Common.{map, string_bytes, take}
use Rattle.cli.specs.LimitWords.{ArePlain}
use Rattle.cli.proofs.sizes.plain_words.Given as goal

abbrev pub invariant-loop-word : goal.invariant-loop-word
invariant-loop-word l = ArePlain l.role (map string_bytes (take l.word-index l.words)) (map string_bytes l.plain.items)
