use Rattle.std.proofs.Common.{◌≡◌, true, map}
use Rattle.abnfread.specs.AbnfReader.{config_of}
use Rattle.abnfread.specs.MarkedIteration.{AreLeft}
use Rattle.abnfread.specs.MarkedTokens.{marked_of}
use Rattle.abnfread.proofs.HasTakenLemmas.{HasTaken, plain_of}
use Rattle.abnfread.proofs.read.definitions_keeping.Given as goal

abbrev pub invariant-loop-token : goal.invariant-loop-token
invariant-loop-token l = record {
  taken : HasTaken l.text (AreLeft l.token-iterator) (config_of l.reader) (map marked_of l.yielded);
  kept : l.keeps ≡ true → l.kept.items ≡ map plain_of l.yielded;
}
