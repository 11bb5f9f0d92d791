use Rattle.std.proofs.Common.{◌≡◌, true, map}
use Rattle.pegread.specs.Steps.{config_of}
use Rattle.lexer.specs.TokenLists.{tok_of}
use Rattle.pegread.proofs.ReadDefinitionsLemmas.{HasTaken}
use Rattle.pegread.proofs.read.take_tokens.Given as goal

abbrev pub invariant-loop-token : goal.invariant-loop-token
invariant-loop-token l = record {
  taken : HasTaken l.text l.token-iterator (config_of l.reader) l.before (map tok_of l.yielded);
  kept : l.keeps ≡ true → l.kept.items ≡ l.yielded;
}
