use Rattle.std.proofs.Common.{◌≡◌, map}
use Rattle.lexer.specs.TokenLists.{tok_of}
use Rattle.pegprint.specs.PegAllFaults.{last_start}
use Rattle.pegprint.proofs.TakenTokensLemmas.{AreLeft, HasTaken}
use Rattle.pegprint.proofs.faults.deciding_token.deciding_token.Given as goal

abbrev pub invariant-loop-token : goal.invariant-loop-token
invariant-loop-token l = record {
  taken : HasTaken l.text (AreLeft l.token-iterator) l.position (map tok_of l.yielded);
  before : l.before ≡ last_start (map tok_of l.yielded);
}
