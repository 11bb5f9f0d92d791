use Rattle.std.proofs.Common.{map}
use Rattle.abnfread.specs.MarkedIteration.{AreLeft}
use Rattle.abnfread.specs.MarkedTokens.{marked_of}
use Rattle.abnfexplain.proofs.TakenMarksLemmas.{IsTaken}
use Rattle.abnfexplain.proofs.abnf_decide.deciding_token.Given as goal

abbrev pub invariant-loop-token : goal.invariant-loop-token
invariant-loop-token l = IsTaken l.text (AreLeft l.token-iterator) l.position l.origin l.before l.earlier
    (map marked_of l.yielded)
