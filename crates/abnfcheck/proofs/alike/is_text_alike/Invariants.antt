-- Of the symbols so far.
use Rattle.std.proofs.Common.{◌↔◌}
use Rattle.abnfcheck.specs.Derivable.{StandsFor}
use Rattle.abnfcheck.proofs.AlikeSymbolsLemmas.{AllTo}
use Rattle.abnfcheck.proofs.alike.is_text_alike.Given as goal

abbrev pub invariant-loop-letter : goal.invariant-loop-letter
invariant-loop-letter l = AllTo (λ t. StandsFor l.folds t l.pair.first ↔ StandsFor l.folds t l.pair.second) l.text
    l.letter-index
