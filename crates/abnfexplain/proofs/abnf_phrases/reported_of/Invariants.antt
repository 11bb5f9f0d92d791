use Rattle.std.proofs.Common.{map}
use Rattle.diagnostics.proofs.PhraseLemmas.{ReportsRest}
use Rattle.abnfexplain.specs.AbnfPositions.{position_allows}
use Rattle.abnfexplain.specs.AbnfPhraseRows.{phrase_of}
use Rattle.abnfexplain.proofs.abnf_phrases.reported_of.Given as goal

abbrev pub invariant-loop-phrase : goal.invariant-loop-phrase
invariant-loop-phrase l = ReportsRest (position_allows l.position) phrase_of l.table l.phrase-index
    (map (λ w. w.now) l.reported.items)
