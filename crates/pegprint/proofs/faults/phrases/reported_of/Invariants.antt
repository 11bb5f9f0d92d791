use Rattle.std.proofs.Common.{map}
use Rattle.diagnostics.proofs.PhraseLemmas.{ReportsRest}
use Rattle.pegprint.specs.PegStands.{allows}
use Rattle.pegprint.specs.PhraseRows.{phrase_of}
use Rattle.pegprint.proofs.faults.phrases.reported_of.Given as goal

abbrev pub invariant-loop-phrase : goal.invariant-loop-phrase
invariant-loop-phrase l = ReportsRest (allows l.position) phrase_of l.table l.phrase-index
    (map (λ w. w.now) l.reported.items)
