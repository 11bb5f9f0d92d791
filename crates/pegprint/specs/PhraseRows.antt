-- The phrases of the code.
use Rattle.pegread.specs.declared.kind.Kind.{Kind}
use Rattle.diagnostics.specs.ReportedPhrases as reported
use Rattle.pegprint.specs.declared.faults.phrases.Phrase.{Phrase}

-- what the code's phrase stands for
abbrev pub phrase_of : Phrase → reported.Phrase Kind
phrase_of p = record { words = p.words.now; kinds = p.kinds.now; bars = p.bars.now }
