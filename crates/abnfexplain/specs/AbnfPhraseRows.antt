-- The phrases of the code.
use Rattle.diagnostics.specs.ReportedPhrases as reported
use Rattle.abnfexplain.specs.declared.abnf_phrases.Phrase.{Phrase}
use Rattle.abnfexplain.specs.declared.abnf_stand.Form.{Form}

-- what the code's phrase stands for
abbrev pub phrase_of : Phrase → reported.Phrase Form
phrase_of p = record { words = p.words.now; kinds = p.forms.now; bars = p.bars.now }
