-- What the grammars of each tool are opened as.
use Rattle.std.specs.Prelude.{◌≡◌, ℕ, List, Option, Some, None}
use Rattle.abnfexplain.specs.AbnfAllFaults.{ExplainsAll as ExplainsAbnf}
use Rattle.abnfread.specs.AbnfReading.{IsFaultOf as IsAbnfFault}
use Rattle.abnfrun.specs.AbnfExplainedNotes.{ExplainsAbnfNote}
use Rattle.abnfrun.specs.AbnfSettings.{AbnfSettings}
use Rattle.abnfrun.specs.AbnfTextHints.{AreTextHints}
use Rattle.abnfrun.specs.OpenAbnf.{IsOpened}
use Rattle.abnfrun.specs.OpenJudge.{OpenJudge}
use Rattle.capi.specs.OpenCall.{IsOpening}
use Rattle.capi.specs.declared.runner.Runner.{Runner}
use Rattle.pegprint.specs.PegAllFaults.{ExplainsAll as ExplainsPeg}
use Rattle.pegexplain.specs.PegNotes.{ExplainsNote}
use Rattle.pegexplain.specs.PegHints.{ArePegHints}
use Rattle.pegread.specs.Reading.{IsFaultOf as IsPegFault}
use Rattle.pegrun.specs.OpenPeg.{IsPegOpened}
use Rattle.pegrun.specs.PegSettings.{PegSettings}
use Rattle.ruletable.specs.Notes.{Said}

-- a grammar in ABNF is opened as what judges lines by it
abbrev pub IsAbnfOpening : List ℕ → AbnfSettings → List ℕ → Option OpenJudge → ℕ → Type 0
IsAbnfOpening text settings = IsOpening (IsAbnfFault text) (ExplainsAbnf text) (ExplainsAbnfNote text)
    (AreTextHints text settings) (IsOpened text settings) settings

-- a runner runs as these settings ask: by their limit and options, and explained or not
pub record RunsBy (runner : Runner) (settings : PegSettings) : Type 0 where
  pub limit : settings.limit ≡ runner.limit
  pub style : settings.options.style ≡ runner.style
  pub whole : settings.options.whole ≡ runner.whole
  pub budget : settings.options.budget ≡ runner.budget
  pub line_buffered : settings.options.line_buffered ≡ runner.line_buffered
  pub explain : settings.explain ≡ runner.explain

-- the text has these notes, and this runs its grammar as settings ask, unless one of them rejects it
abbrev pub IsRunnerOf : List ℕ → PegSettings → List Said → Option Runner → Type 0
IsRunnerOf text settings notes None = IsPegOpened text settings notes None
IsRunnerOf text settings notes (Some runner) = IsPegOpened text settings notes (Some runner.peg)
    × RunsBy runner settings

-- a grammar of peg(1) is opened as what runs it on inputs
abbrev pub IsPegOpening : List ℕ → PegSettings → List ℕ → Option Runner → ℕ → Type 0
IsPegOpening text settings = IsOpening (IsPegFault text) (ExplainsPeg text) (ExplainsNote text)
    (ArePegHints text) (IsRunnerOf text settings) settings
