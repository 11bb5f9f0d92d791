-- What private functions know of a comparison of two texts, before it is laid into the buffers of C.
use Rattle.std.specs.Prelude.{◌≡◌, ℕ, List, ◌++◌, length, Option}
use Rattle.abnfcheck.specs.AbnfGrammar.{Grammar}
use Rattle.abnfrun.specs.AbnfSettings.{AbnfSettings}
use Rattle.capi.specs.CompareCall.{c_alone, first_line_bytes}
use Rattle.capi.specs.GrammarsCompared.{AreFoundBetween, IsGrammarOpening, opened_code}
use Rattle.capi.specs.declared.compared.CompareReport.{CompareReport}
use Rattle.ruletable.specs.declared.alphabet.Alphabet.{Alphabet}
use Rattle.rulelines.specs.declared.comparison.Comparison.{Comparison}
use Rattle.toolrun.specs.declared.status.Status.{Status}

-- the report has these messages, what is found, and the status
pub record IsReportOf (letters : Alphabet) (old_reported new_reported : List ℕ) (found : Comparison) (status : Status)
    (report : CompareReport) : Type 0 where
  pub reported : report.reported.items ≡ old_reported ++ new_reported
  pub old_err_len : report.old_err_len ≡ length old_reported
  pub old_known : report.old_alone.known ≡ c_alone letters found.old_alone
  pub new_known : report.new_alone.known ≡ c_alone letters found.new_alone
  pub old_bytes : report.old_alone.bytes.items ≡ first_line_bytes letters found.old_alone
  pub new_bytes : report.new_alone.bytes.items ≡ first_line_bytes letters found.new_alone
  pub status_is : report.status ≡ status

-- the report is that on the texts of two grammars, each opened by its settings
pub record AreTextsCompared (old : List ℕ) (old_settings : AbnfSettings) (new : List ℕ) (new_settings : AbnfSettings)
    (report : CompareReport) : Type 0 where
  pub old_reported : List ℕ
  pub new_reported : List ℕ
  pub old_grammar : Option Grammar
  pub new_grammar : Option Grammar
  pub found : Comparison
  pub status : Status
  pub old_is : IsGrammarOpening old old_settings old_reported old_grammar (opened_code old_grammar)
  pub new_is : IsGrammarOpening new new_settings new_reported new_grammar (opened_code new_grammar)
  pub are_found : AreFoundBetween old_settings.options.letters old_grammar new_grammar found status
  pub report_is : IsReportOf old_settings.options.letters old_reported new_reported found status report
