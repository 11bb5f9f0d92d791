-- The reports of rules that are no ABNF, with what explains each.
use Rattle.std.specs.Prelude.{◌≡◌, ◌≢◌, ℕ, Bool, true, false, Option, None, Some, List, [], ◌∷◌, ◌++◌}
use Rattle.ruletable.specs.declared.fault.ReadFault.{ReadFault}
use Rattle.ruletable.specs.declared.fault.ReadFault.TheVariants as faults
use Rattle.abnfread.specs.AbnfReading.{Reads, IsFaultOf}
use Rattle.abnfread.specs.Element.{Definition}
use Rattle.abnfexplain.specs.AbnfExplained.{Explains}
use Rattle.abnftexts.specs.RulesGathered.{ReportedRule}

-- What explains why a text is no ABNF; nothing if it is.
pub data ExplainsText (text : List ℕ) : List ℕ → Type 0 where
  its_fault : {fault : ReadFault} {why : List ℕ} → IsFaultOf text fault → fault ≢ faults.Memory
      → Explains text fault why → ExplainsText text why
  it_reads : {definitions : List Definition} → Reads text definitions → ExplainsText text []

-- where that is asked for, and the report has lines
abbrev pub ExplainsIfAsked : Bool → Option (List ℕ) → List ℕ → Type 0
ExplainsIfAsked true (Some text) why = ExplainsText text why
ExplainsIfAsked true None why = why ≡ []
ExplainsIfAsked false lines why = why ≡ []

-- The messages of reports, each followed by what explains the lines of its rule, where that is asked for.
pub data AreReports (explains : Bool) : List ReportedRule → List ℕ → Type 0 where
  no_reports : AreReports explains [] []
  next_report : {report : ReportedRule} {reports : List ReportedRule} (why : List ℕ) {more : List ℕ}
      → ExplainsIfAsked explains report.lines why → AreReports explains reports more
      → AreReports explains (report ∷ reports) (report.message ++ (why ++ more))
