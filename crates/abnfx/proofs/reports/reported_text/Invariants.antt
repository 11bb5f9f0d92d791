use Rattle.abnfx.proofs.RuleReportsLemmas.{Completes}
use Rattle.abnfx.proofs.reports.reported_text.Given as goal

-- the reports to come complete those so far
abbrev pub invariant-loop-report : goal.invariant-loop-report
invariant-loop-report l = Completes l.explains l.joined.reports.items l.report-index l.out.items
