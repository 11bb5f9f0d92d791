use Rattle.abnfx.proofs.RuleReportsLemmas.{report-more, reports-all}
use Rattle.abnfx.proofs.reports.reported_text.Goals as goal

pub loop-report-preserved : goal.loop-report-preserved
loop-report-preserved c = λ more rest.
    let all = c.deref-report-items.ensures.value in
    let pushed = c.in_ok-push_report.ensures in
    report-more c.args.explains c.args.joined.now.reports.items c.loop-report.report-index c.report-item.result
    c.loop-report.out.items c.push_report.new.out.items pushed.0
    (let low = c.loop-report-test.true in rw all at low) (let is = c.report-item.is in rw all at is) pushed.1
    pushed.2 c.loop-report.invariant more rest

pub returns : goal.returns
returns c =
    let high = c.loop-report-test.false in
    let joined = c.args.joined.now in (
      c.loop-report.out.items,
      reports-all c.args.explains joined.reports.items c.loop-report.report-index c.loop-report.out.items
          (rw c.deref-report-items.ensures.value at high) c.loop-report.invariant,
      rw c.deref.ensures.value at c.in_ok-extend_from_slice.ensures.items,
    )
