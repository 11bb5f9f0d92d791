-- The steps of the end, together.
use Rattle.std.proofs.Common.{◌∙◌, ap}
use Rattle.std.specs.Prelude.{max}
use Rattle.toolrun.specs.Finish.{ending_of}
use Rattle.toolrun.specs.Status.{code_of}
use Rattle.toolrun.specs.declared.status.Status.{Status}
use Rattle.toolrun.proofs.FinishLemmas.{finish_reports, met_by_err, met_by_none, met_by_out}
use Rattle.toolrun.proofs.finish.conclude.Goals as goal

pub returns-then-has_failed-clause-reported : goal.returns-then-has_failed-clause-reported
returns-then-has_failed-clause-reported g c =
    finish_reports c.args.ending _ _ _ _ c.report.result (code_of c.at_least_fault.result) c.requires.flag
    c.report.ensures.bytes
    (rw c.requires.fresh at c.report.ensures.flag) c.flush_out.ensures.reported c.flush_err.ensures.kept
    c.flush_err.ensures.stays
    (met_by_out (code_of (ending_of c.args.ending)) _ _ _ c.if-has_failed.ensures (c.at_least_fault.ensures
    ∙ ap (λ (s : Status). max (code_of s) 4) c.status_at_end-base.ensures))

pub returns-then-has_failed-2-clause-reported : goal.returns-then-has_failed-2-clause-reported
returns-then-has_failed-2-clause-reported g c =
    finish_reports c.args.ending _ _ _ _ c.report.result (code_of c.at_least_fault-then-has_failed-2.result)
    c.requires.flag c.report.ensures.bytes
    (rw c.requires.fresh at c.report.ensures.flag) c.flush_out.ensures.reported c.flush_err.ensures.kept
    c.flush_err.ensures.stays
    (met_by_err (code_of (ending_of c.args.ending)) _ _ _ c.if-has_failed-2.ensures
    (c.at_least_fault-then-has_failed-2.ensures
    ∙ ap (λ (s : Status). max (code_of s) 4) c.status_at_end-base.ensures))

pub returns-clause-reported : goal.returns-clause-reported
returns-clause-reported g c =
    finish_reports c.args.ending _ _ _ _ c.report.result (code_of c.status_at_end-base.result) c.requires.flag
    c.report.ensures.bytes
    (rw c.requires.fresh at c.report.ensures.flag) c.flush_out.ensures.reported c.flush_err.ensures.kept
    c.flush_err.ensures.stays
    (met_by_none (code_of (ending_of c.args.ending)) _ _ _ c.if-has_failed.ensures c.if-has_failed-2.ensures
    (ap code_of c.status_at_end-base.ensures))
