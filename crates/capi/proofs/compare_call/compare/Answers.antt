-- The report is laid into the buffers, or nothing is done.
use Rattle.std.proofs.Common.{refl, inl, inr, ap, ◌∙◌}
use Rattle.capi.specs.CompareCall.{compares, no_memory, not_asked}
use Rattle.capi.proofs.CompareCallLemmas.{letters_are_kept}
use Rattle.toolrun.specs.Status.{code_of}
use Rattle.capi.proofs.compare_call.compare.Goals as goal

pub returns-in_default : goal.returns-in_default
returns-in_default c = rw c.uncompared.ensures (not_asked
    (inl (rw c.side_asked-old_asked.ensures at c.in_default.ensures))
    (record { old_line = refl; new_line = refl; err = (refl, refl) }) refl)

pub returns-in_default-settings_of : goal.returns-in_default-settings_of
returns-in_default-settings_of c = rw c.uncompared-in_default-settings_of.ensures (not_asked
    (inr (rw c.side_asked-new_asked.ensures at c.in_default-settings_of.ensures))
    (record { old_line = refl; new_line = refl; err = (refl, refl) }) refl)

pub returns-in-Ok : goal.returns-in-Ok
returns-in-Ok c =
    let compared = c.in-Ok.ensures in
    let laid = c.lay_report.ensures in
    let asked = c.args.asked.now in
    let old_meant = rw c.side_asked-old_asked.ensures at c.in-Some.ensures in
    let new_meant = rw c.side_asked-new_asked.ensures at c.in-Some-settings_of.ensures in
    compares (rw (letters_are_kept asked c.args.old_name.now) at old_meant.options.letters)
    (record { settings = c.in-Some.old_settings; meant = old_meant; opening = compared.old_is })
    (record { settings = c.in-Some-settings_of.new_settings; meant = new_meant; opening = compared.new_is })
    compared.are_found (record {
      old_line = rw compared.report_is.old_bytes at laid.old_line;
      new_line = rw compared.report_is.new_bytes at laid.new_line;
      err = rw compared.report_is.reported at laid.err;
      old_alone = laid.old_alone ∙ compared.report_is.old_known;
      new_alone = laid.new_alone ∙ compared.report_is.new_known;
      old_err_len = laid.old_err_len ∙ compared.report_is.old_err_len;
      status_is = laid.status ∙ ap code_of compared.report_is.status_is;
    })

pub returns-in-Err : goal.returns-in-Err
returns-in-Err c = rw (c.uncompared-in-Err.ensures, c.code.ensures)
    (no_memory (record { old_line = refl; new_line = refl; err = (refl, refl) }) refl)
