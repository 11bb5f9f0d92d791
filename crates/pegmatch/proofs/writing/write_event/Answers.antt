use Rattle.std.proofs.Common.{refl}
use Rattle.std.specs.Prelude.{slice_range}
use Rattle.ruletable.proofs.AppendsLemmas.{Appends-same}
use Rattle.pegmatch.proofs.WrittenTextLemmas.{quiet_event}
use Rattle.pegmatch.proofs.writing.write_event.Goals as goal

pub returns-in_default : goal.returns-in_default
returns-in_default g c = record {
  bytes = λ e m. rw (quiet_event m c.in_default.not-Acted c.args.style
      (slice_range c.args.window.now c.args.capture.from c.args.capture.to)) (Appends-same _);
  flag = refl;
}
