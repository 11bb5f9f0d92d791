-- The input was opened, and the run on it was held; or it was not opened.
use Rattle.std.proofs.Common.{ap, inl, inr}
use Rattle.std.specs.Borrow.{Bor}
use Rattle.clap.specs.Words.{Text}
use Rattle.std.specs.Io.Buffered.{reader_remaining}
use Rattle.cli.specs.Inputs.{rest_of}
use Rattle.toolrun.specs.Status.{code_of}
use Rattle.cli.proofs.several.run_input.Goals as goal

pub returns-in-Ok : goal.returns-in-Ok
returns-in-Ok g c = (
  c.settings_on-settings.result,
  c.settings_on-settings.ensures.same,
  ap (λ (s : Bor Text). s.now) c.settings_on-settings.ensures.input,
  inl (
    c.run_held-run.result.messages.items,
    record {
      old = reader_remaining (rest_of g.S.Read.remaining g.R.File.Read.remaining) c.in-Ok.reader.inner;
      new = reader_remaining (rest_of g.S.Read.remaining g.R.File.Read.remaining) c.run_held-run.new.reader.inner;
      was = c.in-Ok.reader.failed;
      failed = c.run_held-run.new.reader.failed;
    },
    record {
      held_all = c.run_held-run.result.held_all;
      status = code_of c.run_held-run.result.status;
      right = rw c.as_slice.ensures.value at c.run_held-run.ensures;
      reported = rw c.as_slice-in-Ok.ensures.value at c.report_held.ensures;
    },
  ),
)

pub returns-in-Err : goal.returns-in-Err
returns-in-Err g c = (
  c.settings_on-settings.result,
  c.settings_on-settings.ensures.same,
  ap (λ (s : Bor Text). s.now) c.settings_on-settings.ensures.input,
  inr (c.in-Err.why, c.in-Err.ensures.named, c.end_inputless.ensures),
)
