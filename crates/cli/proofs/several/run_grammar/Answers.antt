-- The grammar was read, and its run was held.
use Rattle.std.proofs.Common.{Some, inl}
use Rattle.toolrun.specs.Status.{code_of}
use Rattle.cli.proofs.several.run_grammar.Goals as goal

pub returns : goal.returns
returns g c = inl (
  record {
    old = Some c.new-reader.result.inner.now;
    new = Some c.run_held-run.new.reader.inner.now;
    was = c.new-reader.result.failed;
    failed = c.run_held-run.new.reader.failed;
  },
  c.new-reader.ensures.remaining,
  record {
    held_all = c.run_held-run.result.held_all;
    status = code_of c.run_held-run.result.status;
    right = rw c.as_slice.ensures.value at c.run_held-run.ensures;
    reported = rw c.as_slice-2.ensures.value at c.report_held-status.ensures;
  },
)
