-- The report is written, or an allocation failed.
use Rattle.std.proofs.Common.{[], Some, false}
use Rattle.std.specs.Prelude.{option_copied}
use Rattle.abnfd.specs.CompareAnswers.{FilesCompared, IsWholeReport, compares, no_memory}
use Rattle.cli.proofs.JobStatesLemmas.{stop_comes}
use Rattle.toolrun.proofs.IsRightLemmas.{comes_as}
use Rattle.toolrun.specs.Status.{code_of}
use Rattle.toolrun.specs.Stream.{no_input, passed}
use Rattle.toolrun.specs.declared.stop.Stop.TheVariants.{NoMemory}
use Rattle.abnfd.proofs.run.compare_read.Goals as goal

pub returns-in-Ok : goal.returns-in-Ok
returns-in-Ok g c = record {
  right =
      let settings = c.args.settings.now in
      let report = c.in-Ok.report in
      comes_as (IsWholeReport report.reported.items report.answer.text.items report.answer.status)
      (FilesCompared settings.all settings.explain settings.letters
      (option_copied settings.old_rule) (option_copied settings.new_rule))
      (λ input notes reply is. rw (is.0, is.1) (compares c.in-Ok.ensures)) no_input
      (passed g.O.Sink.contents g.O.Sink.failed c.args.out.now c.end_compared.new.out)
      (passed g.E.Sink.contents g.E.Sink.failed c.args.err.now c.end_compared.new.err)
      (code_of c.end_compared.result) c.end_compared.ensures.right;
}

pub returns-in-Err : goal.returns-in-Err
returns-in-Err g c = record {
  right =
      let settings = c.args.settings.now in
      stop_comes (FilesCompared settings.all settings.explain settings.letters
      (option_copied settings.old_rule) (option_copied settings.new_rule)) NoMemory (λ input. no_memory)
      (Some []) false false
      (passed g.O.Sink.contents g.O.Sink.failed c.args.out.now c.finish.new.out)
      (passed g.E.Sink.contents g.E.Sink.failed c.args.err.now c.finish.new.err) (code_of c.finish.result)
      (c.finish.ensures.kept, c.finish.ensures.reported);
}
