-- The texts are compared, or one cannot be read.
use Rattle.std.specs.Prelude.{option_copied}
use Rattle.abnfd.specs.CompareAnswers.{FilesCompared, unread, missing_stop, missing_text}
use Rattle.toolrun.proofs.IsRightLemmas.{comes_as}
use Rattle.toolrun.specs.Plan.{IsReportedAnd}
use Rattle.toolrun.specs.Status.{code_of}
use Rattle.toolrun.specs.Stream.{no_input, passed}
use Rattle.abnfd.proofs.run.compare_files.Goals as goal

pub returns-in-Err : goal.returns-in-Err
returns-in-Err g c = record {
  right =
      let why = c.in-Err.why in
      let settings = c.args.settings.now in
      comes_as (IsReportedAnd (missing_text why) (missing_stop why))
      (FilesCompared settings.all settings.explain settings.letters
      (option_copied settings.old_rule) (option_copied settings.new_rule))
      (λ input notes reply is. rw (is.0, is.1) (unread why)) no_input
      (passed g.O.Sink.contents g.O.Sink.failed c.args.out.now c.end_unread.new.out)
      (passed g.E.Sink.contents g.E.Sink.failed c.args.err.now c.end_unread.new.err) (code_of c.end_unread.result)
      c.end_unread.ensures.right;
}
