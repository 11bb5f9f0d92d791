-- The texts are joined, or else one cannot be read, or an allocation failed.
use Rattle.toolrun.specs.Plan.{IsReportedAnd}
use Rattle.toolrun.specs.Status.{code_of}
use Rattle.toolrun.specs.Stream.{no_input, passed}
use Rattle.toolrun.specs.declared.stop.Stop.TheVariants.{NoMemory}
use Rattle.abnftexts.specs.JoinRun.{JoinStates}
use Rattle.std.proofs.Common.{[], Some, false, map}
use Rattle.abnfx.specs.JoinAnswers.{FilesJoined, joins, no_memory, unread, unread_stop, unread_text}
use Rattle.abnfx.specs.TextsRead.{text_read}
use Rattle.cli.proofs.JobStatesLemmas.{stop_comes}
use Rattle.toolrun.proofs.IsRightLemmas.{comes_as}
use Rattle.abnfx.proofs.run.join_files.Goals as goal

pub returns-in-Err : goal.returns-in-Err
returns-in-Err g c = record {
  right = comes_as (IsReportedAnd (unread_text c.in-Err.why) (unread_stop c.in-Err.why))
      (FilesJoined (map (λ p. p.now) c.args.paths.now) c.args.asked.lists c.args.asked.form
      c.args.asked.explains)
      (λ input notes reply is. rw (is.0, is.1) (unread c.in-Err.why c.in-Err.ensures.unread))
      no_input (passed g.O.Sink.contents g.O.Sink.failed c.args.out.now c.end_unread.new.out)
      (passed g.E.Sink.contents g.E.Sink.failed c.args.err.now c.end_unread.new.err) (code_of c.end_unread.result)
      c.end_unread.ensures.right;
}

pub returns-in-Ok-sources_of : goal.returns-in-Ok-sources_of
returns-in-Ok-sources_of g c = record {
  right = comes_as (JoinStates (map text_read c.in-Ok.texts.items) c.args.asked.lists c.args.asked.form
      c.args.asked.explains)
      (FilesJoined (map (λ p. p.now) c.args.paths.now) c.args.asked.lists c.args.asked.form
      c.args.asked.explains)
      (λ input notes reply is. joins c.in-Ok.ensures.texts is)
      no_input (passed g.O.Sink.contents g.O.Sink.failed c.args.out.now c.run_join.new.out)
      (passed g.E.Sink.contents g.E.Sink.failed c.args.err.now c.run_join.new.err) (code_of c.run_join.result)
      (rw (c.deref-in-Ok-sources_of.ensures.value, c.in-Ok-sources_of.ensures, c.deref.ensures.value)
      at c.run_join.ensures.right);
}

pub returns : goal.returns
returns g c = record {
  right = stop_comes (FilesJoined (map (λ p. p.now) c.args.paths.now) c.args.asked.lists c.args.asked.form
      c.args.asked.explains) NoMemory
      (λ input. no_memory) (Some []) false false
      (passed g.O.Sink.contents g.O.Sink.failed c.args.out.now c.finish.new.out)
      (passed g.E.Sink.contents g.E.Sink.failed c.args.err.now c.finish.new.err) (code_of c.finish.result)
      (c.finish.ensures.kept, c.finish.ensures.reported);
}
