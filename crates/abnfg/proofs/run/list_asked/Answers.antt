-- The text is read, or it cannot be read.
use Rattle.std.proofs.Common.{[], Some, false}
use Rattle.abnfg.specs.ListAnswers.{ListAnswers, TextStates, lists_text, unreadable, unroomed}
use Rattle.clap.specs.Words.{found_of, rows_of}
use Rattle.cli.proofs.JobStatesLemmas.{stop_comes}
use Rattle.toolrun.proofs.IsRightLemmas.{comes_as}
use Rattle.toolrun.specs.Status.{code_of}
use Rattle.toolrun.specs.Stream.{no_input, passed}
use Rattle.toolrun.specs.declared.stop.Stop.TheVariants.{NoMemory, Unreadable}
use Rattle.abnfg.proofs.run.list_asked.Goals as goal

pub returns-in-Ok : goal.returns-in-Ok
returns-in-Ok g c = record {
  right =
      let settings = c.settings_of-settings.result in
      let f = found_of c.args.matches.now in
      comes_as (TextStates c.deref.result.now settings) (ListAnswers (rows_of f))
      (λ input notes reply is. lists_text c.deref.result.now settings c.settings_of-settings.ensures is) no_input
      (passed g.O.Sink.contents g.O.Sink.failed c.args.out.now c.list_text.new.out)
      (passed g.E.Sink.contents g.E.Sink.failed c.args.err.now c.list_text.new.err)
      (code_of c.list_text.result) c.list_text.ensures.right;
}

pub returns-in-Err : goal.returns-in-Err
returns-in-Err g c = record {
  right =
      stop_comes (ListAnswers (rows_of (found_of c.args.matches.now))) NoMemory (λ input. unroomed) (Some []) false
      false (passed g.O.Sink.contents g.O.Sink.failed c.args.out.now c.finish.new.out)
      (passed g.E.Sink.contents g.E.Sink.failed c.args.err.now c.finish.new.err) (code_of c.finish.result)
      (c.finish.ensures.kept, c.finish.ensures.reported);
}

pub returns-in-Err-2 : goal.returns-in-Err-2
returns-in-Err-2 g c = record {
  right =
      stop_comes (ListAnswers (rows_of (found_of c.args.matches.now))) Unreadable (λ input. unreadable) (Some []) false
      false (passed g.O.Sink.contents g.O.Sink.failed c.args.out.now c.finish-in-Err-2.new.out)
      (passed g.E.Sink.contents g.E.Sink.failed c.args.err.now c.finish-in-Err-2.new.err)
      (code_of c.finish-in-Err-2.result) (c.finish-in-Err-2.ensures.kept, c.finish-in-Err-2.ensures.reported);
}
