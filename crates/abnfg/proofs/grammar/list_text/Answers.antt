-- The text reads, or it has a fault.
use Rattle.std.proofs.Common.{[], Some, false, map, subst, sym}
use Rattle.abnfg.proofs.ListAnswersLemmas.{hinted_plain, text_listed, unread_states}
use Rattle.abnfg.specs.ListAnswers.{OpenedStates, TextStates}
use Rattle.abnfread.specs.AbnfViews.{rules_of}
use Rattle.cli.proofs.JobStatesLemmas.{stop_comes}
use Rattle.ruletable.specs.Notes.{said_of}
use Rattle.toolrun.proofs.IsRightLemmas.{comes_as}
use Rattle.toolrun.specs.Plan.{stopped}
use Rattle.toolrun.specs.Status.{code_of}
use Rattle.toolrun.specs.Stream.{no_input, passed}
use Rattle.toolrun.specs.declared.stop.Stop.{Stop}
use Rattle.abnfg.proofs.grammar.list_text.Goals as goal

pub returns-in-Ok : goal.returns-in-Ok
returns-in-Ok g c = record {
  right =
      let o = c.in-Ok.opened in
      let settings = c.args.settings.now in
      let notes = map said_of o.notes.items in
      comes_as (OpenedStates settings o.diagnostics.items (rules_of o.rules.rules) o.judged)
      (TextStates c.args.text.now settings)
      (λ input out reply is. text_listed c.args.text.now settings notes o.rules.rules input out o.diagnostics.items
      reply
      (hinted_plain c.opening_settings-opening.result _ _ c.opening_settings-opening.ensures.plain notes
      o.diagnostics.items c.in-Ok.ensures.diagnostics) _ c.opening_settings-opening.ensures.start o.judged
      c.in-Ok.ensures.checked is) no_input
      (passed g.O.Sink.contents g.O.Sink.failed c.args.out.now c.list_opened.new.out)
      (passed g.E.Sink.contents g.E.Sink.failed c.args.err.now c.list_opened.new.err)
      (code_of c.list_opened.result) c.list_opened.ensures.right;
}

pub returns-in-Err : goal.returns-in-Err
returns-in-Err g c = record {
  right =
      let stop = c.stop_unopened.result in
      let text = c.args.text.now in
      let settings = c.args.settings.now in
      stop_comes (TextStates text settings) stop
      (λ input. subst (λ (s : Stop). TextStates text settings input [] (stopped s)) (sym c.stop_unopened.ensures)
      (unread_states text settings input c.in-Err.fault c.in-Err.ensures.fault)) (Some []) false false
      (passed g.O.Sink.contents g.O.Sink.failed c.args.out.now c.finish.new.out)
      (passed g.E.Sink.contents g.E.Sink.failed c.args.err.now c.finish.new.err) (code_of c.finish.result)
      (c.finish.ensures.kept, c.finish.ensures.reported);
}
