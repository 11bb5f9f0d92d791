-- The notes, the lines and the end, together.
use Rattle.std.proofs.Common.{◌≡◌, sym, true, false, ap, refl}
use Rattle.std.specs.Result.{is_err}
use Rattle.abnfg.proofs.ListAnswersLemmas.{judged_some}
use Rattle.abnfg.specs.ListAnswers.{JudgedReply, OpenedStates}
use Rattle.abnfread.specs.AbnfViews.{rules_of}
use Rattle.toolrun.proofs.IsRightLemmas.{cut_short, run_is_right, wrote-all, wrote-part}
use Rattle.toolrun.specs.Plan.{after_notes}
use Rattle.toolrun.specs.Status.{code_of}
use Rattle.toolrun.specs.Stream.{no_input, passed}
use Rattle.abnfg.proofs.grammar.list_opened.Goals as goal

pub returns-then-is_err : goal.returns-then-is_err
returns-then-is_err g c = record {
  right =
      let failed : is_err c.write_whole.result ≡ true = sym c.if-is_err.ensures.value in
      let opened = c.args.opened in
      let settings = c.args.settings.now in
      let rules = rules_of opened.rules.rules in
      let bytes = rw c.deref.ensures.value at c.write_whole.ensures.bytes in
      let some = judged_some settings rules opened.judged in
      cut_short (OpenedStates settings opened.diagnostics.items rules opened.judged) opened.diagnostics.items
      (λ input. (some.0, (refl, some.1))) no_input
      (passed g.O.Sink.contents g.O.Sink.failed c.args.out.now c.close.new.out)
      (passed g.E.Sink.contents g.E.Sink.failed c.args.err.now c.close.new.err)
      _ (code_of c.close.result) refl (wrote-part _ _ _ c.write_whole.result failed bytes) c.close.ensures.out
      c.close.ensures.err c.close.ensures.stays (ap code_of c.close.ensures.status);
}

pub returns : goal.returns
returns g c = record {
  right =
      let fine : is_err c.write_whole.result ≡ false = sym c.if-is_err.ensures.value in
      let opened = c.args.opened in
      let settings = c.args.settings.now in
      let rules = rules_of opened.rules.rules in
      let bytes = rw c.deref.ensures.value at c.write_whole.ensures.bytes in
      run_is_right (OpenedStates settings opened.diagnostics.items rules opened.judged) opened.diagnostics.items
      (λ input reply. JudgedReply settings rules opened.judged reply)
      (λ input reply is. after_notes (refl, is)) no_input
      (passed g.O.Sink.contents g.O.Sink.failed c.args.out.now c.write_judged-ending.new.out)
      (passed g.O.Sink.contents g.O.Sink.failed c.args.out.now c.conclude.new.out)
      (passed g.E.Sink.contents g.E.Sink.failed c.args.err.now c.conclude.new.err)
      _ c.write_judged-ending.result (code_of c.conclude.result) c.write_judged-ending.ensures
      c.requires.out_is_fresh refl
      (wrote-all _ _ _ c.write_whole.result fine bytes)
      c.conclude.ensures.kept c.conclude.ensures.stays c.conclude.ensures.reported;
}
