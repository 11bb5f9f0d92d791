-- The messages, the answer and the end, together.
use Rattle.std.proofs.Common.{◌≡◌, sym, true, false, ap, refl}
use Rattle.std.specs.Result.{is_err}
use Rattle.abnfd.specs.CompareAnswers.{IsWholeReport, answer_reply}
use Rattle.toolrun.proofs.IsRightLemmas.{cut_short, run_is_right, wrote-all, wrote-part}
use Rattle.toolrun.specs.Plan.{after_notes}
use Rattle.toolrun.specs.RunEnd.{plainly}
use Rattle.toolrun.specs.Status.{code_of}
use Rattle.toolrun.specs.Stream.{no_input, passed}
use Rattle.abnfd.proofs.run.end_compared.Goals as goal

pub returns-then-is_err : goal.returns-then-is_err
returns-then-is_err g c = record {
  right =
      let failed : is_err c.write_whole.result ≡ true = sym c.if-is_err.ensures.value in
      let report = c.args.report.now in
      let bytes = rw c.as_slice.ensures.value at c.write_whole.ensures.bytes in
      cut_short (IsWholeReport report.reported.items report.answer.text.items report.answer.status)
      report.reported.items
      (λ input. (answer_reply report.answer.text.items report.answer.status, (refl, refl))) no_input
      (passed g.O.Sink.contents g.O.Sink.failed c.args.out.now c.close.new.out)
      (passed g.E.Sink.contents g.E.Sink.failed c.args.err.now c.close.new.err)
      _ (code_of c.close.result) refl (wrote-part _ _ _ c.write_whole.result failed bytes) c.close.ensures.out
      c.close.ensures.err c.close.ensures.stays (ap code_of c.close.ensures.status);
}

pub returns : goal.returns
returns g c = record {
  right =
      let fine : is_err c.write_whole.result ≡ false = sym c.if-is_err.ensures.value in
      let report = c.args.report.now in
      let bytes = rw c.as_slice.ensures.value at c.write_whole.ensures.bytes in
      run_is_right (IsWholeReport report.reported.items report.answer.text.items report.answer.status)
      report.reported.items
      (λ input reply. reply ≡ answer_reply report.answer.text.items report.answer.status)
      (λ input reply is. after_notes (refl, is)) no_input
      (passed g.O.Sink.contents g.O.Sink.failed c.args.out.now c.write_answer-stop.new.out)
      (passed g.O.Sink.contents g.O.Sink.failed c.args.out.now c.finish.new.out)
      (passed g.E.Sink.contents g.E.Sink.failed c.args.err.now c.finish.new.err)
      _ (plainly c.write_answer-stop.result) (code_of c.finish.result) c.write_answer-stop.ensures
      c.requires.out_is_fresh refl
      (wrote-all _ _ _ c.write_whole.result fine bytes)
      c.finish.ensures.kept c.finish.ensures.stays c.finish.ensures.reported;
}
