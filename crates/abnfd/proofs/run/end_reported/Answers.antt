-- The report comes before the end.
use Rattle.std.proofs.Common.{◌≡◌, [], sym, true, false, ap, Some}
use Rattle.std.specs.Result.{is_err}
use Rattle.toolrun.specs.Status.{code_of}
use Rattle.toolrun.specs.Stream.{passed}
use Rattle.toolrun.specs.declared.stop.Stop.TheVariants.{Quiet}
use Rattle.toolrun.proofs.IsRightLemmas.{reported_cut, reported_stops, wrote-all, wrote-part}
use Rattle.abnfd.proofs.run.end_reported.Goals as goal

pub returns-then-is_err : goal.returns-then-is_err
returns-then-is_err g c = record {
  right =
      let failed : is_err c.write_whole.result ≡ true = sym c.if-is_err.ensures.value in
      reported_cut c.args.reported.now (Quiet c.args.status) (Some []) false false
      (passed g.O.Sink.contents g.O.Sink.failed c.args.out.now c.close.new.out)
      (passed g.E.Sink.contents g.E.Sink.failed c.args.err.now c.close.new.err) _ (code_of c.close.result)
      c.close.ensures.out
      (wrote-part _ _ _ c.write_whole.result failed c.write_whole.ensures.bytes)
      c.close.ensures.err c.close.ensures.stays (ap code_of c.close.ensures.status);
}

pub returns : goal.returns
returns g c = record {
  right =
      let fine : is_err c.write_whole.result ≡ false = sym c.if-is_err.ensures.value in
      reported_stops c.args.reported.now (Quiet c.args.status) (Some []) false false
      (passed g.O.Sink.contents g.O.Sink.failed c.args.out.now c.finish.new.out)
      (passed g.E.Sink.contents g.E.Sink.failed c.args.err.now c.finish.new.err) _ (code_of c.finish.result)
      c.finish.ensures.kept
      (wrote-all _ _ _ c.write_whole.result fine c.write_whole.ensures.bytes) c.finish.ensures.reported;
}
