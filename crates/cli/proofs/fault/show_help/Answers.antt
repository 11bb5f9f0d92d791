-- The help was written, or a prefix of it.
use Rattle.std.proofs.Common.{◌≡◌, [], false, Some, refl}
use Rattle.std.specs.Prelude.{Result, Ok, Err}
use Rattle.ruletable.proofs.AppendsLemmas.{Appends-same}
use Rattle.ruletable.specs.declared.sink.WriteFault.{WriteFault}
use Rattle.toolrun.specs.Reply.{text_alone}
use Rattle.toolrun.specs.RunEnd.{plainly}
use Rattle.toolrun.specs.Status.{code_of}
use Rattle.toolrun.specs.Stream.{no_input, passed}
use Rattle.toolrun.specs.declared.status.Status.TheVariants.{Done}
use Rattle.toolrun.specs.declared.stop.Stop.{Stop}
use Rattle.toolrun.specs.declared.stop.Stop.TheVariants.{Quiet}
use Rattle.toolrun.specs.Plan.{after_notes}
use Rattle.toolrun.proofs.IsRightLemmas.{run_is_right}
use Rattle.toolrun.proofs.PrintsLemmas.{was_printed}
use Rattle.cli.specs.Parsing.{IsTextAlone}
use Rattle.cli.proofs.fault.show_help.Goals as goal

pub returns-in-Ok : goal.returns-in-Ok
returns-in-Ok g c = record {
  right =
      let text = c.args.text.now in
      let stop : Result Stop WriteFault = Ok (Quiet Done) in
      run_is_right (IsTextAlone text) [] (λ input reply. reply ≡ text_alone text)
      (λ input reply is. after_notes (refl, is)) no_input
      (passed g.O.Sink.contents g.O.Sink.failed c.args.out.now c.write_whole.new.w)
      (passed g.O.Sink.contents g.O.Sink.failed c.args.out.now c.finish.new.out)
      (passed g.E.Sink.contents g.E.Sink.failed c.args.err.now c.finish.new.err)
      (g.E.Sink.contents c.args.err.now) (plainly stop) (code_of c.finish.result)
      (was_printed text (Some []) _ _ false false _ _ stop
      (refl, rw c.as_bytes.ensures.value at c.in-Ok.ensures.bytes) c.in-Ok.ensures.flag)
      c.requires.out_is_fresh refl (Appends-same (g.E.Sink.contents c.args.err.now))
      c.finish.ensures.kept c.finish.ensures.stays c.finish.ensures.reported;
}

pub returns-in-Err : goal.returns-in-Err
returns-in-Err g c = record {
  right =
      let text = c.args.text.now in
      let stop : Result Stop WriteFault = Err c.in-Err.fault in
      run_is_right (IsTextAlone text) [] (λ input reply. reply ≡ text_alone text)
      (λ input reply is. after_notes (refl, is)) no_input
      (passed g.O.Sink.contents g.O.Sink.failed c.args.out.now c.write_whole.new.w)
      (passed g.O.Sink.contents g.O.Sink.failed c.args.out.now c.finish-in-Err.new.out)
      (passed g.E.Sink.contents g.E.Sink.failed c.args.err.now c.finish-in-Err.new.err)
      (g.E.Sink.contents c.args.err.now) (plainly stop) (code_of c.finish-in-Err.result)
      (was_printed text (Some []) _ _ false false _ _ stop
      (rw c.as_bytes.ensures.value at c.in-Err.ensures.bytes) c.in-Err.ensures.flag)
      c.requires.out_is_fresh refl (Appends-same (g.E.Sink.contents c.args.err.now))
      c.finish-in-Err.ensures.kept c.finish-in-Err.ensures.stays c.finish-in-Err.ensures.reported;
}
