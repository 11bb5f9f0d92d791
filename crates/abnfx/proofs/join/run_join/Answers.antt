-- What is reported of the texts, the grammar and the end, together.
use Rattle.std.proofs.Common.{◌≡◌, [], ◌++◌, sym, true, false, ap, map, refl, Ok, Some}
use Rattle.std.specs.Result.{is_err}
use Rattle.ruletable.proofs.AppendsLemmas.{Appends-same}
use Rattle.toolrun.specs.Status.{code_of}
use Rattle.toolrun.specs.Stream.{no_input, passed}
use Rattle.toolrun.specs.RunEnd.{plainly}
use Rattle.toolrun.specs.declared.ending.Ending.TheVariants.{Plain}
use Rattle.toolrun.specs.declared.stop.Stop.TheVariants.{NoMemory}
use Rattle.toolrun.proofs.IsRightLemmas.{cut_short, notes_some, notes_stated, run_is_right, stops_at_once}
use Rattle.toolrun.proofs.IsRightLemmas.{wrote-all, wrote-part}
use Rattle.abnftexts.specs.JoinRun.{JoinStates}
use Rattle.abnftexts.specs.JoinedViews.{grammar_joined}
use Rattle.abnftexts.specs.RulesGathered.{named_text}
use Rattle.abnfx.proofs.JoinRunLemmas.{DoesJoin, StopsEarly, early-planned, joined-planned}
use Rattle.abnfx.proofs.join.run_join.Goals as goal

pub returns-in-Err : goal.returns-in-Err
returns-in-Err g c = record {
  right =
      let texts = map named_text c.args.texts.now in
      let a = c.args.asked in
      run_is_right (JoinStates texts a.lists a.form a.explains) [] (StopsEarly texts a.lists a.form a.explains)
      (notes_stated (early-planned texts a.lists a.form a.explains)) no_input
      (passed g.O.Sink.contents g.O.Sink.failed c.args.out.now c.args.out.now)
      (passed g.O.Sink.contents g.O.Sink.failed c.args.out.now c.finish.new.out)
      (passed g.E.Sink.contents g.E.Sink.failed c.args.err.now c.finish.new.err)
      (g.E.Sink.contents c.args.err.now) (Ok (Plain NoMemory)) (code_of c.finish.result)
      (stops_at_once NoMemory (Some []) (g.O.Sink.contents c.args.out.now) false false
      (g.O.Sink.failed c.args.out.now))
      c.requires.out_is_fresh refl (Appends-same (g.E.Sink.contents c.args.err.now)) c.finish.ensures.kept
      c.finish.ensures.stays c.finish.ensures.reported;
}

pub returns-in-Err-reported_text : goal.returns-in-Err-reported_text
returns-in-Err-reported_text g c = record {
  right =
      let texts = map named_text c.args.texts.now in
      let a = c.args.asked in
      let end = c.finish-in-Err-reported_text in
      run_is_right (JoinStates texts a.lists a.form a.explains) [] (StopsEarly texts a.lists a.form a.explains)
      (notes_stated (early-planned texts a.lists a.form a.explains)) no_input
      (passed g.O.Sink.contents g.O.Sink.failed c.args.out.now c.args.out.now)
      (passed g.O.Sink.contents g.O.Sink.failed c.args.out.now end.new.out)
      (passed g.E.Sink.contents g.E.Sink.failed c.args.err.now end.new.err)
      (g.E.Sink.contents c.args.err.now) (Ok (Plain NoMemory)) (code_of end.result)
      (stops_at_once NoMemory (Some []) (g.O.Sink.contents c.args.out.now) false false
      (g.O.Sink.failed c.args.out.now))
      c.requires.out_is_fresh refl (Appends-same (g.E.Sink.contents c.args.err.now)) end.ensures.kept
      end.ensures.stays end.ensures.reported;
}

pub returns-then-is_err : goal.returns-then-is_err
returns-then-is_err g c = record {
  right =
      let failed : is_err c.write_whole.result ≡ true = sym c.if-is_err.ensures.value in
      let texts = map named_text c.args.texts.now in
      let a = c.args.asked in
      let joined = grammar_joined c.in-Ok.joined in
      let notes = c.in-Ok-reported_text.ensures in
      let bytes = rw (c.deref.ensures.value, notes.2) at c.write_whole.ensures.bytes in
      cut_short (JoinStates texts a.lists a.form a.explains) (notes.0 ++ joined.reported)
      (notes_some (joined-planned texts a.lists a.form a.explains joined notes.0 c.in-Ok.ensures notes.1)) no_input
      (passed g.O.Sink.contents g.O.Sink.failed c.args.out.now c.close.new.out)
      (passed g.E.Sink.contents g.E.Sink.failed c.args.err.now c.close.new.err)
      _ (code_of c.close.result) refl (wrote-part _ _ _ c.write_whole.result failed bytes) c.close.ensures.out
      c.close.ensures.err c.close.ensures.stays (ap code_of c.close.ensures.status);
}

pub returns : goal.returns
returns g c = record {
  right =
      let fine : is_err c.write_whole.result ≡ false = sym c.if-is_err.ensures.value in
      let texts = map named_text c.args.texts.now in
      let a = c.args.asked in
      let joined = grammar_joined c.in-Ok.joined in
      let notes = c.in-Ok-reported_text.ensures in
      let bytes = rw (c.deref.ensures.value, notes.2) at c.write_whole.ensures.bytes in
      run_is_right (JoinStates texts a.lists a.form a.explains) (notes.0 ++ joined.reported) (DoesJoin a.form joined)
      (notes_stated (joined-planned texts a.lists a.form a.explains joined notes.0 c.in-Ok.ensures notes.1)) no_input
      (passed g.O.Sink.contents g.O.Sink.failed c.args.out.now c.write_joined-stop.new.out)
      (passed g.O.Sink.contents g.O.Sink.failed c.args.out.now c.finish-2.new.out)
      (passed g.E.Sink.contents g.E.Sink.failed c.args.err.now c.finish-2.new.err)
      _ (plainly c.write_joined-stop.result) (code_of c.finish-2.result) c.write_joined-stop.ensures
      c.requires.out_is_fresh refl
      (wrote-all _ _ _ c.write_whole.result fine bytes)
      c.finish-2.ensures.kept c.finish-2.ensures.stays c.finish-2.ensures.reported;
}
