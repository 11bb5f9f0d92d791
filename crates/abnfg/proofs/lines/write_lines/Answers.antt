-- Each line is the next one; then none is, or all are written.
use Rattle.std.proofs.Common.{◌∙◌, Option, arith, subst}
use Rattle.std.specs.Prelude.{Ok}
use Rattle.abnfg.proofs.ReturnedLinesLemmas.{returned_first}
use Rattle.abnfg.proofs.WrittenLinesLemmas.{all_written, cut_off, halt_written, none_written, one_more}
use Rattle.abnfg.specs.ListedLines.{IsWrittenNext, end_of, record_text}
use Rattle.abnfg.specs.ListModes.{AreFirstAsked, AreLinesKept, AreWholeAsked, HasReturned, WithKept}
use Rattle.abnfg.specs.declared.lines.Halt.{Halt}
use Rattle.abnfg.proofs.lines.write_lines.Goals as goal

pub loop-done-init : goal.loop-done-init
loop-done-init g c =
    let s = c.args.settings.now in
    record {
      written = λ rules id none kept. none_written (record_text s.letters (end_of s.nul))
          (HasReturned s rules id c.args.source.now) (AreLinesKept s c.args.kept.now.items)
          (g.O.Sink.contents c.args.out.now) none kept;
      fresh = c.requires;
    }

pub returns-in-Ok-Some-clause-lines : goal.returns-in-Ok-Some-clause-lines
returns-in-Ok-Some-clause-lines g c = λ rules id none none_kept.
    let s = c.args.settings.now in
    let text_of = record_text s.letters (end_of s.nul) in
    let was = HasReturned s rules id c.loop-done.source in
    let kept = AreLinesKept s c.loop-done.kept.items in
    let now = HasReturned s rules id c.write_next.new.source in
    let keeps = AreLinesKept s c.write_next.new.kept.items in
    let u = c.loop-done.invariant.written rules id none none_kept in
    let old = g.O.Sink.contents c.loop-done.out in
    let new = g.O.Sink.contents c.write_next.new.out in
    halt_written text_of (WithKept s c.write_next.new.kept.items (AreFirstAsked s rules id)) (AreWholeAsked s rules id)
    was kept now keeps c.loop-done.done s.count (g.O.Sink.contents c.args.out.now) old new u c.in-Ok-Some.halt
    (λ ws is same. (returned_first s rules id c.loop-done.source ws is, same))
    (let lt = c.loop-done-test.true in omega (arith, lt))
    (subst (λ (o : Option Halt). IsWrittenNext now keeps (AreWholeAsked s rules id) text_of u.ws old new (Ok o))
    c.in-Ok-Some.field-0-is (c.in-Ok-Some.ensures.next rules id u.ws u.are u.kept_are u.count))

pub returns-in-Err-clause-lines : goal.returns-in-Err-clause-lines
returns-in-Err-clause-lines g c = λ rules id none none_kept.
    let s = c.args.settings.now in
    let u = c.loop-done.invariant.written rules id none none_kept in
    cut_off (record_text s.letters (end_of s.nul))
    (WithKept s c.write_next.new.kept.items (AreFirstAsked s rules id)) (AreWholeAsked s rules id)
    (HasReturned s rules id c.loop-done.source) (AreLinesKept s c.loop-done.kept.items)
    (HasReturned s rules id c.write_next.new.source) (AreLinesKept s c.write_next.new.kept.items) c.loop-done.done
    s.count (g.O.Sink.contents c.args.out.now) (g.O.Sink.contents c.loop-done.out)
    (g.O.Sink.contents c.write_next.new.out) u c.in-Err.fault
    (λ ws is same. (returned_first s rules id c.write_next.new.source ws is, same))
    c.loop-done-test.true (c.in-Err.ensures.next rules id u.ws u.are u.kept_are u.count)

pub loop-done-preserved : goal.loop-done-preserved
loop-done-preserved g c =
    let s = c.args.settings.now in
    let text_of = record_text s.letters (end_of s.nul) in
    let old = g.O.Sink.contents c.loop-done.out in
    let new = g.O.Sink.contents c.write_next.new.out in
    let keeps = AreLinesKept s c.write_next.new.kept.items in
    record {
      written = λ rules id none none_kept.
          let now = HasReturned s rules id c.write_next.new.source in
          let u = c.loop-done.invariant.written rules id none none_kept in
          one_more text_of (AreFirstAsked s rules id) (AreWholeAsked s rules id)
          (HasReturned s rules id c.loop-done.source) (AreLinesKept s c.loop-done.kept.items) now keeps c.loop-done.done
          s.count (g.O.Sink.contents c.args.out.now) old new u
          (subst (λ (o : Option Halt). IsWrittenNext now keeps (AreWholeAsked s rules id) text_of u.ws old new (Ok o))
          c.in-Ok-None.field-0-is (c.in-Ok-None.ensures.next rules id u.ws u.are u.kept_are u.count));
      fresh = c.in-Ok-None.ensures.flag ∙ c.loop-done.invariant.fresh;
    }

pub returns-clause-lines : goal.returns-clause-lines
returns-clause-lines g c = λ rules id none none_kept.
    let s = c.args.settings.now in
    all_written (record_text s.letters (end_of s.nul))
    (WithKept s c.loop-done.kept.items (AreFirstAsked s rules id)) (AreWholeAsked s rules id)
    (HasReturned s rules id c.loop-done.source) (AreLinesKept s c.loop-done.kept.items) c.loop-done.done s.count
    (g.O.Sink.contents c.args.out.now) (g.O.Sink.contents c.loop-done.out)
    (c.loop-done.invariant.written rules id none none_kept)
    (λ ws is same. (returned_first s rules id c.loop-done.source ws is, same))
    (let ge = c.loop-done-test.false in let le = c.loop-done.auto.done-end in omega (arith, ge, le))
