-- One line more; then none is, or all are written.
use Rattle.std.proofs.Common.{◌∙◌, List, subst}
use Rattle.std.proofs.lemmas.List.{take_all}
use Rattle.std.specs.Io.KnownBytes.{Appends}
use Rattle.abnfg.proofs.CoverTextLemmas.{texts_cut, texts_more, texts_stop}
use Rattle.abnfg.specs.CoverLists.{line_texts}
use Rattle.abnfg.specs.ListedLines.{end_of, record_text}
use Rattle.coverlines.specs.declared.cover.CoverLine.{CoverLine}
use Rattle.ruletable.proofs.AppendsLemmas.{Appends-same}
use Rattle.abnfg.proofs.covered.write_covered.Goals as goal

pub loop-line-init : goal.loop-line-init
loop-line-init g c = record { written = Appends-same (g.O.Sink.contents c.args.out.now); fresh = c.requires }

pub loop-line-preserved : goal.loop-line-preserved
loop-line-preserved g c =
    let s = c.args.settings.now in
    let text_of = record_text s.letters (end_of s.nul) in
    let one = rw c.in-Ok-true.field-0-test at c.in-Ok-true.ensures.line in
    record {
      written = texts_more text_of c.args.lines.now c.loop-line.line-index c.line-item.result
          (g.O.Sink.contents c.args.out.now) (g.O.Sink.contents c.loop-line.out)
          (g.O.Sink.contents c.write_line.new.out) c.loop-line-test.true c.line-item.is
          c.loop-line.invariant.written (rw c.deref.ensures.value at one);
      fresh = c.in-Ok-true.ensures.flag ∙ c.loop-line.invariant.fresh;
    }

pub returns-in-Ok-false-clause-lines : goal.returns-in-Ok-false-clause-lines
returns-in-Ok-false-clause-lines g c =
    let s = c.args.settings.now in
    let one = rw c.in-Ok-false.field-0-test at c.in-Ok-false.ensures.line in
    texts_stop (record_text s.letters (end_of s.nul)) c.args.lines.now c.loop-line.line-index c.line-item.result
    (g.O.Sink.contents c.args.out.now) (g.O.Sink.contents c.loop-line.out) (g.O.Sink.contents c.write_line.new.out)
    c.loop-line-test.true c.line-item.is c.loop-line.invariant.written one

pub returns-in-Err-clause-lines : goal.returns-in-Err-clause-lines
returns-in-Err-clause-lines g c =
    let s = c.args.settings.now in
    let one = c.in-Err.ensures.line in
    texts_cut (record_text s.letters (end_of s.nul)) c.args.lines.now c.loop-line.line-index c.line-item.result
    (g.O.Sink.contents c.args.out.now) (g.O.Sink.contents c.loop-line.out) (g.O.Sink.contents c.write_line.new.out)
    c.loop-line-test.true c.line-item.is c.loop-line.invariant.written (rw c.deref.ensures.value at one)

pub returns-clause-lines : goal.returns-clause-lines
returns-clause-lines g c =
    let s = c.args.settings.now in
    subst (λ (v : List CoverLine). Appends (g.O.Sink.contents c.args.out.now) (g.O.Sink.contents c.loop-line.out)
    (line_texts (record_text s.letters (end_of s.nul)) v))
    (take_all c.loop-line.line-index c.args.lines.now c.loop-line-test.false) c.loop-line.invariant.written
