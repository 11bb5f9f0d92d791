-- The next line was written, or there is none.
use Rattle.std.proofs.Common.{List, [], ◌∷◌, subst, ℕ}
use Rattle.abnfg.proofs.WrittenLinesLemmas.{record_next}
use Rattle.abnfg.specs.ListedLines.{IsRecordWritten, end_of, record_text}
use Rattle.abnfg.specs.ListModes.{AreWholeAsked, HasReturned, explained_asked}
use Rattle.rulelines.specs.MissLists.{item_lines}
use Rattle.abnfg.proofs.lines.write_next.Goals as goal

pub returns-in-Ok-clause-next : goal.returns-in-Ok-clause-next
returns-in-Ok-clause-next g c = λ rules id ws before kept count.
    let s = c.args.settings.now in
    let text_of = record_text s.letters (end_of s.nul) in
    let old = g.O.Sink.contents c.args.out.now in
    let new = g.O.Sink.contents c.write_record.new.out in
    let was = c.args.kept.now.items in
    let now = c.write_record.new.kept.items in
    record_next text_of s was now (HasReturned s rules id c.next_line.new.source) (AreWholeAsked s rules id) ws
    c.in-Ok.line.items old new (c.in-Ok.ensures s rules id ws before count) kept c.write_record.result
    (subst (λ (v : List ℕ). IsRecordWritten (item_lines was) (item_lines now) (explained_asked s (v ∷ [])) (text_of v)
    old new c.write_record.result) c.deref.ensures.value c.write_record.ensures.next)
