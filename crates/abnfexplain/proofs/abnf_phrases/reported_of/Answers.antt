use Rattle.std.proofs.Common.{sym, ◌∙◌}
use Rattle.std.proofs.lemmas.List.{map-append}
use Rattle.diagnostics.proofs.PhraseLemmas.{row-reported, row-barred, rest-ended}
use Rattle.abnfexplain.specs.AbnfPositions.{position_allows}
use Rattle.abnfexplain.specs.AbnfPhraseRows.{phrase_of}
use Rattle.abnfexplain.proofs.abnf_phrases.reported_of.Goals as goal
use Rattle.abnfexplain.proofs.abnf_phrases.reported_of.Goals.{then-is_reported+in_ok-push, else-is_reported}

pub loop-phrase-preserved : goal.loop-phrase-preserved
loop-phrase-preserved c = elim c.if-is_reported.branch [
  | then-is_reported+in_ok-push w ↦
      (let h = row-reported
      (position_allows c.args.position.now) phrase_of c.args.table.now c.loop-phrase.phrase-index _ _
      c.loop-phrase-test.true (sym c.is_reported.ensures ∙ w.if-is_reported.true) c.loop-phrase.invariant in
      let items = w.in_ok-push.ensures.items in
      rw (w.reported-is, items, map-append) h)
  | else-is_reported w ↦
      (let h = row-barred (position_allows c.args.position.now) phrase_of c.args.table.now c.loop-phrase.phrase-index _
      _
      c.loop-phrase-test.true (sym c.is_reported.ensures ∙ w.if-is_reported.false) c.loop-phrase.invariant in
      rw w.reported-is h)
]

pub returns : goal.returns
returns c = rest-ended (position_allows c.args.position.now) phrase_of c.args.table.now c.loop-phrase.phrase-index _
    c.loop-phrase-test.false c.loop-phrase.invariant
