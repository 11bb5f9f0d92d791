-- No note rejects the grammar, so its ranks fall.
use Rattle.std.proofs.Common.{◌≡◌, false, map, sym}
use Rattle.ruletable.specs.Notes.{said_of}
use Rattle.pegread.specs.PegViews.{rules_of}
use Rattle.gramcheck.specs.Checked.{is_refused}
use Rattle.gramcheck.proofs.JudgeLemmas.{start-below}
use Rattle.gramcheck.proofs.check.judge_peg.Goals as goal

pub returns-clause-sound : goal.returns-clause-sound
returns-clause-sound c =
    let reported : false ≡ is_refused (map said_of c.deref-2.result.now) = c.if-refused.ensures in
    let passes : is_refused (map said_of c.in_ok-judged.judged.notes.items) ≡ false =
    rw c.deref-2.ensures.value at (sym reported) in (
      passes,
      rw c.new-ranked.ensures (record {
        ranked = c.in_ok-judged.ensures.ranked passes c.in_ok-first.first
            (start-below _ (rules_of c.args.peg.now.rules) c.in_ok-first.first c.in_ok-first.ensures);
        numbered = c.in_ok-judged.ensures.numbered;
      }),
      rw c.new-ranked.ensures c.in_ok-first.ensures,
    )
