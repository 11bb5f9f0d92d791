-- The hints by the positions.
use Rattle.std.proofs.Common.{map}
use Rattle.abnfread.specs.AbnfViews.{rules_of}
use Rattle.ruletable.specs.Letters.{has}
use Rattle.diagnostics.specs.BodyMentions.{mentioned_at}
use Rattle.abnfhints.proofs.AbnfHintsLemmas.{hints_by_positions}
use Rattle.abnfhints.proofs.ReportedFirstLemmas.{three_from_nothing}
use Rattle.abnfhints.proofs.hints.abnf_hints.Goals as goal

pub returns : goal.returns
returns c = λ text are.
    let j = c.in_ok-push_judged.ensures in
    hints_by_positions (has c.args.hinted.now.letters) (rules_of c.args.hinted.now.rules.now) c.args.hinted.now.count
    c.args.hinted.now.judged c.args.hinted.now.end text c.push_judged.new.out.items c.args.hinted.now.positions.now are
    (record {
      barren = map (λ name. name.now) c.in_ok-barren.barren.items;
      reversed = map (λ m. mentioned_at m.now) c.in_ok-reversed.reversed.items;
      last = j.0;
      are_barren = c.in_ok-barren.ensures;
      are_reversed = rw c.deref.ensures.value at c.in_ok-reversed.ensures;
      is_last = j.1;
      all = three_from_nothing _ _ _ _ _ _ _ c.new-out.ensures.items
          (rw c.deref-2.ensures.value at c.in_ok-push_all_barren.ensures)
          (rw c.deref-3.ensures.value at c.in_ok-push_all_reversed.ensures) j.2;
    })
