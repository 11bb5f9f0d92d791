use Rattle.std.proofs.Common.{take, subst, sym}
use Rattle.std.proofs.lemmas.List.{take_more}
use Rattle.flatgrammar.specs.ItemClosures.{AreByLetter}
use Rattle.flatgrammar.proofs.dot_list.by_letter.Goals as goal

pub loop-dot-preserved : goal.loop-dot-preserved
loop-dot-preserved c = subst (λ dots. AreByLetter c.args.flat.now dots c.add_reader.new.lists.items)
    (sym (take_more c.args.from.now c.loop-dot.dot-index _ c.loop-dot-test.true))
    (c.in_ok-add_reader.ensures (take c.loop-dot.dot-index c.args.from.now) c.loop-dot.invariant)
