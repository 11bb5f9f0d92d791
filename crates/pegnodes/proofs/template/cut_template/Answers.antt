use Rattle.std.proofs.lemmas.List.{take_rest}
use Rattle.pegnodes.proofs.IsCutLemmas.{IsCut-middle}
use Rattle.pegnodes.proofs.template.cut_template.Goals as goal

pub returns : goal.returns
returns c = IsCut-middle _ _ _ _ c.front_blanks-from.ensures.within
    (rw take_rest at c.back_blanks.ensures.within) c.front_blanks-from.ensures.value
    (rw take_rest at c.back_blanks.ensures.value) c.in_ok-slots.ensures.order c.in_ok-slots.ensures.text
