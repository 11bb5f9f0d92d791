use Rattle.std.proofs.Common.{⊎_elim, refl}
use Rattle.gramcheck.proofs.loops.repeats.Goals as goal

pub bounds-marks-operand : goal.bounds-marks-operand
bounds-marks-operand c = ⊎_elim (λ is. rw is at c.requires.marks _ refl)
    (λ others. ⊎_elim (λ is. rw is at c.requires.marks _ refl) (λ is. rw is at c.requires.marks _ refl) others)
    c.in-Opt.is

pub bounds-nulls-operand : goal.bounds-nulls-operand
bounds-nulls-operand c = ⊎_elim (λ is. rw is at c.requires.nulls _ refl) (λ is. rw is.1 at c.requires.nulls _ refl)
    c.in-Star.is

pub bounds-marks-operand-else-nulls-operand : goal.bounds-marks-operand-else-nulls-operand
bounds-marks-operand-else-nulls-operand c = ⊎_elim (λ is. rw is at c.requires.marks _ refl)
    (λ is. rw is.1 at c.requires.marks _ refl) c.in-Star.is

pub some_marked-requires : goal.some_marked-requires
some_marked-requires c = ⊎_elim
    (λ is. rw c.deref.ensures.value (rw is at c.requires.marks))
    (λ is. rw c.deref.ensures.value (rw is at c.requires.marks))
    c.in-Seq.is
