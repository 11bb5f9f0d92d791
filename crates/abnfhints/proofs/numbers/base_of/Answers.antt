-- The letters of the bases.
use Rattle.std.proofs.Common.{⊎_elim, refl, arith}
use Rattle.abnfread.specs.BaseDigits.{binary, decimals, hexadecimal}
use Rattle.abnfhints.proofs.numbers.base_of.Goals as goal

pub returns-in-98 : goal.returns-in-98
returns-in-98 c =
    (binary {c = c.args.letter} (⊎_elim (λ is. rw is refl) (λ is. rw is refl) c.in-98.is), omega arith, omega arith)

pub returns-in-100 : goal.returns-in-100
returns-in-100 c =
    (decimals {c = c.args.letter} (⊎_elim (λ is. rw is refl) (λ is. rw is refl) c.in-100.is), omega arith, omega arith)

pub returns-in-120 : goal.returns-in-120
returns-in-120 c = (
  hexadecimal {c = c.args.letter} (⊎_elim (λ is. rw is refl) (λ is. rw is refl) c.in-120.is),
  omega arith,
  omega arith,
)
