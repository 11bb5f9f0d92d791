-- A letter stands for itself in either case.
-- Serves: cover_lines
use Rattle.std.proofs.Common.{◌≡◌, ℕ, arith}
use Rattle.std.proofs.lemmas.Grind.{common_steps}
use Rattle.ruletable.specs.Letters.{small}
use Rattle.coverlines.specs.Goals.{swapped_case}

pub swapped_stands : (c : ℕ) → small (swapped_case c) ≡ small c
swapped_stands c = grind (arith, common_steps)
