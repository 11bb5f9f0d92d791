-- What is known of units before and after a match.
use Rattle.std.proofs.Common.{subst, sym}
use Rattle.pegrun.specs.ByteUnits.{AreByteUnits}
use Rattle.pegrun.proofs.unit.attempt_unit.Goals as goal

pub returns-then-eq-clause-units : goal.returns-then-eq-clause-units
returns-then-eq-clause-units g c = λ are.
    c.learn.ensures.units (subst (AreByteUnits c.args.peg.now c.args.style) (sym c.in-Some.ensures.units) are)
