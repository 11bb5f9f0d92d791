use Rattle.std.proofs.Common.{arith, subst, sym}
use Rattle.std.proofs.lemmas.Option.{slice_get-get_or}
use Rattle.pegrun.specs.ByteUnits.{AreByteUnits}
use Rattle.pegrun.proofs.attempt.CountedMatcher.learn.Goals as goal

pub returns-clause-units : goal.returns-clause-units
returns-clause-units g c = λ are.
    c.keep.ensures c.args.peg.now c.args.style
    (subst (AreByteUnits c.args.peg.now c.args.style) (sym c.ask-known.ensures.units) are)
    (c.ask-known.ensures.known _
    (slice_get-get_or c.args.window.now 0 _ (let l = c.if-window-lt2.false in omega (arith, l))))
