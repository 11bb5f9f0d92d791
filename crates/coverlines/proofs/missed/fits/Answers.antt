-- If the element may stand in a line.
use Rattle.coverlines.proofs.missed.fits.Goals as goal

pub returns-in-Some : goal.returns-in-Some
returns-in-Some c = rw c.in-Some.is c.has_fitting.ensures

pub returns-in-None : goal.returns-in-None
returns-in-None c = rw c.in-None.is (λ is. absurd (cc is), λ h. absurd h)
