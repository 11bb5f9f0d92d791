-- The window is run, or it does not lie in the input.
use Rattle.std.proofs.Common.{[], refl, sym}
use Rattle.capi.specs.WindowRuns.{outside, ran}
use Rattle.ruletable.proofs.AppendsLemmas.{Appends-same}
use Rattle.capi.proofs.windows.run_window.Goals as goal

pub returns-in-None : goal.returns-in-None
returns-in-None g c = (
  record { out = []; err = []; code = 6 },
  outside c.in-None.ensures refl,
  Appends-same _,
  Appends-same _,
  c.nothing_done.ensures,
)

pub returns-in-Some : goal.returns-in-Some
returns-in-Some g c =
    let run = c.run_part.ensures in
    (run.0, ran c.in-Some.ensures.1 (rw (sym c.in-Some.ensures.0) run.1), run.2, run.3, run.4)
