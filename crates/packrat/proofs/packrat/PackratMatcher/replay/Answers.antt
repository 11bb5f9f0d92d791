use Rattle.std.proofs.Common.{subst, sym}
use Rattle.pegnodes.specs.Nodes.{shapes_of}
use Rattle.pegmatch.specs.KeptEvents.{StandFor}
use Rattle.packrat.specs.Done.{Holds}
use Rattle.packrat.proofs.DoneLemmas.{held_rise}
use Rattle.packrat.proofs.packrat.PackratMatcher.replay.Goals as goal

pub replay-replayed-requires-clause-success : goal.replay-replayed-requires-clause-success
replay-replayed-requires-clause-success g c =
    let h = c.requires.success in (
      h.0,
      subst (λ v. StandFor (shapes_of c.args.peg.now.nodes) v.kept h.0) (sym c.self.view_is) h.4,
      held_rise c.args.peg.now c.args.window.now (Holds c.args.self.now c.args.peg.now c.args.window.now) h,
    )
