use Rattle.std.proofs.Common.{◌-◌, arith}
use Rattle.std.proofs.lemmas.Option.{slice_get-get_or}
use Rattle.packrat.specs.declared.events.link.Link.TheVariants.{Opened}
use Rattle.packrat.proofs.events.take.link_at.Goals as goal

pub returns-else-head-eq0-clause-some : goal.returns-else-head-eq0-clause-some
returns-else-head-eq0-clause-some c =
    let some = c.if-head-eq0.false in
    let low = c.requires in (
      c.args.head - 1,
      omega (arith, some),
      slice_get-get_or c.args.links.now (c.args.head - 1) (Opened 0) (omega (arith, some, low)),
    )
