use Rattle.std.proofs.Common.{ap}
use Rattle.packrat.proofs.DoneLemmas.{empty_as}
use Rattle.packrat.proofs.packrat.Packrat.new.Goals as goal

pub returns : goal.returns
returns c = empty_as c.new.result.stored c.new-3.result c.new-2.result 0 (ap (λ v. v.stored) c.new.ensures)
    c.new-3.ensures
