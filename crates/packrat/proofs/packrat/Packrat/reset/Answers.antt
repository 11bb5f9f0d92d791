use Rattle.std.proofs.Common.{◌∙◌, ap}
use Rattle.packrat.specs.Done.{empty}
use Rattle.packrat.proofs.DoneLemmas.{empty_as}
use Rattle.packrat.proofs.packrat.Packrat.reset.Goals as goal

pub returns : goal.returns
returns c =
    empty_as c.clear.new.self.stored c.clear-3.new.self c.clear-2.new.self c.self.inside.matches
    (ap (λ v. v.stored) c.clear.ensures) c.clear-3.ensures
    ∙ ap (λ v. empty v.matches) c.self.view_is
