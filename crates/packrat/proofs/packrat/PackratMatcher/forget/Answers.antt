use Rattle.std.proofs.Common.{◌∙◌, ap}
use Rattle.packrat.specs.Done.{Contents, empty}
use Rattle.packrat.proofs.packrat.PackratMatcher.forget.Goals as goal

pub returns : goal.returns
returns c =
    ap (λ (v : Contents). record v { matches = c.self.inside.matches }) (c.emptied.view_is ∙ c.new-emptied.ensures)
    ∙ ap (λ v. empty v.matches) c.self.view_is
