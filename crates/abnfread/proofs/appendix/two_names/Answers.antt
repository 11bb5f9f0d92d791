use Rattle.std.proofs.Common.{◌∙◌, refl, ap}
use Rattle.abnfread.specs.Element.{Concat}
use Rattle.abnfread.proofs.ElementLemmas.{element-Concat}
use Rattle.abnfread.proofs.ElementListLemmas.{elements_of-pair}
use Rattle.abnfread.proofs.appendix.two_names.Goals as goal

pub returns : goal.returns
returns c =
    let both = elements_of-pair c.new-names.result.items c.push.new.self.items c.push-2.new.self.items _ _
    c.new-names.ensures.items c.in_ok-push.ensures.items c.in_ok-push-2.ensures.items in
    element-Concat _ ∙ ap Concat (both ∙ rw (c.in_ok-name.ensures, c.in_ok-name-2.ensures) refl)
