use Rattle.std.proofs.Common.{◌∙◌, ap, map}
use Rattle.std.proofs.lemmas.List.{take_all}
use Rattle.abnfread.specs.AbnfViews.{elements}
use Rattle.abnfread.specs.CoreParts.{part_element}
use Rattle.abnfread.specs.Element.{Alt}
use Rattle.abnfread.proofs.ElementLemmas.{element-Alt}
use Rattle.abnfread.proofs.appendix.one_of.Goals as goal

pub returns : goal.returns
returns c =
    let all = take_all c.loop-it.it-index c.args.parts.now c.loop-it-test.false in
    element-Alt _ ∙ ap (λ es. Alt (elements es)) (c.loop-it.invariant ∙ ap (map part_element) all)
