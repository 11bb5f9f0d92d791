use Rattle.std.proofs.Common.{ℕ, List, ◌∷◌, ◌∙◌, ap, refl, sym}
use Rattle.abnfblocks.specs.TextLines.{line_parts}
use Rattle.abnfblocks.proofs.CutPartLemmas.{part-before, part-last}
use Rattle.abnfblocks.proofs.rfctext.kept.cut_part.Goals as goal

pub returns-in-Some-clause-parts : goal.returns-in-Some-clause-parts
returns-in-Some-clause-parts c = part-before c.args.text.now c.split_at.result.0.now c.split_at.result.1.now
    c.in-Some.rest.now c.in-Some.field-0-0.now c.part_size-size.result c.part_size-size.ensures.size
    c.split_at.ensures.front c.split_at.ensures.back c.in-Some.ensures.cases.0
    ∙ ap (λ (part : List ℕ). part ∷ line_parts c.in-Some.rest.now) (sym c.before_cr.ensures)

pub returns-in-None-clause-parts : goal.returns-in-None-clause-parts
returns-in-None-clause-parts c = part-last c.args.text.now c.split_at.result.0.now c.split_at.result.1.now
    c.split_at.result.1.now c.part_size-size.result c.requires c.part_size-size.ensures.size
    c.split_at.ensures.front c.split_at.ensures.back c.in-None.ensures.cases refl
