use Rattle.earley.proofs.RowStepLemmas.{position_yes, position_of}
use Rattle.earley.proofs.row_chart.holds_at.Goals as goal

pub returns-then-is_at : goal.returns-then-is_at
returns-then-is_at c = (
  (λ t. (
    position_yes c.args.dots.now c.args.position _ c.args.item.node c.args.item.step c.requires
        (c.is_at.ensures.0 c.if-is_at.true),
    c.has_number.ensures.0 t,
  )),
  (λ h. c.has_number.ensures.1 h.1),
)

pub returns : goal.returns
returns c = (
  (λ t. absurd (cc t)),
  (λ h. let yes = c.is_at.ensures.1 (position_of c.args.dots.now c.args.position _ c.args.item.node c.args.item.step
      c.requires h.0) in let no = c.if-is_at.false in absurd (cc (yes, no))),
)
