use Rattle.std.proofs.Common.{◌≡◌, ⊎_elim, Some, slice_get, refl, subst, arith}
use Rattle.std.proofs.lemmas.Bool.{cases_lt}
use Rattle.earley.specs.RowSets.{HasAt}
use Rattle.flatgrammar.proofs.CallOfLemmas.{get_below}
use Rattle.flatgrammar.specs.ItemClosures.{dot}
use Rattle.earley.proofs.row_chart.has_item.Goals as goal

pub returns-then-holds_at : goal.returns-then-holds_at
returns-then-holds_at c =
    let h = c.holds_at.ensures.0 c.if-holds_at.true in
    ((λ t. record { position = c.loop-position.position; is = h.0; has = h.1 }), (λ g. refl))

pub loop-position-preserved : goal.loop-position-preserved
loop-position-preserved c = λ p lt is has. ⊎_elim (λ low. c.loop-position.invariant p low is has)
    (λ past. let same : p ≡ c.loop-position.position = omega (arith, lt, past) in
    let yes = c.holds_at.ensures.1 (
      subst (λ v. slice_get c.args.dots.now v ≡ Some (dot c.args.item.node c.args.item.step)) same is,
      subst (λ v. HasAt c.args.rows.now v c.args.item.origin) same has,
    ) in
    let no = c.if-holds_at.false in absurd (cc (yes, no)))
    (cases_lt p c.loop-position.position)

pub returns : goal.returns
returns c = (
  (λ t. absurd (cc t)),
  (λ h. absurd (c.loop-position.invariant h.position (let lt = get_below c.args.dots.now h.position h.is in
      let over = c.loop-position-test.false in omega (arith, lt, over)) h.is h.has)),
)
