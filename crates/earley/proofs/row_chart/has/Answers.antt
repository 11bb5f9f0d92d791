use Rattle.std.proofs.Common.{◌≡◌, Contains, refl, subst, arith}
use Rattle.earley.proofs.row_chart.has.Goals as goal

pub returns-in_default : goal.returns-in_default
returns-in_default c = (
  (λ t. absurd (cc t)),
  (λ h. let lt = c.in_default.ensures.none c.args.number h in
      absurd (omega (arith, lt))),
)

pub returns-then-least-number : goal.returns-then-least-number
returns-then-least-number c = (
  (λ t. subst (λ v. Contains c.args.row.now v) c.if-least-number.true c.in-Some.ensures.found.1),
  (λ h. refl),
)

pub returns : goal.returns
returns c = (
  (λ t. absurd (cc t)),
  (λ h.
      let le = c.in-Some.ensures.first c.args.number h (omega arith) in
      let ge = c.in-Some.ensures.found.0 in
      let same : c.in-Some.least ≡ c.args.number = omega (arith, le, ge) in
      absurd (c.if-least-number.false same)),
)
