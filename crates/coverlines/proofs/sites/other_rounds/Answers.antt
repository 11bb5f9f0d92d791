-- As few rounds as may be.
use Rattle.std.proofs.Common.{◌≡◌, ◌⊎◌, ◌+◌, ◌-◌, ◌≤◌, inl, inr, ⊎_elim, arith, subst}
use Rattle.std.proofs.lemmas.Bool.{cases_lt}
use Rattle.std.proofs.lemmas.Result.{IfOk-weaker}
use Rattle.abnfread.specs.AbnfViews.{element_of}
use Rattle.abnfcheck.specs.Derivable.{AtMost}
use Rattle.coverlines.proofs.SitesLemmas.{rounds_shortest}
use Rattle.coverlines.proofs.sites.other_rounds.Goals as goal

pub returns : goal.returns
returns c =
    let max = c.max.ensures in
    let from = c.from-rounds.ensures in
    let allowed = c.allows.ensures.0 c.if-not-allows.false in
    let low : c.args.least ≤ (c.from-rounds.result - 1) + 1 = omega (arith, max, from) in
    let few : ((c.from-rounds.result - 1) ≡ 0) ⊎ ((c.from-rounds.result - 1) + 1 ≡ c.args.least) =
    ⊎_elim (λ lt. inr (omega (arith, max, from, lt))) (λ le. inl (omega (arith, max, from, le)))
    (cases_lt 0 c.args.least) in
    IfOk-weaker c.repeated.result _ _ (λ w rounds rules known.
    rounds_shortest c.args.words.now.bounds rules c.args.least c.args.most (element_of c.args.operand.now)
    (c.from-rounds.result - 1) w low few
    (subst (λ k. AtMost k c.args.most) (omega (arith, max, from)) allowed.1)
    (rounds c.args.words.now.bounds rules (element_of c.args.operand.now) (c.in_ok-round.ensures rules known)))
    c.repeated.ensures
