use Rattle.std.proofs.Common.{◌≡◌, arith, sym, subst}
use Rattle.matchfailure.specs.Farthest.{FailsAt}
use Rattle.matchfailure.proofs.AscendsLemmas.{one_list}
use Rattle.matchfailure.proofs.farthest.laws.one_farthest.Goals as goal

pub returns : goal.returns
returns c rules nodes bodies x start f h vs ws a b =
    let low = b.none_further a.some.0 a.some.1 f a.some.2 in
    let high = a.none_further b.some.0 b.some.1 h b.some.2 in
    let same : f ≡ h = omega arith in (
      same,
      one_list vs ws a.ordered b.ordered
          (λ v l. (b.exact v).1 (subst (λ z. FailsAt rules nodes bodies x start v.node v.position z) same
          ((a.exact v).0 l)))
          (λ v l. (a.exact v).1 (subst (λ z. FailsAt rules nodes bodies x start v.node v.position z) (sym same)
          ((b.exact v).0 l))),
    )
