use Rattle.std.proofs.Common.{sym, subst, refl}
use Rattle.flatgrammar.specs.Positions.{In}
use Rattle.flatgrammar.proofs.InLemmas.{at_index_in, none_more}
use Rattle.earleyitems.proofs.item.holds.Goals as goal

pub returns-then-same : goal.returns-then-same
returns-then-same c = (
  (λ u. subst (λ v. In v c.args.set.now) (sym (c.same.ensures.0 c.if-same.true))
      (at_index_in c.args.set.now c.loop-other.other-index _ c.loop-other-test.true)),
  (λ h. refl),
)

pub loop-other-preserved : goal.loop-other-preserved
loop-other-preserved c = none_more c.args.item c.args.set.now c.loop-other.other-index _ c.loop-other-test.true
    c.loop-other.invariant
    (λ same. let t = c.same.ensures.1 same in let f = c.if-same.false in absurd cc)
