use Rattle.std.proofs.Common.{sym, subst, arith, ⊎_elim}
use Rattle.std.proofs.lemmas.Bool.{cases_eq}
use Rattle.pegnodes.specs.Nodes.{shapes_of}
use Rattle.pegnodes.specs.Predictive.{IsApart}
use Rattle.pegnodes.proofs.apart.are_apart.Goals as goal

pub loop-l-preserved : goal.loop-l-preserved
loop-l-preserved c = λ m lt. ⊎_elim
    (λ same. subst (IsApart (shapes_of c.args.nodes.now) c.args.bodies.now) (sym same)
    (c.in_ok-is_apart.ensures c.if-not-branch.false))
    (λ other. c.loop-l.invariant m (omega (arith, lt, other)))
    (cases_eq m c.loop-l.l)
