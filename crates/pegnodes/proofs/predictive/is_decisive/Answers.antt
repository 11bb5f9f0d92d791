use Rattle.std.proofs.Common.{ℕ, None, get_or, subst}
use Rattle.std.specs.Prelude.{IfSome}
use Rattle.std.proofs.lemmas.Result.{IfOk-weaker}
use Rattle.pegnodes.specs.Nodes.{shapes_of}
use Rattle.pegnodes.specs.Predictive.{IsLike, IsSettled, AreVerdicts}
use Rattle.pegnodes.proofs.predictive.is_decisive.Goals as goal

pub returns-in-Some : goal.returns-in-Some
returns-in-Some c = IfOk-weaker c.is_settled.result _ _
    (λ yes settled t b like. record {
      of = λ m. get_or c.in-Some.row.items m None;
      decided = rows b like;
      settled = subst (λ v. IsSettled (shapes_of c.args.nodes.now) c.args.bodies.now (λ m. get_or v m None))
          c.deref.ensures.value (settled t);
    })
    c.is_settled.ensures
  where
    rows : (b : ℕ) → IsLike c.args.b b
        → AreVerdicts (shapes_of c.args.nodes.now) c.args.bodies.now b (λ m. get_or c.in-Some.row.items m None)
    rows = subst (λ v. IfSome v (λ row. (b : ℕ) → IsLike c.args.b b
        → AreVerdicts (shapes_of c.args.nodes.now) c.args.bodies.now b (λ m. get_or row.items m None)))
        c.in-Some.is c.in_ok-row.ensures.decided
