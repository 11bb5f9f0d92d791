use Rattle.std.proofs.Common.{map, length, subst}
use Rattle.std.specs.Prelude.{IfSome}
use Rattle.std.proofs.lemmas.Result.{IfOk-weaker}
use Rattle.flatgrammar.specs.CalledParts.{AreAwaited}
use Rattle.refusedlines.proofs.following.find_awaited.Goals as goal

pub returns-in-Ok-Some-clause-awaited : goal.returns-in-Ok-Some-clause-awaited
returns-in-Ok-Some-clause-awaited g c =
    let x = map g.L.Letter.number c.args.prefix.now in
    let n = length c.args.prefix.now in
    subst (λ v. AreAwaited v x n c.in-Ok-Some.dots.items) c.requires.flat
    (subst (λ v. IfSome v (λ dots. AreAwaited c.args.states.now x n dots.items)) c.in-Ok-Some.field-0-is
    c.in-Ok-Some.ensures.parts)

pub returns-clause-awaited : goal.returns-clause-awaited
returns-clause-awaited g c =
    let x = map g.L.Letter.number c.args.prefix.now in
    let n = length c.args.prefix.now in
    IfOk-weaker c.awaited_at.result _ _ (λ dots are. are x (c.in_ok-_ends.ensures.sets n)) c.awaited_at.ensures
