use Rattle.std.proofs.Common.{◌∙◌, map, sym, subst, take, arith}
use Rattle.std.proofs.lemmas.List.{length-map, length-take-le, take-map}
use Rattle.std.proofs.lemmas.Result.{IfOk-weaker, MatchResult-weaker}
use Rattle.abnfcheck.specs.Prefixes.{IsFurthest}
use Rattle.ruletable.specs.Letters.{has}
use Rattle.lowering.proofs.LoweredLemmas.{ok_both}
use Rattle.refusedlines.specs.Following.{AreFollowing}
use Rattle.flatgrammar.specs.CalledParts.{AreAwaited}
use Rattle.refusedlines.proofs.CanFollowLemmas.{awaited_after, take_following}
use Rattle.refusedlines.proofs.following.find_following.Goals as goal

pub returns-clause-following : goal.returns-clause-following
returns-clause-following g c =
    let number = g.L.Letter.number in
    let x = map number c.args.line.now in
    let n = c.in_ok-after.after in
    let size = length-map c.args.line.now number in
    let within = c.in_ok-after.ensures.within in
    let long = length-take-le n c.args.line.now within in
    let made = c.find_after.ensures in
    let facts = ok_both c.find_after.result _ _ made.after made.following in
    MatchResult-weaker c.find_after.result facts (λ f is rules judged prefixes.
    subst (λ v. AreFollowing (has g.L.Letter.ALPHABET) rules judged x v f.runs.items f.ends) (sym (is.0 ∙ long))
    (take_following (has g.L.Letter.ALPHABET) rules judged x _ n _ _ _ (sym (take-map number n c.args.line.now))
    (omega (arith, within, size)) (sym (length-map _ number)) (is.1 rules judged prefixes)))
    (λ _ _. tt)

pub returns-clause-within : goal.returns-clause-within
returns-clause-within g c =
    let within = c.in_ok-after.ensures.within in
    let long = length-take-le c.in_ok-after.after c.args.line.now within in
    IfOk-weaker c.find_after.result _ _ (λ f at. omega (arith, at, long, within)) c.find_after.ensures.after

pub returns-clause-furthest : goal.returns-clause-furthest
returns-clause-furthest g c =
    let long = length-take-le c.in_ok-after.after c.args.line.now c.in_ok-after.ensures.within in
    IfOk-weaker c.find_after.result _ _ (λ f at rules judged prefixes.
    subst (λ v. IsFurthest (has g.L.Letter.ALPHABET) rules judged (map g.L.Letter.number c.args.line.now) v)
    (sym (at ∙ long)) (c.in_ok-after.ensures.furthest rules judged prefixes)) c.find_after.ensures.after

pub returns-clause-awaited : goal.returns-clause-awaited
returns-clause-awaited g c =
    let number = g.L.Letter.number in
    let n = c.in_ok-after.after in
    let within = c.in_ok-after.ensures.within in
    let long = length-take-le n c.args.line.now within in
    let made = c.find_after.ensures in
    let facts = ok_both c.find_after.result _ _ made.after made.awaited in
    MatchResult-weaker c.find_after.result facts (λ f is.
    subst (λ v. AreAwaited c.args.flat.now (take v (map number c.args.line.now)) v f.awaited.items) (sym (is.0 ∙ long))
    (awaited_after number c.args.line.now n c.args.flat.now f.awaited.items within is.1))
    (λ _ _. tt)
