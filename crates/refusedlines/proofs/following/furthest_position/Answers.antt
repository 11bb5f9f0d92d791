use Rattle.std.proofs.Common.{map, subst, arith}
use Rattle.std.proofs.lemmas.List.{length-map}
use Rattle.abnfcheck.specs.Prefixes.{IsFurthest}
use Rattle.flatgrammar.specs.FlatVerdicts.{IsFlatVerdict}
use Rattle.ruletable.specs.Letters.{has}
use Rattle.lowering.specs.Verdicts.{IsVerdict}
use Rattle.refusedlines.proofs.CanFollowLemmas.{derived_is_furthest}
use Rattle.refusedlines.proofs.following.furthest_position.Goals as goal

pub returns-in-Yes-clause-furthest : goal.returns-in-Yes-clause-furthest
returns-in-Yes-clause-furthest g c = λ rules judged prefixes.
    let test = has g.L.Letter.ALPHABET in
    let x = map g.L.Letter.number c.args.line.now in
    let short = c.requires in
    let size = length-map c.args.line.now g.L.Letter.number in
    subst (λ n. IsFurthest test rules judged x n) size
    (derived_is_furthest test rules judged x
    (subst (λ v. IsVerdict test rules judged x v) c.in-Yes.is
    (c.items_decide.ensures.verdict test rules judged c.args.flat.now x c.in_ok-verdict_within_budget.field-0 prefixes
    (omega (arith, short, size)) c.values_are_letters.ensures c.in_ok-verdict_within_budget.ensures)))

pub returns-in-No-clause-furthest : goal.returns-in-No-clause-furthest
returns-in-No-clause-furthest g c = λ rules judged prefixes.
    let test = has g.L.Letter.ALPHABET in
    let x = map g.L.Letter.number c.args.line.now in
    let short = c.requires in
    let size = length-map c.args.line.now g.L.Letter.number in
    (subst (λ v. IsVerdict test rules judged x v) c.in-No.is
    (c.items_decide.ensures.verdict test rules judged c.args.flat.now x c.in_ok-verdict_within_budget.field-0 prefixes
    (omega (arith, short, size)) c.values_are_letters.ensures c.in_ok-verdict_within_budget.ensures)).1

pub returns-in-No-clause-within : goal.returns-in-No-clause-within
returns-in-No-clause-within g c =
    let x = map g.L.Letter.number c.args.line.now in
    let size = length-map c.args.line.now g.L.Letter.number in
    let verdict = c.in_ok-verdict_within_budget.ensures in
    let within = (subst (λ v. IsFlatVerdict c.args.flat.now x v) c.in-No.is verdict).1.within in
    omega (arith, within, size)
