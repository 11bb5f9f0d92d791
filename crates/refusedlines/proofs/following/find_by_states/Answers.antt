use Rattle.std.proofs.Common.{◌≡◌, map, subst, arith}
use Rattle.std.proofs.lemmas.List.{length-map}
use Rattle.std.specs.Prelude.{IfSome}
use Rattle.ruletable.specs.Letters.{has}
use Rattle.lazydfa.specs.ExpectedSets.{IsExpected}
use Rattle.refusedlines.proofs.CanFollowLemmas.{awaited_after, following_of_set, last_is_furthest}
use Rattle.refusedlines.proofs.following.find_by_states.Goals as goal

pub returns-clause-furthest : goal.returns-clause-furthest
returns-clause-furthest g c = λ rules judged prefixes.
    let x = map g.L.Letter.number c.args.line.now in
    let size = length-map c.args.line.now g.L.Letter.number in
    let short = c.requires.within in
    let same = subst (λ v. IfSome v (λ a. a ≡ c.args.flat.now)) c.in-Some.is c.requires.flat in
    let reported = subst (λ v. IsExpected v x c.in-Ok-Some.reported) same
    (subst (λ v. IfSome v (IsExpected c.in-Some.states x)) c.in-Ok-Some.field-0-is c.in-Ok-Some.ensures.reported) in
    last_is_furthest (has g.L.Letter.ALPHABET) rules judged c.args.flat.now prefixes x c.in-Ok-Some.reported.after
    (omega (arith, short, size)) c.values_are_letters.ensures reported.last

pub returns-clause-following : goal.returns-clause-following
returns-clause-following g c = λ rules judged prefixes.
    let x = map g.L.Letter.number c.args.line.now in
    let size = length-map c.args.line.now g.L.Letter.number in
    let short = c.requires.within in
    let same = subst (λ v. IfSome v (λ a. a ≡ c.args.flat.now)) c.in-Some.is c.requires.flat in
    let reported = subst (λ v. IsExpected v x c.in-Ok-Some.reported) same
    (subst (λ v. IfSome v (IsExpected c.in-Some.states x)) c.in-Ok-Some.field-0-is c.in-Ok-Some.ensures.reported) in
    following_of_set (has g.L.Letter.ALPHABET) rules judged c.args.flat.now prefixes x c.in-Ok-Some.reported.after
    (omega (arith, short, size)) c.values_are_letters.ensures reported.last.within c.in-Ok-Some.reported.dots.items
    reported.readers c.in_ok-runs.runs.items c.in-Ok-Some.reported.ends c.in_ok-runs.ensures.apart
    (rw (c.ALPHABET.ensures, c.deref.ensures.value) at c.in_ok-runs.ensures.letters) reported.end

pub returns-clause-awaited : goal.returns-clause-awaited
returns-clause-awaited g c =
    let x = map g.L.Letter.number c.args.line.now in
    let size = length-map c.args.line.now g.L.Letter.number in
    let same = subst (λ v. IfSome v (λ a. a ≡ c.args.flat.now)) c.in-Some.is c.requires.flat in
    let reported = subst (λ v. IsExpected v x c.in-Ok-Some.reported) same
    (subst (λ v. IfSome v (IsExpected c.in-Some.states x)) c.in-Ok-Some.field-0-is c.in-Ok-Some.ensures.reported) in
    let within = reported.last.within in
    awaited_after g.L.Letter.number c.args.line.now c.in-Ok-Some.reported.after c.args.flat.now
    c.in_ok-awaited.awaited.items (omega (arith, within, size)) c.in_ok-awaited.ensures.awaited
