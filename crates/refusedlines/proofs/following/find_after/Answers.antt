use Rattle.std.proofs.Common.{map, length, sym, subst, arith}
use Rattle.std.proofs.lemmas.List.{length-map}
use Rattle.earleyitems.specs.ChartSets.{set_at, AreDotsOf}
use Rattle.ruletable.specs.Letters.{has}
use Rattle.refusedlines.specs.Following.{AreFollowing}
use Rattle.refusedlines.proofs.CanFollowLemmas.{are_following, readers_of_set}
use Rattle.refusedlines.proofs.following.find_after.Goals as goal

pub returns-clause-following : goal.returns-clause-following
returns-clause-following g c = λ rules judged prefixes.
    let x = map g.L.Letter.number c.args.line.now in
    let size = length-map c.args.line.now g.L.Letter.number in
    let short = c.requires in
    let flat = c.args.flat.now in
    let readers = readers_of_set flat x (length x) _ (c.in_ok-ends.ensures.sets (length x)) c.in_ok-dots.dots.items
    (subst (λ v. AreDotsOf (set_at c.judge_within_budget.new.chart v) c.in_ok-dots.dots.items) (sym size)
    c.in_ok-dots.ensures) in
    subst (λ v. AreFollowing (has g.L.Letter.ALPHABET) rules judged x v c.in_ok-runs.runs.items c.in_ok-ends.ends) size
    (are_following (has g.L.Letter.ALPHABET) rules judged flat prefixes x (omega (arith, short, size))
    c.values_are_letters.ensures c.in_ok-dots.dots.items readers
    c.in_ok-runs.runs.items c.in_ok-ends.ends
    c.in_ok-runs.ensures.apart (rw (c.ALPHABET.ensures, c.deref.ensures.value) at c.in_ok-runs.ensures.letters)
    c.in_ok-ends.ensures.answer)

pub returns-clause-awaited : goal.returns-clause-awaited
returns-clause-awaited g c =
    let x = map g.L.Letter.number c.args.line.now in
    let n = length c.args.line.now in
    c.in_ok-awaited.ensures x (c.in_ok-ends.ensures.sets n)
