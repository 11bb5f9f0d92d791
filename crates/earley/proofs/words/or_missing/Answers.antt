-- The words of the window are done, and the others stay.
use Rattle.std.proofs.Common.{◌≡◌, ◌+◌, ◌<◌, ◌≤◌, ◌⊎◌, subst, sym, arith, length}
use Rattle.earley.proofs.WordInLemmas.{missing_each}
use Rattle.earley.proofs.words.or_missing.Goals as goal

pub returns-clause-or : goal.returns-clause-or
returns-clause-or c =
    let all : c.loop-i.i ≡ length c.args.more.now =
    (let end = c.loop-i.auto.i-end in let test = c.loop-i-test.false in omega (arith, end, test)) in
    missing_each c.args.words.now c.loop-i.words c.args.more.now c.args.known.now c.args.at c.args.known_at
    c.requires.room (λ n lt. c.loop-i.invariant.done n (omega (arith, lt, all)))
    (λ n out. c.loop-i.invariant.rest n (subst (λ v. (n < c.args.at) ⊎ (c.args.at + v ≤ n)) (sym all) out))

pub returns-clause-known : goal.returns-clause-known
returns-clause-known c n = (c.type_inv.known n).fits
