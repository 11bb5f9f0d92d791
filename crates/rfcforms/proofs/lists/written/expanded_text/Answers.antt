use Rattle.std.proofs.Common.{◌≡◌, ◌<◌, [], append-nil, arith, length, subst, List, ℕ}
use Rattle.std.proofs.lemmas.Bool.Decides.{nat_tests}
use Rattle.rfcforms.specs.Lists.{Expands}
use Rattle.rfcforms.proofs.ListLemmas.{nothing-written, part-less, part-more}
use Rattle.rfcforms.proofs.lists.written.expanded_text.Goals as goal

pub loop-rest-preserved : goal.loop-rest-preserved
loop-rest-preserved c =
    let some : 0 < length c.loop-rest.rest.now = grind (arith, nat_tests) in
    part-more c.args.form c.args.text.now c.loop-rest.rest.now c.loop-rest.new.items c.push_part.new.out.items
    c.in_ok-rest.rest.now some c.in_ok-rest.ensures c.loop-rest.invariant

pub loop-rest-smaller : goal.loop-rest-smaller
loop-rest-smaller c =
    let some : 0 < length c.loop-rest.rest.now = grind (arith, nat_tests) in
    part-less c.args.form c.loop-rest.rest.now c.in_ok-rest.rest.now some
    c.in_ok-rest.ensures.1

pub returns : goal.returns
returns c =
    let none : length c.loop-rest.rest.now ≡ 0 = grind (arith, nat_tests) in
    subst (λ (xs : List ℕ). Expands c.args.form c.args.text.now xs) (append-nil c.loop-rest.new.items)
    (c.loop-rest.invariant [] (nothing-written c.args.form c.loop-rest.rest.now none))
