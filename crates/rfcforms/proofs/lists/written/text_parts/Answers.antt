use Rattle.std.proofs.Common.{◌≡◌, ◌∙◌, ◌<◌, [], ap, append-nil, arith, length, map, subst, take, List, ℕ}
use Rattle.std.proofs.lemmas.Bool.Decides.{nat_tests}
use Rattle.rfcforms.specs.Lists.{CutsLines}
use Rattle.rfcforms.proofs.ListLemmas.{cut-less, cut-more, no-line}
use Rattle.rfcforms.proofs.lists.written.text_parts.Goals as goal

pub loop-rest-preserved : goal.loop-rest-preserved
loop-rest-preserved c =
    let some : 0 < length c.loop-rest.rest.now = grind (arith, nat_tests) in
    cut-more c.args.text.now c.loop-rest.rest.now c.items_after-rest.result.now c.line_size-size.result
    c.items_before.result c.loop-rest.parts.items c.push.new.self.items some c.line_size-size.ensures
    (c.items_before.ensures ∙ ap (λ (n : ℕ). take n c.loop-rest.rest.now) c.saturating_sub.ensures)
    c.items_after-rest.ensures c.in_ok-push.ensures.items c.loop-rest.invariant

pub loop-rest-smaller : goal.loop-rest-smaller
loop-rest-smaller c =
    let some : 0 < length c.loop-rest.rest.now = grind (arith, nat_tests) in
    cut-less c.loop-rest.rest.now c.items_after-rest.result.now c.line_size-size.result some
    c.line_size-size.ensures c.items_after-rest.ensures

pub returns : goal.returns
returns c =
    let none : length c.loop-rest.rest.now ≡ 0 = grind (arith, nat_tests) in
    subst (λ (xs : List (List ℕ)). CutsLines c.args.text.now xs) (append-nil (map (λ p. p.now) c.loop-rest.parts.items))
    (c.loop-rest.invariant [] (no-line c.loop-rest.rest.now none))
