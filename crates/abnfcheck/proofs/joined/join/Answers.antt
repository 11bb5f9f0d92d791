use Rattle.std.proofs.Common.{arith}
use Rattle.abnfcheck.proofs.JoinLemmas as o
use Rattle.abnfcheck.proofs.joined.join.Goals as goal

pub loop-id-init : goal.loop-id-init
loop-id-init c = o.none_joined _ _

pub take_body-body-requires : goal.take_body-body-requires
take_body-body-requires c = let lt = c.loop-id-test.true in let l = c.loop-id.invariant.count in let n =
    c.len-id-end.ensures.len in omega (arith, lt, l, n)

pub name-requires : goal.name-requires
name-requires c = let lt = c.loop-id-test.true in let l = c.loop-id.invariant.count in let n =
    c.len-id-end.ensures.len in let t = o.length_taken c.take_body-body.ensures.rest in omega (arith, lt, l, n, t)

pub span-requires : goal.span-requires
span-requires c = let lt = c.loop-id-test.true in let l = c.loop-id.invariant.count in let n =
    c.len-id-end.ensures.len in let t = o.length_taken c.take_body-body.ensures.rest in omega (arith, lt, l, n, t)

pub loop-id-preserved : goal.loop-id-preserved
loop-id-preserved c = o.join_next _ c.loop-id.invariant c.take_body-body.ensures.body
    c.take_body-body.ensures.rest c.name.ensures c.span.ensures c.in_ok-define.ensures.defines

pub returns : goal.returns
returns c = o.all_joined _ _ _ _ _ c.loop-id.invariant (let le = c.loop-id.auto.id-end in let n =
    c.len-id-end.ensures.len in let over = c.loop-id-test.false in omega (arith, le, n, over))
