-- The needs of one more rule.
use Rattle.std.proofs.Common.{arith}
use Rattle.std.proofs.lemmas.List.{length-map, map-set}
use Rattle.fixpoint.specs.Demands.{owned_demand_of, owned_demands_of}
use Rattle.abnfread.specs.AbnfViews.{element_of, rule_of, rules_of}
use Rattle.abnfcheck.proofs.NameIdsLemmas.{body_shown}
use Rattle.abnfcheck.proofs.ElementNeedsLemmas.{next_rule, room_for_rule, some_test}
use Rattle.abnfcheck.proofs.rule_marks.rule_needs.Goals as goal

pub loop-id-preserved : goal.loop-id-preserved
loop-id-preserved c = λ has test.
    rw (map-set, c.in_ok-needs-2.ensures)
    (next_rule has (rules_of c.args.rules.now) c.args.aim (owned_demands_of c.loop-id.needs.items)
    (owned_demands_of c.add_needs.new.needs.items) c.loop-id.id c.in_ok-n.n (element_of c.body.result.now)
    (let lt = c.loop-id-test.true in let n = c.len-id-end.ensures.len in let l =
    length-map c.args.rules.now.rules rule_of in omega (arith, lt, n, l))
    (body_shown c.args.rules.now.rules c.loop-id.id c.body.result.now c.body.ensures) (c.loop-id.invariant has test)
    (c.in_ok-n.ensures has test))

pub returns-clause-within : goal.returns-clause-within
returns-clause-within c = let s = some_test c.args.aim in (c.loop-id.invariant s.0 s.1).within

pub returns-clause-fits : goal.returns-clause-fits
returns-clause-fits c = let s = some_test c.args.aim in (c.loop-id.invariant s.0 s.1).fits

pub index_mut-requires : goal.index_mut-requires
index_mut-requires c =
    let s = some_test c.args.aim in
    let lt = c.loop-id-test.true in let n = c.len-id-end.ensures.len in let l =
    length-map c.args.rules.now.rules rule_of in
    let room = room_for_rule s.0 (rules_of c.args.rules.now) c.args.aim (owned_demands_of c.loop-id.needs.items)
    (owned_demands_of c.add_needs.new.needs.items) c.loop-id.id c.in_ok-n.n
    (element_of c.body.result.now) (omega (arith, lt, n, l)) (c.loop-id.invariant s.0 s.1)
    (c.in_ok-n.ensures s.0 s.1) in
    let k = length-map c.add_needs.new.needs.items owned_demand_of in omega (arith, room, k)
