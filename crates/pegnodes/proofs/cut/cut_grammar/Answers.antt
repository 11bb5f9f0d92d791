use Rattle.std.proofs.Common.{◌≡◌, ◌∙◌, length, sym, arith}
use Rattle.std.proofs.lemmas.List.{length-map}
use Rattle.pegread.specs.PegViews.{rule_of, rules_of}
use Rattle.pegnodes.specs.Nodes.{shape_of}
use Rattle.pegnodes.proofs.AreBodiesLemmas.{all_listed, none_cut, next_cut, bodies_of_cut, nodes_of_cut, none_listed}
use Rattle.pegnodes.proofs.AreBodiesLemmas.{are_named, next_listed}
use Rattle.pegnodes.proofs.cut.cut_grammar.Goals as goal

pub loop-id-init : goal.loop-id-init
loop-id-init c = (
  none_cut _ _ _ c.new-nodes.ensures.items c.new-bodies.ensures.items,
  none_listed _ _ _ c.new-nodes.ensures.items c.new-bodies.ensures.items,
)

pub loop-id-preserved : goal.loop-id-preserved
loop-id-preserved c = rw (c.in_ok-push.ensures.items) (
  next_cut _ _ _ _ _ _ _ c.loop-id.invariant.0 c.body.ensures c.in_ok-n.ensures,
  next_listed _ _ _ _ _ _ _ c.loop-id.invariant.1 c.body.ensures c.in_ok-n.ensures,
)

pub returns-clause-numbered : goal.returns-clause-numbered
returns-clause-numbered c =
    let count = length-map c.args.rules.now.rules rule_of in
    let all : c.loop-id.id ≡ length (rules_of c.args.rules.now) = omega (arith, count, c.len-id-end.ensures.len) in
    all_listed _ _ _ _ c.loop-id.invariant.1 all

pub returns-clause-bodies : goal.returns-clause-bodies
returns-clause-bodies c =
    let count = length-map c.args.rules.now.rules rule_of in
    let all : c.loop-id.id ≡ length (rules_of c.args.rules.now) = omega (arith, count, c.len-id-end.ensures.len) in
    bodies_of_cut _ _ _ _ c.loop-id.invariant.0 all

pub returns-clause-built : goal.returns-clause-built
returns-clause-built c = c.loop-id.invariant.0.built

pub returns-clause-counted : goal.returns-clause-counted
returns-clause-counted c =
    let count = length-map c.args.rules.now.rules rule_of in
    let shapes = length-map c.loop-id.nodes.items shape_of in
    let all : c.loop-id.id ≡ length (rules_of c.args.rules.now) = omega (arith, count, c.len-id-end.ensures.len) in
    sym shapes ∙ nodes_of_cut _ _ _ _ c.loop-id.invariant.1 all

pub returns-clause-named : goal.returns-clause-named
returns-clause-named c =
    rw (length-map c.args.rules.now.rules rule_of) at (are_named _ _ c.loop-id.invariant.0.standing)

pub returns-clause-standing : goal.returns-clause-standing
returns-clause-standing c = c.loop-id.invariant.0.standing
