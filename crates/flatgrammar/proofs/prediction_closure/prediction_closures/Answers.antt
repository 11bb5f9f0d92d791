use Rattle.std.proofs.Common.{◌∙◌, ◌<◌, length, length-set, arith}
use Rattle.flatgrammar.proofs.InlinedLemmas.{read_at}
use Rattle.flatgrammar.proofs.PredictionClosureLemmas.{closures_none, closures_more, closures_done, owner_within}
use Rattle.flatgrammar.proofs.prediction_closure.prediction_closures.Goals as goal

pub loop-node-init : goal.loop-node-init
loop-node-init c = record {
  count = (let a = c.in_ok-closures.ensures.count in let b = c.len.ensures in let o = c.args.flat.now.nodes.ok.0 in
      omega (arith, a, b, o));
  made = closures_none c.args.flat.now c.args.inlines.now c.in_ok-closures.closures.items
      c.in_ok-closures.ensures.empty;
}

pub index_mut-requires : goal.index_mut-requires
index_mut-requires c =
    let below : c.loop-node.node < length c.args.flat.now.nodes.items =
    (let t = c.loop-node-test.true in let e = c.len-node-end.ensures in let o = c.args.flat.now.nodes.ok.0 in
    omega (arith, t, e, o)) in
    let lt = owner_within c.args.flat.now c.args.inlines.now c.loop-node.node c.requires below in
    let h = c.owner-prediction.ensures in
    let count = c.loop-node.invariant.count in
    let o = c.loop-node.closures.ok.0 in
    omega (arith, lt, h, count, o)

pub loop-node-preserved : goal.loop-node-preserved
loop-node-preserved c =
    let below : c.loop-node.node < length c.args.flat.now.nodes.items =
    (let t = c.loop-node-test.true in let e = c.len-node-end.ensures in let o = c.args.flat.now.nodes.ok.0 in
    omega (arith, t, e, o)) in
    let within = owner_within c.args.flat.now c.args.inlines.now c.loop-node.node c.requires below in
    let h = c.owner-prediction.ensures in
    let count = c.loop-node.invariant.count in
    let lt : c.owner-prediction.result < length c.loop-node.closures.items = omega (arith, within, h, count) in
    record {
      count = length-set c.loop-node.closures.items c.owner-prediction.result c.add_node.new.closure ∙ count;
      made = closures_more c.args.flat.now c.args.inlines.now c.loop-node.node c.owner-prediction.result
          c.loop-node.closures.items
          c.index_mut.result.now c.add_node.new.closure h lt
          (read_at c.loop-node.closures.items c.owner-prediction.result c.index_mut.result.now lt
          c.index_mut.ensures.value)
          c.in_ok-add_node.ensures c.loop-node.invariant.made;
    }

pub returns : goal.returns
returns c = closures_done c.args.flat.now c.args.inlines.now c.loop-node.node c.loop-node.closures.items
    (let t = c.loop-node-test.false in let e = c.len-node-end.ensures in let o = c.args.flat.now.nodes.ok.0 in
    omega (arith, t, e, o)) c.loop-node.invariant.made
