use Rattle.std.proofs.Common.{◌∙◌, length, arith}
use Rattle.pegnodes.specs.Nodes.{shapes_of}
use Rattle.pegread.specs.PegViews.{rules_of}
use Rattle.ruletable.specs.Rules as table
use Rattle.matchfailure.specs.ReportOrder.{entry_text}
use Rattle.matchfailure.proofs.EachOnceLemmas.{fits-more, key-at, once-added, once-duplicate, once-done}
use Rattle.matchfailure.proofs.explain.order.each_once.Goals as goal
use Rattle.matchfailure.proofs.explain.order.each_once.Goals.{in-Added+in_ok-push-in-Added, in-Duplicate}

pub entry_text-requires-clause-node : goal.entry_text-requires-clause-node
entry_text-requires-clause-node c = (c.requires.fitting _ (
  c.loop-key.key-index,
  key-at c.args.keys.now c.loop-key.key-index
      c.loop-key-test.true,
)).0

pub entry_text-requires-clause-begin : goal.entry_text-requires-clause-begin
entry_text-requires-clause-begin c = (c.requires.fitting _ (
  c.loop-key.key-index,
  key-at c.args.keys.now c.loop-key.key-index
      c.loop-key-test.true,
)).1

pub loop-key-preserved : goal.loop-key-preserved
loop-key-preserved c =
    let text = entry_text (rules_of c.args.peg.now.rules) c.args.peg.now.start (shapes_of c.args.peg.now.nodes)
    c.args.peg.now.bodies c.args.unit c.args.position in
    let named = c.deref.ensures.value ∙ c.in_ok-text.ensures in
    let rule : table.Rule (Unit {0}) =
    record { name = c.deref.result.now; body = tt; span = record { start = 0; end = 0 } } in
    elim c.match-branch-3.branch [
      | in-Added+in_ok-push-in-Added w ↦ let both = once-added text c.args.keys.now c.loop-key.texts
          c.define.new.self rule
          c.loop-key.invariant.exact c.loop-key.reported.items c.loop-key.key-index c.loop-key-test.true
          c.loop-key.invariant.reported named _ (rw w.in-Added.is at c.in_ok-define.ensures.defines) _
          w.in_ok-push-in-Added.ensures.items in
          record {
            exact = both.0;
            reported = rw w.reported-is both.1;
            fit = rw (w.reported-is, w.in_ok-push-in-Added.ensures.items)
                (fits-more (length c.args.peg.now.nodes) c.args.unit
                c.loop-key.reported.items _ c.loop-key.invariant.fit
                (c.requires.fitting _ (
                  c.loop-key.key-index,
                  key-at c.args.keys.now c.loop-key.key-index
                      c.loop-key-test.true,
                )));
          }
      | in-Duplicate w ↦ let both = once-duplicate text c.args.keys.now c.loop-key.texts c.define.new.self rule
          c.loop-key.invariant.exact c.loop-key.reported.items c.loop-key.key-index c.loop-key-test.true
          c.loop-key.invariant.reported named _ (rw w.in-Duplicate.is at c.in_ok-define.ensures.defines) in
          record {
            exact = both.0;
            reported = rw w.reported-is both.1;
            fit = rw w.reported-is c.loop-key.invariant.fit;
          }
    ]

pub returns-clause-reported : goal.returns-clause-reported
returns-clause-reported c =
    let text = entry_text (rules_of c.args.peg.now.rules) c.args.peg.now.start (shapes_of c.args.peg.now.nodes)
    c.args.peg.now.bodies c.args.unit c.args.position in
    let over = c.loop-key-test.false in
    once-done text c.args.keys.now _ c.loop-key.reported.items c.loop-key.key-index (omega (arith, over))
    c.loop-key.invariant.reported
