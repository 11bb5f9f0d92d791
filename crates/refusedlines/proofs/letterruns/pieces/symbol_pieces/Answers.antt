use Rattle.std.proofs.Common.{refl, sym}
use Rattle.refusedlines.specs.CoreSymbols.{core_sets}
use Rattle.refusedlines.specs.SymbolPieces.{pieces}
use Rattle.refusedlines.proofs.SymbolPiecesLemmas.{rule_named, rule_passed}
use Rattle.refusedlines.proofs.letterruns.pieces.symbol_pieces.Goals as goal
use Rattle.refusedlines.proofs.letterruns.pieces.symbol_pieces.Goals.{in-Some+in_ok-push, in_default}

pub loop-rule-init : goal.loop-rule-init
loop-rule-init c = rw (c.new-all.ensures.items, c.in_ok-rest.ensures) refl

pub loop-rule-preserved : goal.loop-rule-preserved
loop-rule-preserved c =
    let whole = pieces c.args.alphabet c.args.runs.now in
    elim c.match-branch-3.branch [
      | in-Some+in_ok-push w ↦
          (let found = rw w.in-Some.is at c.in_ok-less.ensures in
          let there = rw c.deref.ensures.value at found in
          rw (w.all-is, w.rest-is)
          (rule_named c.args.alphabet core_sets c.loop-rule.rule-index _ c.loop-rule.rest.items c.loop-rule-test.true
          c.loop-rule.all.items w.push.new.self.items whole w.in-Some.less.items (sym there) c.loop-rule.invariant
          w.in_ok-push.ensures.items))
      | in_default w ↦
          (let found = rw w.in_default.is at c.in_ok-less.ensures in
          let there = rw c.deref.ensures.value at found in
          rw (w.all-is, w.rest-is)
          (rule_passed c.args.alphabet core_sets c.loop-rule.rule-index _ c.loop-rule.rest.items c.loop-rule-test.true
          c.loop-rule.all.items whole (sym there) c.loop-rule.invariant))
    ]
