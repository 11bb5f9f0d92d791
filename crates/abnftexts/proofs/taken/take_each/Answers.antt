use Rattle.std.proofs.Common.{◌++◌, map, refl}
use Rattle.abnfblocks.specs.TextLines.{numbered}
use Rattle.abnftexts.specs.RulesGathered.{reported_rule, rules_gathered}
use Rattle.abnftexts.specs.TakenRules.{text_rows}
use Rattle.abnftexts.proofs.ClearLinesLemmas.{kept-clear}
use Rattle.abnftexts.proofs.ExpandedLinesLemmas.{expanded-clear}
use Rattle.abnftexts.proofs.PlacedRulesLemmas.{alone-back, alone-front, found-alone}
use Rattle.abnftexts.proofs.RulesTakenLemmas.{found-all, lines-from, lines-taken, no_rule-more, rule-more}
use Rattle.abnftexts.proofs.taken.take_each.Goals as goal
use Rattle.abnftexts.proofs.taken.take_each.Goals.{in-Rule+in_ok-take_rule-in-Rule}
use Rattle.abnftexts.proofs.taken.take_each.Goals.{in-NotAbnf+in_ok-push_no_rule-in-NotAbnf}

pub loop-it-preserved : goal.loop-it-preserved
loop-it-preserved c = λ text lists front back keeps written are end more.
    let rows = text_rows c.args.text.now in
    let kept = c.args.text.now.kept.items in
    let lines = c.args.text.now.lines.items in
    let found = c.args.found.now in
    let alone = alone-front found back
    (alone-back front (found ++ back) (found-alone (expanded-clear (kept-clear text keeps) written) are refl)) in
    elim c.match-it.branch [
      | in-Rule+in_ok-take_rule-in-Rule w ↦ c.loop-it.invariant text lists front back keeps written are end
          (rule-more rows.asks rows.name rows.kept rows.lines c.args.found.now c.loop-it.it-index _ w.in-Rule.first
          w.in-Rule.count (map numbered w.items_after-sources.result.now) (map numbered w.items_after-rest.result.now)
          (rules_gathered c.loop-it.gathered) (rules_gathered w.take_rule.new.gathered) end c.loop-it-test.true
          w.in-Rule.is
          (lines-from kept w.items_after-sources.result.now w.in-Rule.first
          (rw w.deref.ensures.value at w.items_after-sources.ensures))
          (lines-from lines w.items_after-rest.result.now w.in-Rule.first
          (rw w.deref-in-Rule.ensures.value at w.items_after-rest.ensures)) alone
          w.in_ok-take_rule-in-Rule.ensures (rw w.gathered-is at more))
      | in-NotAbnf+in_ok-push_no_rule-in-NotAbnf w ↦ c.loop-it.invariant text lists front back keeps written are end
          (no_rule-more rows.asks rows.name rows.kept rows.lines c.args.found.now c.loop-it.it-index _
          w.in-NotAbnf.first w.in-NotAbnf.count w.in-NotAbnf.fault (map numbered w.items_before-lines.result.now)
          (rules_gathered c.loop-it.gathered) (map reported_rule w.push_no_rule.new.reported.items) end
          c.loop-it-test.true w.in-NotAbnf.is
          (lines-taken lines w.items_after.result.now w.items_before-lines.result.now
          w.in-NotAbnf.first w.in-NotAbnf.count
          (rw w.deref-in-NotAbnf.ensures.value at w.items_after.ensures) w.items_before-lines.ensures)
          w.in_ok-push_no_rule-in-NotAbnf.ensures (rw w.gathered-is at more))
    ]

pub returns : goal.returns
returns c = λ text lists front back keeps written are.
    let rows = text_rows c.args.text.now in
    c.loop-it.invariant text lists front back keeps written are (rules_gathered c.loop-it.gathered)
    (found-all rows.asks rows.name rows.kept rows.lines c.args.found.now c.loop-it.it-index
    (rules_gathered c.loop-it.gathered) c.loop-it-test.false)
