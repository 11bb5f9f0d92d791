use Rattle.std.proofs.Common.{◌∙◌, ap, map, option_map, Option}
use Rattle.std.specs.Borrow.{Bor}
use Rattle.abnftexts.specs.RulesGathered.{lines_placed}
use Rattle.abnftexts.specs.declared.gathered.RulePosition.{RulePosition}
use Rattle.abnftexts.proofs.JoinedGrammarLemmas.{position-printed, no_position-printed, position-there}
use Rattle.abnftexts.proofs.JoinedGrammarLemmas.{no_position-there}
use Rattle.abnftexts.proofs.printed.printed_text.Goals as goal
use Rattle.abnftexts.proofs.printed.printed_text.Goals.{in-Some+in_ok-push_printed, in_default}

pub loop-number-preserved : goal.loop-number-preserved
loop-number-preserved c = elim c.match-get.branch [
  | in-Some+in_ok-push_printed w ↦ position-printed (map lines_placed c.args.positions.now) c.args.order.now
      c.loop-number.number-index _ _
      (lines_placed w.in-Some.position.now) c.loop-number.out.items c.match-get.out.items _
      c.loop-number-test.true
      (position-there c.args.positions.now _ w.in-Some.position.now w.in-Some.ensures.lookup.0
      w.in-Some.ensures.lookup.1)
      (ap (λ (o : Option (Bor RulePosition)). option_map (λ p. lines_placed p.now) o) w.before-is)
      (ap (λ v. v.items) w.out-is ∙ w.in_ok-push_printed.ensures) c.loop-number.invariant
  | in_default w ↦ no_position-printed (map lines_placed c.args.positions.now) c.args.order.now
      c.loop-number.number-index _ _ c.loop-number.out.items c.match-get.out.items _ c.loop-number-test.true
      (no_position-there c.args.positions.now _ w.in_default.ensures.lookup.0)
      (ap (λ (o : Option (Bor RulePosition)). option_map (λ p. lines_placed p.now) o) w.before-is)
      (ap (λ v. v.items) w.out-is) c.loop-number.invariant
]
