use Rattle.std.proofs.Common.{ap, map}
use Rattle.abnftexts.specs.CodeUses.{name_used}
use Rattle.abnftexts.specs.RulesGathered.{lines_placed}
use Rattle.abnftexts.proofs.JoinedGrammarLemmas.{position-there, no_position-there}
use Rattle.abnftexts.proofs.UndefinedLemmas.{no_position-used, position-used, uses-done}
use Rattle.abnftexts.proofs.uses.uses_in.Goals as goal
use Rattle.abnftexts.proofs.uses.uses_in.Goals.{in-Some+in_ok-push_uses, in_default}

pub loop-number-preserved : goal.loop-number-preserved
loop-number-preserved c = λ more rest.
    let positions = map lines_placed c.args.positions.now in
    elim c.match-get.branch [
      | in-Some+in_ok-push_uses w ↦ position-used positions c.args.order.now c.loop-number.number-index
          (lines_placed w.in-Some.position.now) (map name_used c.loop-number.uses.items)
          (map name_used c.match-get.uses.items) more c.loop-number-test.true
          (position-there c.args.positions.now _ w.in-Some.position.now w.in-Some.ensures.lookup.0
          w.in-Some.ensures.lookup.1)
          (rw w.uses-is w.in_ok-push_uses.ensures) c.loop-number.invariant rest
      | in_default w ↦ no_position-used positions c.args.order.now c.loop-number.number-index
          (map name_used c.loop-number.uses.items) (map name_used c.match-get.uses.items) more c.loop-number-test.true
          (no_position-there c.args.positions.now _ w.in_default.ensures.lookup.0)
          (ap (λ v. map name_used v.items) w.uses-is) c.loop-number.invariant rest
    ]

pub returns : goal.returns
returns c = uses-done (map lines_placed c.args.positions.now) c.args.order.now c.loop-number.number-index
    (map name_used c.loop-number.uses.items) c.loop-number-test.false c.loop-number.invariant
