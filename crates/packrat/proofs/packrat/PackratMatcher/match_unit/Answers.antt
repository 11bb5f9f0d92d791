use Rattle.std.proofs.Common.{◌≡◌, ◌+◌, ◌*◌, ◌≤◌, length, slice_get, Some, subst, ap, arith}
use Rattle.std.proofs.lemmas.Nat.{mul-le}
use Rattle.packrat.specs.EventLog.{kept_at}
use Rattle.packrat.proofs.DoneLemmas.{outcome_of_match, answer_of_match, match_bounded}
use Rattle.packrat.proofs.packrat.PackratMatcher.match_unit.Goals as goal

pub returns-in-Ok-clause-answer : goal.returns-in-Ok-clause-answer
returns-in-Ok-clause-answer c =
    let at : slice_get c.args.peg.now.bodies c.args.peg.now.start ≡ Some c.body_node-root.result =
    subst (λ v. slice_get c.args.peg.now.bodies v ≡ Some c.body_node-root.result) c.start.ensures.id
    c.body_node-root.ensures in
    let matched = rw c.in-Ok.is at c.evaluate-matched.ensures in
    rw c.matched_unit.ensures
    (answer_of_match c.args.peg.now c.args.window.now c.start.ensures.sound c.args.more c.args.peg.now.keys
    c.start.ensures.keys c.body_node-root.result at (record {
      stored = c.evaluate-matched.new.self.log.stored;
      frames = c.evaluate-matched.new.self.frames;
      begun = c.evaluate-matched.new.self.begun;
      kept = kept_at c.evaluate-matched.new.self.events c.head_given-self-inside.result;
      matches = c.saturating_add-self-inside.result;
    }) c.in-Ok.given c.evaluate-matched.new.self.events
    (ap (kept_at c.evaluate-matched.new.self.events) c.head_given-self-inside.ensures) matched)

pub returns-in-Ok-clause-outcome : goal.returns-in-Ok-clause-outcome
returns-in-Ok-clause-outcome c =
    let at : slice_get c.args.peg.now.bodies c.args.peg.now.start ≡ Some c.body_node-root.result =
    subst (λ v. slice_get c.args.peg.now.bodies v ≡ Some c.body_node-root.result) c.start.ensures.id
    c.body_node-root.ensures in
    let matched = rw c.in-Ok.is at c.evaluate-matched.ensures in
    rw c.matched_unit.ensures
    (outcome_of_match c.args.peg.now c.args.window.now c.start.ensures.sound c.args.more c.args.peg.now.keys
    c.start.ensures.keys c.body_node-root.result at (record {
      stored = c.evaluate-matched.new.self.log.stored;
      frames = c.evaluate-matched.new.self.frames;
      begun = c.evaluate-matched.new.self.begun;
      kept = kept_at c.evaluate-matched.new.self.events c.head_given-self-inside.result;
      matches = c.saturating_add-self-inside.result;
    }) c.in-Ok.given c.evaluate-matched.new.self.events
    (ap (kept_at c.evaluate-matched.new.self.events) c.head_given-self-inside.ensures) matched)

pub returns-in-Ok-clause-bounded : goal.returns-in-Ok-clause-bounded
returns-in-Ok-clause-bounded c =
    let at : slice_get c.args.peg.now.bodies c.args.peg.now.start ≡ Some c.body_node-root.result =
    subst (λ v. slice_get c.args.peg.now.bodies v ≡ Some c.body_node-root.result) c.start.ensures.id
    c.body_node-root.ensures in
    let matched = rw c.in-Ok.is at c.evaluate-matched.ensures in
    match_bounded c.args.peg.now c.args.window.now c.start.ensures.sound c.args.more c.args.peg.now.keys
    c.start.ensures.keys c.body_node-root.result at (record {
      stored = c.evaluate-matched.new.self.log.stored;
      frames = c.evaluate-matched.new.self.frames;
      begun = c.evaluate-matched.new.self.begun;
      kept = kept_at c.evaluate-matched.new.self.events c.head_given-self-inside.result;
      matches = c.saturating_add-self-inside.result;
    }) c.in-Ok.given c.evaluate-matched.new.self.events
    (ap (kept_at c.evaluate-matched.new.self.events) c.head_given-self-inside.ensures) matched c.requires.some

pub evaluate-matched-requires-clause-fits : goal.evaluate-matched-requires-clause-fits
evaluate-matched-requires-clause-fits c =
    let nodes : length c.args.peg.now.nodes ≤ 4294967294 = omega arith in
    let bytes : length c.args.window.now + 1 ≤ 4294967295 = omega arith in
    let most : length c.args.peg.now.nodes * (length c.args.window.now + 1) ≤ 4294967294 * 4294967295 =
    mul-le (length c.args.peg.now.nodes) (length c.args.window.now + 1) 4294967294 4294967295 nodes bytes in
    omega (arith, most)
