use Rattle.std.proofs.Common.{◌≤◌, ◌<◌, ◌∙◌, ap, arith, length}
use Rattle.std.proofs.lemmas.List.{length-drop}
use Rattle.abnftexts.specs.RulesGathered.{rules_gathered}
use Rattle.abnftexts.specs.TakenRules.{text_rows}
use Rattle.abnftexts.proofs.ValueRunsLemmas.{groups-end, groups-more}
use Rattle.abnftexts.proofs.taken.take_found.Goals as goal

pub loop-at-init : goal.loop-at-init
loop-at-init c = λ text lists keeps written are many enough end more. more

pub loop-at-preserved : goal.loop-at-preserved
loop-at-preserved c = λ text lists keeps written are many enough end more.
    let rows = text_rows c.args.text.now.rows in
    let found = rw c.deref.ensures.value at c.items_after-found.ensures in
    let group = rw found at c.items_before-group.ensures in
    let own = rw c.items_after-left.ensures at c.items_before-own.ensures in
    let within = rw found at c.run_size-size.ensures.within in
    let sizes = rw (found, c.items_after-marks.ensures, c.deref-in-loop-at.ensures.value)
    at c.run_size-size.ensures.group in
    let lt : c.loop-at.at < length c.args.text.now.found.items = grind arith in
    let takes = rw (group, own) at c.in_ok-take_group.ensures in
    c.loop-at.invariant text lists keeps written are many enough end
    (groups-more rows c.args.text.now.found.items c.args.sketches.now c.args.values.now text lists c.loop-at.at
    c.run_size-size.result (rules_gathered c.loop-at.gathered) (rules_gathered c.take_group.new.gathered) end keeps
    written are many enough lt within sizes takes more)

pub loop-at-smaller : goal.loop-at-smaller
loop-at-smaller c =
    let found = rw c.deref.ensures.value at c.items_after-found.ensures in
    let size = ap length found ∙ length-drop c.loop-at.at c.args.text.now.found.items in
    let lt : c.loop-at.at < length c.args.text.now.found.items = grind arith in
    let some = c.run_size-size.ensures.some (omega (arith, size, lt)) in
    omega (arith, size, lt, some)

pub returns : goal.returns
returns c = λ text lists keeps written are many enough.
    let rows = text_rows c.args.text.now.rows in
    let le : length c.args.text.now.found.items ≤ c.loop-at.at = grind arith in
    c.loop-at.invariant text lists keeps written are many enough (rules_gathered c.loop-at.gathered)
    (groups-end rows c.args.text.now.found.items c.args.sketches.now c.args.values.now c.loop-at.at
    (rules_gathered c.loop-at.gathered) le many enough)
