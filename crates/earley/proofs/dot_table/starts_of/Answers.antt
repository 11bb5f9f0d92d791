use Rattle.std.proofs.Common.{◌≡◌, subst, arith}
use Rattle.flatgrammar.specs.ItemClosures.{begin_count}
use Rattle.earley.specs.DotTables.{AreFirstPositions}
use Rattle.earley.proofs.DotTableLemmas.{first_none, first_next}
use Rattle.earley.proofs.dot_table.starts_of.Goals as goal

pub loop-step-init : goal.loop-step-init
loop-step-init c = rw c.new-starts.ensures.items (first_none c.args.numbers.now.dots.items c.args.target)

pub loop-step-preserved : goal.loop-step-preserved
loop-step-preserved c = rw c.in_ok-push.ensures.items (first_next c.args.numbers.now.dots.items c.args.target
    c.loop-step.step _ c.loop-step.starts.items c.loop-step.invariant c.in-Some.ensures)

pub returns : goal.returns
returns c =
    let le = c.loop-step.auto.step-end in
    let over = c.loop-step-test.false in
    let n = c.begin_steps-step-end.ensures in
    let same : c.loop-step.step ≡ begin_count c.args.flat.now c.args.target = omega (arith, le, over, n) in
    subst (λ v. AreFirstPositions c.args.numbers.now.dots.items c.args.target v c.loop-step.starts.items) same
    c.loop-step.invariant
