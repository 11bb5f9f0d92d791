use Rattle.std.proofs.Common.{◌≡◌, ◌↔◌, ℕ, Contains, ◌∙◌, subst}
use Rattle.earley.proofs.row_fill.fill_rows.Goals as goal

pub loop-iteration-init : goal.loop-iteration-init
loop-iteration-init c = record { keeps = λ a h. h; worklist = λ line earlier begun. begun }

pub loop-iteration-preserved : goal.loop-iteration-preserved
loop-iteration-preserved c = record {
  keeps = λ a h. c.in_ok-done.ensures.keeps a (c.loop-iteration.invariant.keeps a h);
  worklist = λ line earlier begun. c.in_ok-done.ensures.worklist line earlier
      (c.loop-iteration.invariant.worklist line earlier begun);
}

pub returns-then-done-clause-keeps : goal.returns-then-done-clause-keeps
returns-then-done-clause-keeps c = λ a h. c.in_ok-done.ensures.keeps a (c.loop-iteration.invariant.keeps a h)

pub returns-then-done-clause-worklist : goal.returns-then-done-clause-worklist
returns-then-done-clause-worklist c = λ line earlier begun.
    c.in_ok-done.ensures.worklist line earlier (c.loop-iteration.invariant.worklist line earlier begun)

pub returns-then-done-clause-none : goal.returns-then-done-clause-none
returns-then-done-clause-none c = c.in_ok-done.ensures.none c.if-done.true

pub work_once-requires-clause-begun : goal.work_once-requires-clause-begun
work_once-requires-clause-begun c = (
  c.requires.begun.0,
  c.requires.begun.1,
  c.loop-iteration.invariant.worklist c.requires.begun.0 c.requires.begun.1 c.requires.begun.2,
)

pub work_once-requires-clause-here : goal.work_once-requires-clause-here
work_once-requires-clause-here c = subst (λ n. (k : ℕ) → Contains c.in_ok-here.here k ↔ (k ≡ n))
    (c.len.ensures ∙ c.args.filled.now.sets.ok.0) c.in_ok-here.ensures
