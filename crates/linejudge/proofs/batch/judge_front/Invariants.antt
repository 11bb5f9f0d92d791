-- The lines before `len` have been judged, and their answers are the text.
use Rattle.std.proofs.Common.{◌≡◌, ◌+◌, ◌-◌, ◌≤◌, ◌++◌, length, drop, ℕ, List}
use Rattle.toolrun.specs.Input.{Input}
use Rattle.linejudge.specs.LineSteps.{AddsLines}
use Rattle.linejudge.proofs.batch.judge_front.Given as goal

abbrev pub invariant-loop-len : goal.invariant-loop-len
invariant-loop-len g l = record {
  work : g.J.Judge.works_in l.judge l.work;
  position : l.next.position ≡ l.at.position + l.len;
  within : l.len ≤ length l.front;
  counted : l.next.count ≤ l.next.position;
  refused : l.next.refused ≤ l.next.count;
  goes_on : (input : Input) (rest : List ℕ) → drop l.at.position input.bytes ≡ l.front ++ rest →
      AddsLines (g.J.Judge.reported l.judge) (g.J.Judge.explains l.judge) (g.J.Judge.refusal l.judge) l.form input l.at
      l.next l.text.items;
}

abbrev pub decreases-loop-len : goal.decreases-loop-len
decreases-loop-len g l = length l.front - l.len
