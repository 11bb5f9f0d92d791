-- The line goes on with one more byte.
use Rattle.std.proofs.Common.{◌∙◌, ◌++◌, ap, arith, map, rules, List, ℕ}
use Rattle.findings.proofs.LinesContinuedLemmas.{lines_go_on, rest_goes_on}
use Rattle.findings.proofs.lines.text_lines.Goals as goal

pub loop-first-preserved : goal.loop-first-preserved
loop-first-preserved c =
    let cut = c.in-Some.ensures.cases in
    let now = c.loop-first in
    record {
      rest = rest_goes_on now.line.now now.rest.now c.in-Some.tail.now now.size c.in-Some.first.now now.invariant.rest
          cut.0;
      size = omega (arith, now.invariant.size, cut.1);
      within = now.invariant.within;
      same = ap (λ (l : List (List ℕ)). map (λ x. x.now) now.lines.items ++ l)
          (lines_go_on now.line.now now.rest.now c.in-Some.tail.now now.size c.in-Some.first.now now.invariant.rest
          cut.0 c.args.rule (search rules)) ∙ now.invariant.same;
    }
