use Rattle.std.proofs.Common.{rules, sym, arith, take}
use Rattle.abnfread.proofs.IndentLemmas.{at-lf, at-other, at-space}
use Rattle.abnfread.proofs.indent.indent_at.Goals as goal

pub returns-then-last-eq10 : goal.returns-then-last-eq10
returns-then-last-eq10 c = sym
    (at-lf (take c.args.position c.args.text.now) c.loop-last.rest.now c.in-Some.front.now _ _
    c.in-Some.ensures.cases.0 c.loop-last.invariant.same c.if-last-eq10.true)

pub returns-then-not-is_space : goal.returns-then-not-is_space
returns-then-not-is_space c = sym
    (at-other (take c.args.position c.args.text.now) c.loop-last.rest.now c.in-Some.front.now
    _ c.loop-last.size c.in-Some.ensures.cases.0 c.loop-last.invariant.same c.if-last-eq10.false (search rules))

pub loop-last-preserved : goal.loop-last-preserved
loop-last-preserved c = record {
  size = let h = c.loop-last.invariant.size in let e = c.in-Some.ensures.cases.1 in omega arith;
  same = at-space (take c.args.position c.args.text.now) c.loop-last.rest.now c.in-Some.front.now _ _
      c.in-Some.ensures.cases.0 c.loop-last.invariant.same c.if-last-eq10.false (search rules);
}
