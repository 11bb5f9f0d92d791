use Rattle.std.proofs.Common.{rules, arith}
use Rattle.pegread.specs.Slices.{ended}
use Rattle.pegread.proofs.SliceLemmas.{comment-on, line_end-nothing}
use Rattle.pegread.proofs.lexing.after_comment.Goals as goal

pub loop-first-preserved : goal.loop-first-preserved
loop-first-preserved c = record {
  shorter = let e = c.in-Some.ensures.cases.1 in let s = c.loop-first.invariant.shorter in omega (arith);
  ends = λ r h. c.loop-first.invariant.ends r (comment-on c.in-Some.ensures.cases.0 (search rules) h);
}

pub returns-then-is_newline-clause-comment : goal.returns-then-is_newline-clause-comment
returns-then-is_newline-clause-comment c = c.loop-first.invariant.ends _
    (ended (rw c.in-Some.ensures.cases.0 (search rules)))

pub returns-in_default-clause-comment : goal.returns-in_default-clause-comment
returns-in_default-clause-comment c = c.loop-first.invariant.ends _
    (ended (line_end-nothing _ c.in_default.ensures.cases))
