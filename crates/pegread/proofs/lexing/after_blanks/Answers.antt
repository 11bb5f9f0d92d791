use Rattle.std.proofs.Common.{rules}
use Rattle.lexer.specs.SliceEnds.{no_more}
use Rattle.pegread.proofs.SliceLemmas.{none-dark, byte-dark, blank-on, comment-off}
use Rattle.pegread.proofs.lexing.after_blanks.Goals as goal

pub loop-first-preserved-then-is_white : goal.loop-first-preserved-then-is_white
loop-first-preserved-then-is_white c = λ r h. c.loop-first.invariant r
    (blank-on c.in-Some.ensures.cases.0 (search rules) h)

pub loop-first-preserved : goal.loop-first-preserved
loop-first-preserved c = λ r h. c.loop-first.invariant r
    (comment-off c.in-Some.ensures.cases.0 c.if-first-eq35.true c.after_comment-rest.ensures.comment h)

pub returns-else-first-eq35-clause-white : goal.returns-else-first-eq35-clause-white
returns-else-first-eq35-clause-white c = c.loop-first.invariant _ no_more

pub returns-in_default-clause-white : goal.returns-in_default-clause-white
returns-in_default-clause-white c = c.loop-first.invariant _ no_more

pub returns-else-first-eq35-clause-all : goal.returns-else-first-eq35-clause-all
returns-else-first-eq35-clause-all c = byte-dark c.in-Some.ensures.cases.0 (search rules) c.if-first-eq35.false

pub returns-in_default-clause-all : goal.returns-in_default-clause-all
returns-in_default-clause-all c = none-dark _ c.in_default.ensures.cases
