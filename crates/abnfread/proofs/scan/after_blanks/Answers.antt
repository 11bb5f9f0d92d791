use Rattle.lexer.specs.SliceEnds.{no_more, piece}
use Rattle.abnfread.proofs.scan.after_blanks.Goals as goal

pub loop-more-preserved : goal.loop-more-preserved
loop-more-preserved c = λ r h. c.loop-more.invariant r (piece c.in-Some.ensures.0 h)

pub returns-clause-white : goal.returns-clause-white
returns-clause-white c = c.loop-more.invariant _ no_more
