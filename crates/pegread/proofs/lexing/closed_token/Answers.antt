use Rattle.pegread.proofs.FirstByteLemmas.{first-literal, first-class, first-action}
use Rattle.pegread.proofs.lexing.closed_token.Goals as goal

pub returns-in_ok-after_mark : goal.returns-in_ok-after_mark
returns-in_ok-after_mark c = first-literal c.if-first-eq34.either c.in_ok-after_mark.ensures

pub returns-in_ok-after_mark-2 : goal.returns-in_ok-after_mark-2
returns-in_ok-after_mark-2 c = first-class c.if-first-eq91.true c.in_ok-after_mark-2.ensures

pub returns-in_ok-after_brace : goal.returns-in_ok-after_brace
returns-in_ok-after_brace c = first-action c.if-first-eq123.true c.in_ok-after_brace.ensures
