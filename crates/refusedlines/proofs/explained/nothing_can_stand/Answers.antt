use Rattle.refusedlines.proofs.OneRefusalLemmas.{derives_none}
use Rattle.refusedlines.proofs.explained.nothing_can_stand.Goals as goal

pub returns : goal.returns
returns c has rules id x n furthest none = derives_none has rules id x n furthest none
