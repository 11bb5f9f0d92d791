-- The rules and the positions are those of the text, and the chains are those of its rules.
use Rattle.std.proofs.Common.{sym}
use Rattle.abnfrun.proofs.note_positions.note_positions.Goals as goal

pub returns-clause-positions : goal.returns-clause-positions
returns-clause-positions c = λ text are all. record {
  definitions = all.definitions;
  reads = all.reads;
  positions = are;
  chains = rw (sym all.all) c.in_ok-chains.ensures;
  all = all.all;
  counted = all.counted;
}
