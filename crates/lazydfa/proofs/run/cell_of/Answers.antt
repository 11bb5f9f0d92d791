use Rattle.std.proofs.Common.{rules}
use Rattle.lazydfa.proofs.run.cell_of.Goals as goal

pub returns-in-Over : goal.returns-in-Over
returns-in-Over c = record {
  memo = c.requires.memo;
  grows = search rules;
  suffixes = search rules;
  is = λ s d position sample. c.look-cell.ensures c.args.tables.now c.args.samples.now c.requires.memo.cached s d
      position sample;
}
