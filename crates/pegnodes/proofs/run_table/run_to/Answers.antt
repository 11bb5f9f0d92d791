use Rattle.std.proofs.Common.{◌*◌, ◌-◌, ap}
use Rattle.pegnodes.proofs.RunTablesLemmas.{found_to, found_none}
use Rattle.pegnodes.proofs.run_table.run_to.Goals as goal
use Rattle.pegnodes.proofs.run_table.run_to.Goals.{in-Some, in-None}

pub returns : goal.returns
returns c = elim c.match-memchr.branch [
  | in-Some w ↦ found_to c.args.stop c.args.window.now c.args.from c.args.to c.match-memchr.end
      ((c.match-memchr.end - c.args.from) * c.from.result) c.requires.from c.requires.to
      (ap (λ v. (c.match-memchr.end - c.args.from) * v) c.from.ensures) w.in-Some.i w.end-is w.in-Some.ensures
  | in-None w ↦ found_none c.args.stop c.args.window.now c.args.from c.args.to c.match-memchr.end
      ((c.match-memchr.end - c.args.from) * c.from.result) c.requires.from c.requires.to
      (ap (λ v. (c.match-memchr.end - c.args.from) * v) c.from.ensures) w.end-is w.in-None.ensures
]
