use Rattle.std.proofs.Common.{arith}
use Rattle.pegnodes.proofs.RunTablesLemmas.{run_is}
use Rattle.pegnodes.proofs.run_table.RunTable.run.Goals as goal

pub returns-in-Some : goal.returns-in-Some
returns-in-Some c =
    let stops = c.args.self.now.stops c.in-Some.stop c.in-Some.is in
    run_is c.args.self.now.entries.items c.args.window.now c.args.from c.in-Some.stop c.args.to c.run_to.result
    c.requires.to (λ i. omega (arith, c.type_inv.window i)) c.run_to.ensures stops.0 stops.1 stops.2
