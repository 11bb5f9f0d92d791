use Rattle.std.proofs.Common.{refl, arith}
use Rattle.pegnodes.specs.Nodes.{Star}
use Rattle.packrat.proofs.TurnedLemmas.{closing_stops, turned_to}
use Rattle.packrat.proofs.iterations.find_iterations.Goals as goal

pub returns-in-Some : goal.returns-in-Some
returns-in-Some c =
    let table = c.in_ok-table.ensures (Star c.args.operand) c.args.operand c.requires.at refl in (
      (
        c.run-run.result.evals,
        turned_to c.args.peg.now c.args.window.now c.args.more c.args.peg.now.keys c.args.star c.args.operand
            c.args.from c.sure_end-to.result c.in_ok-table.table.now.entries.items c.run-run.result c.requires.at
            c.requires.spelled c.sure_end-to.ensures.within c.sure_end-to.ensures.last table c.run-run.ensures,
        (
          c.in-Some.last,
          closing_stops c.args.peg.now c.args.window.now c.args.more c.args.peg.now.keys c.args.operand
              c.run-run.result.end c.sure_end-to.result c.in-Some.last c.in_ok-table.table.now.entries.items
              table c.sure_end-to.ensures.last
              c.in-Some.ensures,
          c.in_ok-checked_add.ensures.1,
        ),
      ),
      refl,
      refl,
      refl,
    )

pub returns : goal.returns
returns c =
    let table = c.in_ok-table.ensures (Star c.args.operand) c.args.operand c.requires.at refl in
    let low = c.run-run.ensures.low in
    let other = c.if-run-from.false in (
      (
        c.run-run.result.evals,
        turned_to c.args.peg.now c.args.window.now c.args.more c.args.peg.now.keys c.args.star c.args.operand
            c.args.from c.sure_end-to.result c.in_ok-table.table.now.entries.items c.run-run.result c.requires.at
            c.requires.spelled c.sure_end-to.ensures.within c.sure_end-to.ensures.last table c.run-run.ensures,
        (omega (arith, low, other), refl),
      ),
      refl,
      refl,
      refl,
    )
