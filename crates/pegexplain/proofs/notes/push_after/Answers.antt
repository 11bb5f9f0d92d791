use Rattle.std.proofs.Common.{option_copied}
use Rattle.pegexplain.proofs.ExplainedLoopLemmas.{line-after}
use Rattle.pegexplain.proofs.LeftNotesLemmas.{left-after}
use Rattle.pegexplain.proofs.MeantRulesLemmas.{near-after}
use Rattle.pegexplain.proofs.notes.push_after.Goals as goal

pub returns-in_ok-push_near-in-Undefined : goal.returns-in_ok-push_near-in-Undefined
returns-in_ok-push_near-in-Undefined c = λ text are.
    let w = c.in_ok-push_near-in-Undefined.ensures text are in (
      w.0,
      near-after text (option_copied c.args.start) c.args.note.now.kind c.args.note.now.name.items w.0
          c.in-Undefined.is (let k = w.1 in rw c.as_slice.ensures.value at k),
      w.2,
    )

pub returns-in_ok-push_left-in-LeftRecursion : goal.returns-in_ok-push_left-in-LeftRecursion
returns-in_ok-push_left-in-LeftRecursion c = λ text are.
    let w = c.in_ok-push_left-in-LeftRecursion.ensures text are in (
      w.0,
      left-after text (option_copied c.args.start) c.args.note.now.kind c.args.note.now.name.items w.0
          c.in-LeftRecursion.is
          (let k = w.1 in rw c.as_slice-in-LeftRecursion.ensures.value at k),
      w.2,
    )

pub returns-in_ok-push_loop-in-Loop : goal.returns-in_ok-push_loop-in-Loop
returns-in_ok-push_loop-in-Loop c = λ text are.
    let w = c.in_ok-push_loop-in-Loop.ensures text are in (
      w.0,
      line-after text (option_copied c.args.start) c.args.note.now.kind c.args.note.now.name.items w.0 c.in-Loop.is
          (let k = w.1 in rw c.as_slice-in-Loop.ensures.value at k),
      w.2,
    )
