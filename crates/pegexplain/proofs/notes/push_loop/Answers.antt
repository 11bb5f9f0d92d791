use Rattle.std.proofs.Common.{[], sym, ◌∙◌, append-nil}
use Rattle.pegexplain.specs.PegLoops.{repeat_reported}
use Rattle.pegexplain.proofs.ExplainedLoopLemmas.{reported-none, reported-some}
use Rattle.pegexplain.proofs.notes.push_loop.Goals as goal

pub returns-in_default : goal.returns-in_default
returns-in_default c = λ text are. (
  [],
  reported-none text c.args.positions.now c.args.name.now are
      (sym c.in_ok-id.ensures.found ∙ c.in_default.is),
  sym (append-nil c.args.out.now.items),
)

pub returns : goal.returns
returns c = λ text are.
    let w = c.in_ok-push_first_loop.ensures in (
      repeat_reported c.in_ok-lines.lines.items w.0,
      reported-some text c.args.positions.now c.args.name.now are c.in-Some.id c.body.result.now
          c.in_ok-lines.lines.items
          w.0
          (sym c.in_ok-id.ensures.found ∙ c.in-Some.is) c.body.ensures c.in_ok-lines.ensures
          (let k = w.1 in rw c.deref.ensures.value at k),
      (let k = w.2 in rw c.deref-2.ensures.value at k),
    )
