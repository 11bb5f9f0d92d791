use Rattle.std.proofs.Common.{◌≡◌, ◌+◌, ◌-◌, sym, subst, ap, ◌∙◌}
use Rattle.memo.specs.KeyLog.{tasks_of}
use Rattle.packrat.specs.ByteGives.{iterations_closed}
use Rattle.packrat.specs.Stands.{AreGiven}
use Rattle.packrat.proofs.TurnedLemmas.{closed_run, closed_none, run_given}
use Rattle.packrat.proofs.iterations.put_iterations.Goals as goal

pub returns-in_ok-put_run-clause-tasks : goal.returns-in_ok-put_run-clause-tasks
returns-in_ok-put_run-clause-tasks c =
    let t = c.args.iterations in
    subst (λ v. tasks_of c.put_run.new.self.stored ≡ iterations_closed v t.star t.from (t.end + 1 - t.from)
    (tasks_of c.args.log.now.stored)) (sym c.if-is_key_node.true ∙ c.is_key_node.ensures)
    (ap tasks_of c.in_ok-put_run.ensures.stored
    ∙ closed_run t.star t.from (t.end + 1 - t.from) c.args.given c.args.log.now.stored)

pub returns-in_ok-put_run-clause-keeps : goal.returns-in_ok-put_run-clause-keeps
returns-in_ok-put_run-clause-keeps c = λ window more links each h.
    let t = c.args.iterations in
    subst (AreGiven c.args.peg.now window more links) (sym c.in_ok-put_run.ensures.stored)
    (run_given c.args.peg.now window more c.args.peg.now.keys links t.star t.from (t.end + 1 - t.from)
    c.args.given c.args.log.now.stored each h)

pub returns-else-is_key_node-clause-tasks : goal.returns-else-is_key_node-clause-tasks
returns-else-is_key_node-clause-tasks c =
    let t = c.args.iterations in
    subst (λ v. tasks_of c.args.log.now.stored ≡ iterations_closed v t.star t.from (t.end + 1 - t.from)
    (tasks_of c.args.log.now.stored)) (sym c.if-is_key_node.false ∙ c.is_key_node.ensures)
    (sym (closed_none t.star t.from (t.end + 1 - t.from) (tasks_of c.args.log.now.stored)))
