use Rattle.std.proofs.Common.{◌≡◌, ◌-◌, sym, subst, ap, ◌∙◌}
use Rattle.memo.specs.KeyLog.{tasks_of}
use Rattle.packrat.specs.ByteGives.{operands_on}
use Rattle.packrat.specs.Stands.{AreGiven}
use Rattle.packrat.proofs.TurnedLemmas.{taken_steps, operands_none, steps_given}
use Rattle.packrat.proofs.iterations.put_operands.Goals as goal

pub returns-in_ok-put_steps-clause-tasks : goal.returns-in_ok-put_steps-clause-tasks
returns-in_ok-put_steps-clause-tasks c =
    let t = c.args.iterations in
    subst (λ v. tasks_of c.put_steps.new.self.stored ≡ operands_on v t.operand t.from (t.end - t.from)
    (tasks_of c.args.log.now.stored)) (sym c.if-is_key_node.true ∙ c.is_key_node.ensures)
    (ap tasks_of c.in_ok-put_steps.ensures.stored ∙ taken_steps t.operand t.from (t.end - t.from) c.args.log.now.stored)

pub returns-in_ok-put_steps-clause-keeps : goal.returns-in_ok-put_steps-clause-keeps
returns-in_ok-put_steps-clause-keeps c = λ window more links d h.
    let t = c.args.iterations in
    subst (AreGiven c.args.peg.now window more links) (sym c.in_ok-put_steps.ensures.stored)
    (steps_given c.args.peg.now window more c.args.peg.now.keys c.requires.sound t.star t.operand t.from
    t.end d.0 d.1 links c.args.log.now.stored h)

pub returns-else-is_key_node-clause-tasks : goal.returns-else-is_key_node-clause-tasks
returns-else-is_key_node-clause-tasks c =
    let t = c.args.iterations in
    subst (λ v. tasks_of c.args.log.now.stored ≡ operands_on v t.operand t.from (t.end - t.from)
    (tasks_of c.args.log.now.stored)) (sym c.if-is_key_node.false ∙ c.is_key_node.ensures)
    (sym (operands_none t.operand t.from (t.end - t.from) (tasks_of c.args.log.now.stored)))
