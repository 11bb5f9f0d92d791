-- A run of status 0 states that status.
use Rattle.pegrun.specs.Answers.{States}
use Rattle.uses.proofs.TakenLemmas.{memory_is_taken}
use Rattle.uses.proofs.run_caller.is_all_taken.Goals as goal

pub returns : goal.returns
returns c = λ is.
    memory_is_taken (States c.args.grammar.now c.args.settings.now) c.args.input.now _ _ _ c.peg_in_memory.ensures
    (c.is_done.ensures is)
