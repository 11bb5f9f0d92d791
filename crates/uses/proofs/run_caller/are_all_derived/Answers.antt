-- A run of status 0 states that status.
use Rattle.abnfrun.specs.AbnfAnswers.{AbnfStates}
use Rattle.uses.proofs.TakenLemmas.{memory_is_taken}
use Rattle.uses.proofs.run_caller.are_all_derived.Goals as goal

pub returns : goal.returns
returns c = λ is.
    memory_is_taken (AbnfStates c.args.grammar.now c.args.settings.now) c.args.input.now _ _ _ c.abnf_in_memory.ensures
    (c.is_done.ensures is)
