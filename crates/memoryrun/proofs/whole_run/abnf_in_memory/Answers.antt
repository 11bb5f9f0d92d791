-- The run is right, and its reader and writers are in memory.
use Rattle.std.proofs.Common.{◌∙◌, ap, ℕ, List, Some}
use Rattle.abnfrun.specs.AbnfAnswers.{AbnfStates}
use Rattle.memoryrun.proofs.MemoryRunLemmas.{memory_run}
use Rattle.toolrun.specs.Status.{code_of}
use Rattle.memoryrun.proofs.whole_run.abnf_in_memory.Goals as goal

pub returns : goal.returns
returns c =
    memory_run (AbnfStates c.args.grammar.now c.args.settings.now)
    (Some c.new-reader.result.rest.now) (Some c.run_abnf-status.new.reader.rest.now)
    (Some c.new-out.result.inner.items) (Some c.run_abnf-status.new.out.inner.items)
    (Some c.new-err.result.inner.items) (Some c.run_abnf-status.new.err.inner.items) c.args.input.now
    c.into_inner.result.items c.into_inner-2.result.items c.run_abnf-status.new.out.failed
    c.run_abnf-status.new.err.failed
    (code_of c.run_abnf-status.result) c.new-reader.ensures.remaining
    (c.new-out.ensures.contents ∙ ap (λ (x : List ℕ). Some x) c.new.ensures.items)
    (c.new-err.ensures.contents ∙ ap (λ (x : List ℕ). Some x) c.new-2.ensures.items)
    c.into_inner.ensures c.into_inner-2.ensures c.run_abnf-status.ensures.right
