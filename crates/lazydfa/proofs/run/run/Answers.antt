use Rattle.lazydfa.proofs.AreTransitionsLemmas.{memo_none}
use Rattle.lazydfa.proofs.run.run.Goals as goal

pub returns-in-Err-clause-memo : goal.returns-in-Err-clause-memo
returns-in-Err-clause-memo g c =
    memo_none c.args.tables.now c.args.classes.samples.now c.forget_all.new.memo c.forget_all.ensures.conts
    c.forget_all.ensures.states c.forget_all.ensures.cells c.forget_all.ensures.transitions c.forget_all.ensures.resumes
    c.forget_all.ensures.leads
