-- A grammar is rejected.
use Rattle.abnfd.specs.ComparedTexts.{lacks_new, lacks_old}
use Rattle.abnfd.proofs.compared.answer_to.Goals as goal

pub returns-in-None-grammar : goal.returns-in-None-grammar
returns-in-None-grammar c = rw (c.rejected.ensures.text, c.rejected.ensures.status, c.in-None-grammar.is)
    (lacks_new c.args.old.now.grammar)

pub returns-in-None : goal.returns-in-None
returns-in-None c =
    rw (c.rejected-in-None.ensures.text, c.rejected-in-None.ensures.status, c.in-None.is)
    (lacks_old c.args.new.now.grammar)
