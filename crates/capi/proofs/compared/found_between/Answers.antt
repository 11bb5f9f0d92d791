-- Both grammars are compared, or one is rejected.
use Rattle.capi.specs.GrammarsCompared.{both_compared, lacks_new, lacks_old}
use Rattle.capi.proofs.compared.found_between.Goals as goal

pub returns-in_ok-found-in-Some-grammar : goal.returns-in_ok-found-in-Some-grammar
returns-in_ok-found-in-Some-grammar c =
    rw (c.in-Some.is, c.in-Some-grammar.is, c.status_of-status.ensures) (both_compared (record {
      old_alone = c.in_ok-found-in-Some-grammar.ensures.old;
      new_alone = c.in_ok-found-in-Some-grammar.ensures.new;
    }))

pub returns-in-None-grammar : goal.returns-in-None-grammar
returns-in-None-grammar c = rw (c.in-None-grammar.is, c.nothing_found.ensures.status)
    (lacks_new c.nothing_found.ensures.old c.nothing_found.ensures.new)

pub returns-in-None : goal.returns-in-None
returns-in-None c = rw (c.in-None.is, c.nothing_found-in-None.ensures.status)
    (lacks_old c.nothing_found-in-None.ensures.old c.nothing_found-in-None.ensures.new)
