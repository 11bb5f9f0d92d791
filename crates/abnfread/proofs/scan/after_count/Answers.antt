use Rattle.abnfread.specs.AbnfSlices.{exactly}
use Rattle.abnfread.proofs.ByteRunLemmas.{count-star, star-longest, count-longest}
use Rattle.abnfread.proofs.scan.after_count.Goals as goal

pub returns-in-Some-clause-count : goal.returns-in-Some-clause-count
returns-in-Some-clause-count c = count-star c.after_run-rest.ensures.run c.in-Some.ensures c.after_run.ensures.run

pub returns-in-Some-clause-longest : goal.returns-in-Some-clause-longest
returns-in-Some-clause-longest c = λ s h. star-longest c.after_run-rest.ensures.run c.after_run-rest.ensures.all
    c.in-Some.ensures c.after_run.ensures.run c.after_run.ensures.all h

pub returns-in-None-clause-count : goal.returns-in-None-clause-count
returns-in-None-clause-count c = exactly c.after_run-rest.ensures.run

pub returns-in-None-clause-longest : goal.returns-in-None-clause-longest
returns-in-None-clause-longest c = λ s h. count-longest c.after_run-rest.ensures.run c.after_run-rest.ensures.all
    c.in-None.ensures h
