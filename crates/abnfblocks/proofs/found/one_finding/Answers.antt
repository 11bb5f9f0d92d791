use Rattle.abnfblocks.proofs.OneFoundLemmas.{each-found, one-found}
use Rattle.abnfblocks.proofs.found.one_finding.Goals as goal

pub returns-clause-one : goal.returns-clause-one
returns-clause-one c = λ i lines a b h k. one-found c.one_reading.ensures.one_fault h k

pub returns-clause-each : goal.returns-clause-each
returns-clause-each c = λ i lines found h. each-found h
