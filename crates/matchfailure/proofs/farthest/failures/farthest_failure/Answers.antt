use Rattle.matchfailure.proofs.KeptFailuresLemmas.{ends_so}
use Rattle.matchfailure.proofs.farthest.failures.farthest_failure.Goals as goal

pub returns-clause-farthest : goal.returns-clause-farthest
returns-clause-farthest c =
    c.farthest_of.ensures c.args.peg.now c.args.window.now c.body_node-root.result
    (rw c.start.ensures.id at c.body_node-root.ensures) c.in_ok-found.ensures.failures c.in_ok-found.ensures.covered

pub returns-clause-end : goal.returns-clause-end
returns-clause-end c = rw c.end_of.ensures
    (ends_so c.args.peg.now c.args.window.now c.body_node-root.result
    (rw c.start.ensures.id at c.body_node-root.ensures) c.start.ensures.sound _ c.in_ok-found.ensures.found)
