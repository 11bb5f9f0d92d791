use Rattle.packrat.proofs.ByteGivesLemmas.{gives_by, found_gives}
use Rattle.pegread.specs.PegViews.{rules_of}
use Rattle.pegnodes.specs.Nodes.{shapes_of}
use Rattle.packrat.proofs.ByteKidsLemmas.{by_byte_itself}
use Rattle.packrat.proofs.RunIterationsLemmas.{decided_comes}
use Rattle.packrat.proofs.byte_laws.one_byte_decides.Goals as goal

pub returns-clause-gives : goal.returns-clause-gives
returns-clause-gives c = λ rules start nodes bodies ranks x sound marks tails b n p count v h here s.
    gives_by rules start nodes bodies ranks x sound marks tails b p here h s

pub returns-clause-found : goal.returns-clause-found
returns-clause-found c = λ g x more sound marks tails b n p count v h here s last.
    found_gives g x more sound n p v last
    (gives_by (rules_of g.rules) g.start (shapes_of g.nodes) g.bodies g.ranks x sound marks tails b p here h s)

pub returns-clause-stores : goal.returns-clause-stores
returns-clause-stores c = λ rules start nodes bodies ranks x sound marks tails b n p count v h here s.
    by_byte_itself rules start nodes bodies ranks x sound marks tails b p here h s

pub returns-clause-steps : goal.returns-clause-steps
returns-clause-steps c = λ rules start nodes bodies ranks x sound root is marks tails are b n p count v h here s.
    decided_comes rules start nodes bodies ranks x sound root is marks tails are b n p count v h here s
