use Rattle.pegmatch.proofs.laws.one_answer.Goals as goal

pub returns : goal.returns
returns c = λ g window o o' looked far d e. c.one_outcome_of_start.ensures _ _ _ _ _ _ _ d e
