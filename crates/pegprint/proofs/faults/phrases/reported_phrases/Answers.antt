use Rattle.pegprint.proofs.faults.phrases.reported_phrases.Goals as goal

pub returns : goal.returns
returns c = let h = c.reported_of.ensures in rw c.all_phrases.ensures at h
