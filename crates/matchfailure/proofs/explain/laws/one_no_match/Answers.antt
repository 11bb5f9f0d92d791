use Rattle.matchfailure.proofs.NoMatchLemmas.{one-reported}
use Rattle.matchfailure.proofs.explain.laws.one_no_match.Goals as goal

pub returns : goal.returns
returns c rules start text before last a b =
    one-reported c.one_farthest.ensures c.farthest_or_none.ensures c.one_outcome_of_start.ensures rules start text
    before
    last a b
