use Rattle.pegrun.proofs.OneReplyLemmas.{one_reply}
use Rattle.pegrun.proofs.laws.one_reply.Goals as goal

pub returns : goal.returns
returns c = one_reply c.one_no_match.ensures
