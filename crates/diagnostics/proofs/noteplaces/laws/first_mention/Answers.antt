use Rattle.diagnostics.proofs.FirstMentionLemmas.{first-one, first-some}
use Rattle.diagnostics.proofs.noteplaces.laws.first_mention.Goals as goal

pub returns : goal.returns
returns c = record { some = first-some; one = first-one }
