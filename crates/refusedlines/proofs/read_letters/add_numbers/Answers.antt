use Rattle.refusedlines.proofs.LetterRunLemmas.{put_same}
use Rattle.refusedlines.proofs.read_letters.add_numbers.Goals as goal

pub returns-in_ok-push-clause-gain : goal.returns-in_ok-push-clause-gain
returns-in_ok-push-clause-gain c = put_same _ _ _ c.in_ok-push.ensures.items
