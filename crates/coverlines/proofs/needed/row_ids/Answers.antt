-- The rules with the list that is known.
use Rattle.std.proofs.lemmas.Result.{IfOk-weaker}
use Rattle.coverlines.proofs.needed.row_ids.Goals as goal

pub returns-in-Some : goal.returns-in-Some
returns-in-Some c = IfOk-weaker c.ids_with.result _ _ (λ ids has id among. record {
  list = c.in-Some.word;
  known_is = c.in-Some.is;
  has = rw c.deref.ensures.value at (has id among);
}) c.ids_with.ensures
