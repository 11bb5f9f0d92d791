use Rattle.std.proofs.Common.{⊎_elim, Contains, inr, subst}
use Rattle.earley.proofs.RowItemsLemmas.{none_contains}
use Rattle.earley.proofs.row_fill.row_of.Goals as goal

pub returns : goal.returns
returns c = λ k. (
  (λ h. ⊎_elim (λ old. absurd (none_contains k (subst (λ v. Contains v k) c.new-row.ensures old))) (λ same. same)
      ((c.in_ok-insert.ensures.members k).0 h)),
  (λ same. (c.in_ok-insert.ensures.members k).1 (inr same)),
)
