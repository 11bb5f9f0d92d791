use Rattle.std.proofs.Common.{◌↔◌, IsTrue, Contains, subst, sym}
use Rattle.earley.proofs.RowItemsLemmas.{none_contains}
use Rattle.earley.proofs.RowStepLemmas.{found_at, missing_at, get_index, get_no_index}
use Rattle.earley.proofs.row_chart.has_number.Goals as goal

pub returns-in-Some : goal.returns-in-Some
returns-in-Some c = subst (λ v. IsTrue c.has.result ↔ Contains v c.args.number)
    (sym (get_index c.args.rows.now c.args.position c.in-Some.row.now
    (found_at c.args.rows.now c.args.position c.in-Some.row.now c.in-Some.ensures.lookup.0 c.in-Some.ensures.lookup.1)))
    c.has.ensures

pub returns-in-None : goal.returns-in-None
returns-in-None c = (
  (λ t. absurd (cc t)),
  (λ h. absurd (none_contains c.args.number (subst (λ v. Contains v c.args.number)
      (get_no_index c.args.rows.now c.args.position
      (missing_at c.args.rows.now c.args.position c.in-None.ensures.lookup.0)) h))),
)
