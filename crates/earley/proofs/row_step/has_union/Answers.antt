use Rattle.std.proofs.Common.{Contains, subst}
use Rattle.earley.proofs.RowStepLemmas.{found_at, get_index}
use Rattle.earley.proofs.row_step.has_union.Goals as goal

pub returns-in-Some : goal.returns-in-Some
returns-in-Some c t k h =
    let is = get_index c.args.union.now c.args.call.from c.in-Some.union.now
    (found_at c.args.union.now c.args.call.from c.in-Some.union.now c.in-Some.ensures.lookup.0
    c.in-Some.ensures.lookup.1) in
    subst (λ v. Contains v k) c.row.ensures (c.has_all.ensures.0 t k (subst (λ v. Contains v k) is h))
