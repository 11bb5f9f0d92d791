use Rattle.pegread.specs.PegViews.{rules_of}
use Rattle.gramcheck.proofs.JudgeLemmas.{marks-recursive, own-ids}
use Rattle.gramcheck.proofs.analysis.left_recursive_rules.Goals as goal

pub returns : goal.returns
returns c =
    let rules = rules_of c.args.rules.now in
    let h = c.in_ok-found.ensures rules (rw (c.deref.ensures.value, c.deref-2.ensures.value)
    c.in_ok-cut.ensures.bodies) in
    let found = rw (c.deref.ensures.value, c.deref-2.ensures.value) at h in
    marks-recursive rules _ _ _ _ _ _ found (own-ids c.args.rules.now c.requires c.in_ok-cut.ensures.unique)
