-- Where none is given, the start rule is the first.
use Rattle.std.proofs.Common.{◌++◌, subst}
use Rattle.pegread.specs.PegViews.{rules_of}
use Rattle.gramcheck.specs.Uses.{AreUses}
use Rattle.gramcheck.proofs.UsesLemmas.{first-start, ok-then}
use Rattle.gramcheck.proofs.uses.add_start.Goals as goal

pub returns-in-Some : goal.returns-in-Some
returns-in-Some c = rw c.in-Some.is (rw c.as_bytes.ensures.value at c.add_use.ensures)

pub returns-else-is_empty : goal.returns-else-is_empty
returns-else-is_empty c =
    rw c.in-None.is
    (ok-then _ _ c.add_use-else-is_empty.result
    (λ done one seen uses. subst (λ l. AreUses (rules_of c.args.rules.now) (seen ++ l)
    c.add_use-else-is_empty.new.uses.ids.items c.add_use-else-is_empty.new.uses.missing)
    (first-start c.args.rules.now.rules c.name.result.now c.name.ensures) (one seen uses))
    c.add_use-else-is_empty.ensures)
