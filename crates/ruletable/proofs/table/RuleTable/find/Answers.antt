-- The map has the id of the key.
use Rattle.std.proofs.Common.{◌∙◌, refl}
use Rattle.ruletable.proofs.TableLemmas.{found_by_key}
use Rattle.ruletable.proofs.table.RuleTable.find.Goals as goal

pub returns-in-Exact-clause-found : goal.returns-in-Exact-clause-found
returns-in-Exact-clause-found g c =
    rw (← c.self.view_is) (c.copied.ensures ∙ c.get.ensures.value
    ∙ found_by_key c.self.inside.names c.self.inside.rows.items c.self.inside.ids c.args.name.now c.args.name.now
    c.self.invariant (rw c.in-Exact.is refl))

pub returns-in_ok-key-in-Fold-clause-found : goal.returns-in_ok-key-in-Fold-clause-found
returns-in_ok-key-in-Fold-clause-found g c =
    rw (← c.self.view_is) (c.copied-in-Fold.ensures ∙ c.get-in-Fold.ensures.value
    ∙ found_by_key c.self.inside.names c.self.inside.rows.items c.self.inside.ids c.args.name.now c.as_slice.result.now
    c.self.invariant (rw c.in-Fold.is (c.as_slice.ensures.value ∙ c.in_ok-key-in-Fold.ensures)))
