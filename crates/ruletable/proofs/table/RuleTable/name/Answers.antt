-- The part of the row at the id.
use Rattle.ruletable.proofs.TableLemmas.{part_at}
use Rattle.ruletable.proofs.table.RuleTable.name.Goals as goal

pub returns : goal.returns
returns g c =
    rw (← c.self.view_is, c.as_slice.ensures.value)
    (part_at (λ rule. rule.name) c.self.inside.rows.items c.args.id _ (rw (← c.self.view_is) at c.requires)
    c.index.ensures)
