-- The part of the row at the id.
use Rattle.ruletable.proofs.TableLemmas.{part_at}
use Rattle.ruletable.proofs.table.RuleTable.span.Goals as goal

pub returns : goal.returns
returns g c =
    rw (← c.self.view_is) (part_at (λ rule. rule.span) c.self.inside.rows.items c.args.id _
    (rw (← c.self.view_is) at c.requires) c.index.ensures)
