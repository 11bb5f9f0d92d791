-- Another body leaves what finds the names.
use Rattle.std.proofs.Common.{refl, ap}
use Rattle.ruletable.proofs.TableLemmas.{has_set, part_at, row_at, rules_in-set}
use Rattle.ruletable.proofs.table.RuleTable.body_mut.Goals as goal

pub invariant_of-self-lent : goal.invariant_of-self-lent
invariant_of-self-lent g c w =
    has_set c.self.inside.names c.self.inside.rows.items c.self.inside.ids c.args.id c.index_mut.result.now w
    (row_at c.self.inside.rows.items c.args.id c.index_mut.result.now (rw (← c.self.view_is) at c.requires)
    c.index_mut.ensures.value)
    c.self.invariant

pub returns : goal.returns
returns g c =
    let lt = rw (← c.self.view_is) at c.requires in
    rw (← c.self.view_is) (
      (
        refl,
        λ w. ap (λ rules. record { names = c.self.inside.names; rules = rules })
            (rules_in-set c.self.inside.rows.items c.args.id c.index_mut.result.now w
            (row_at c.self.inside.rows.items c.args.id c.index_mut.result.now lt c.index_mut.ensures.value)),
      ),
      record {
        writes_back = tt;
        value = part_at (λ rule. rule.body) c.self.inside.rows.items c.args.id c.index_mut.result.now lt
            c.index_mut.ensures.value;
      },
    )
