-- What a table ends as, once a `&mut` into it has ended.
use Rattle.std.specs.Prelude.{ℕ}
use Rattle.std.specs.Borrow.{Lends, MutBor, Fml, RattleType}
use Rattle.ruletable.specs.Rules.{Rules, with_body}
use Rattle.ruletable.specs.contracts.table.RuleTable.{the_row}

-- the rule's body is the last value written through r, and all else stays
abbrev pub LendsBody : (E : RattleType) → MutBor (Rules E.Denot) → ℕ → MutBor E.Denot → Fml
LendsBody E table id r = Lends (the_row E) E table r (with_body table.now id)
