use Rattle.std.proofs.Common.{refl, subst}
use Rattle.rulelines.specs.StateTables.{IsFirstKeyIn}
use Rattle.rulelines.proofs.list.search.change_from.Goals as goal

pub returns-in-None : goal.returns-in-None
returns-in-None c = λ s is.
    subst (λ v. IsFirstKeyIn c.args.table.now s c.args.from c.args.rest v) c.in-None.is (c.in_ok-first_key.ensures s is)

pub returns-in_ok-next-in-Some : goal.returns-in_ok-next-in-Some
returns-in_ok-next-in-Some c = λ s is. (
  refl,
  c.in_ok-next-in-Some.ensures,
  c.in-Some.key,
  subst (λ v. IsFirstKeyIn c.args.table.now s c.args.from c.args.rest v) c.in-Some.is
      (c.in_ok-first_key.ensures s is),
  c.symbol_at-symbol.ensures,
)
