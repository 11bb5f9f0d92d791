use Rattle.std.proofs.Common.{arith, refl, subst}
use Rattle.std.specs.Prelude.{IfSome}
use Rattle.lazydfa.specs.StateSets.{AreStatesOf, IsStartState}
use Rattle.rulelines.specs.ListedSets.{symbol_set}
use Rattle.rulelines.proofs.LineSetLemmas.{table_begun}
use Rattle.rulelines.proofs.list.lines.begin_table.Goals as goal

pub returns : goal.returns
returns c =
    table_begun c.args.flat.now c.in-Some.states _ (symbol_set c.args.symbols)
    (subst (λ v. IfSome v (AreStatesOf c.args.flat.now)) c.in-Some.is c.in_ok-states.ensures)
    c.in_ok-start.ensures.more
    (subst (λ v. IfSome v (IsStartState c.start.new.self)) c.in-Some-2.is c.in_ok-start.ensures.is)
    (let e = c.saturating_add.ensures in omega (arith, e)) c.requires.starts c.requires.rise
    c.new-2.ensures.items c.new-3.ensures.items refl
