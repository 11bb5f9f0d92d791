use Rattle.std.proofs.Common.{◌≡◌, subst}
use Rattle.std.proofs.lemmas.Option.{IfSome_then}
use Rattle.std.proofs.lemmas.Result.{IfOk-weaker}
use Rattle.std.specs.Prelude.{IfSome, slice_get, Some}
use Rattle.lazydfa.specs.StateSets.{StateSet}
use Rattle.rulelines.specs.StateTables.{IsRestIn}
use Rattle.rulelines.proofs.SomeLineLemmas.{drawn_line, some_first}
use Rattle.rulelines.proofs.list.random.line_by_lot.Goals as goal

pub returns-in_default-clause-is : goal.returns-in_default-clause-is
returns-in_default-clause-is c =
    let now = c.add_levels.new.table in
    IfOk-weaker c.line_from.result _ _ (λ reported h. IfSome_then reported h (λ step f.
    some_first c.args.table.now now c.args.limit step c.in_ok-add_levels.ensures f))
    c.line_from.ensures.is

pub returns-in-Some-2-clause-is : goal.returns-in-Some-2-clause-is
returns-in-Some-2-clause-is c =
    let now = c.add_levels.new.table in
    drawn_line c.args.table.now now c.args.limit c.in-Some.count c.in-Some-2.word c.in_ok-add_levels.ensures
    c.in-Some.ensures
    (subst (λ v. IfSome v (λ word. (s : StateSet) → slice_get now.states.states now.start ≡ Some s
    → IsRestIn now s c.in-Some.count word.items)) c.in-Some-2.is c.in_ok-word.ensures)
