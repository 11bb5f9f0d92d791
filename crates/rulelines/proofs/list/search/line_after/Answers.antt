use Rattle.std.proofs.Common.{◌≡◌, subst}
use Rattle.std.proofs.lemmas.Option.{IfSome_then}
use Rattle.std.proofs.lemmas.Result.{IfOk-weaker}
use Rattle.std.specs.Prelude.{IfSome, slice_get, Some}
use Rattle.lazydfa.specs.StateSets.{StateSet}
use Rattle.rulelines.specs.StateTables.{IsChangedTo, IsLastChange}
use Rattle.rulelines.proofs.LineOrderLemmas.{after_change, after_none}
use Rattle.rulelines.proofs.list.search.line_after.Goals as goal

pub returns-in-Some-None-clause-is : goal.returns-in-Some-None-clause-is
returns-in-Some-None-clause-is c =
    let now = c.add_levels.new.table in
    let none = subst (λ v. (s : StateSet) → slice_get now.states.states now.start ≡ Some s
    → IsLastChange now s c.args.line.now v) c.in-Some-None.field-0-is c.in-Some-None.ensures in
    IfOk-weaker c.line_from.result _ _ (λ reported h. IfSome_then reported h (λ step f.
    after_none c.args.table.now now c.args.limit c.in_ok-add_levels.ensures c.args.line.now step none f))
    c.line_from.ensures.is

pub returns-in-Some-clause-is : goal.returns-in-Some-clause-is
returns-in-Some-clause-is c =
    let now = c.add_levels.new.table in
    let change = c.in-Some-Some.change in
    let next = subst (λ v. (s : StateSet) → slice_get now.states.states now.start ≡ Some s
    → IsLastChange now s c.args.line.now v) c.in-Some-Some.field-0-is c.in-Some-Some.ensures in
    after_change c.args.table.now now c.args.limit c.in_ok-add_levels.ensures c.args.line.now c.in-Some.word change
    c.if-line-limit.false next
    (subst (λ v. IfSome v (λ word. IsChangedTo now c.args.line.now change word.items)) c.in-Some.is
    c.in_ok-word-in-Some-Some.ensures)
