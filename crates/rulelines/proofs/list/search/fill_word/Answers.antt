use Rattle.std.proofs.Common.{◌≡◌, ◌-◌, ℕ, arith, subst}
use Rattle.std.specs.Prelude.{IfSome, slice_get, Some}
use Rattle.lazydfa.specs.StateSets.{StateSet}
use Rattle.rulelines.specs.StateTables.{IsFirstKeyIn, IsStep}
use Rattle.rulelines.proofs.WordLemmas.{filling_begun, filling_done, filling_more}
use Rattle.rulelines.proofs.list.search.fill_word.Goals as goal

pub loop-done-init : goal.loop-done-init
loop-done-init c = λ s is. filling_begun c.args.table.now s c.args.count c.args.state c.args.word.now.items is

pub loop-done-preserved : goal.loop-done-preserved
loop-done-preserved c = λ s is.
    let table = c.args.table.now in
    let rest : ℕ = c.args.count - 1 - c.loop-done.done in
    let found = subst (λ v. IfSome v (λ found. (s : StateSet) → slice_get table.states.states c.loop-done.at ≡ Some s
    → IsFirstKeyIn table s 0 rest found)) c.in-Some-Some.is c.first_key.ensures in
    let reported = subst (λ v. (s : StateSet) → slice_get table.states.states c.loop-done.at ≡ Some s
    → IsFirstKeyIn table s 0 rest v) c.in-Some-Some.field-0-is found in
    let step = subst (λ v. IfSome v (IsStep table c.loop-done.at c.symbol_at-symbol.result)) c.in-Some.is
    c.step.ensures in
    filling_more table s c.args.count c.loop-done.done c.loop-done.at c.in-Some-Some.key c.in-Some.next rest
    c.symbol_at-symbol.result c.args.word.now.items c.loop-done.word.items c.push.new.self.items
    (let lt = c.loop-done-test.true in omega (arith, lt)) (c.loop-done.invariant s is) reported
    c.symbol_at-symbol.ensures
    step c.in_ok-push.ensures.items

pub returns : goal.returns
returns c = λ yes s is.
    filling_done c.args.table.now s c.args.count c.loop-done.done c.loop-done.at c.args.word.now.items
    c.loop-done.word.items
    (let over = c.loop-done-test.false in let most = c.loop-done.auto.done-end in omega (arith, over, most))
    (c.loop-done.invariant s is) c.has_ended.result c.has_ended.ensures yes
