use Rattle.std.proofs.Common.{◌≡◌, ◌+◌, ◌-◌, ℕ, true, false, get_or, length, refl, subst}
use Rattle.std.proofs.lemmas.Option.{slice_get-get_or}
use Rattle.std.specs.Option.{is_some}
use Rattle.std.specs.Prelude.{slice_get, Some}
use Rattle.lazydfa.specs.StateSets.{StateSet}
use Rattle.rulelines.specs.StateTables.{IsChange}
use Rattle.rulelines.proofs.WordLemmas.{walk_begun, walk_done, walk_more}
use Rattle.rulelines.proofs.list.search.last_change.Goals as goal
use Rattle.rulelines.proofs.list.search.last_change.Goals.{then-is_some, else-is_some}

pub loop-at-init : goal.loop-at-init
loop-at-init c = λ s is. walk_begun c.args.table.now s c.args.line.now c.args.table.now.start is

pub loop-at-preserved : goal.loop-at-preserved
loop-at-preserved c = λ s is.
    let table = c.args.table.now in
    let line = c.args.line.now in
    let at = c.loop-at.at in
    let state = c.loop-at.state in
    let symbol : ℕ = get_or line at 0 in
    let change = c.in_ok-change.change in
    let reported = subst (λ v. (s : StateSet) → slice_get table.states.states state ≡ Some s
    → IsChange table state s (v + 1) (length line - 1 - at) at change) c.key_of.ensures c.in_ok-change.ensures in
    let here : is_some change ≡ true → c.if-is_some.best ≡ change = λ e. elim c.if-is_some.branch [
      | then-is_some w ↦ w.best-is
      | else-is_some w ↦ absurd (let f = w.if-is_some.false in let g = c.is_some.ensures in cc (e, f, g))
    ] in
    let there : is_some change ≡ false → c.if-is_some.best ≡ c.loop-at.best = λ e. elim c.if-is_some.branch [
      | then-is_some w ↦ absurd (let f = w.if-is_some.true in let g = c.is_some.ensures in cc (e, f, g))
      | else-is_some w ↦ w.best-is
    ] in
    walk_more table s line at state symbol c.in_ok-next.next (length line - 1 - at) c.loop-at.best
    (slice_get-get_or line at 0 c.loop-at-test.true) c.loop-at-test.true refl (c.loop-at.invariant s is)
    c.in_ok-next.ensures change c.if-is_some.best reported here there

pub returns : goal.returns
returns c = λ s is.
    walk_done c.args.table.now s c.args.line.now c.loop-at.at c.loop-at.state c.loop-at.best c.loop-at-test.false
    (c.loop-at.invariant s is)
