use Rattle.std.proofs.Common.{◌≡◌, ◌<◌, ◌≤◌, ℕ, length, arith, subst, get_or}
use Rattle.std.proofs.lemmas.Option.{slice_get-get_or}
use Rattle.std.specs.Prelude.{slice_get, Some}
use Rattle.lazydfa.specs.StateSets.{StateSet}
use Rattle.rulelines.specs.StateTables.{TakesKeyIn}
use Rattle.rulelines.proofs.FirstKeyLemmas.{
  from_reported,
  found_reported,
  IsState,
  none_reported,
  one_more_not_taken,
}
use Rattle.rulelines.proofs.list.table.first_key.Goals as goal
use Rattle.rulelines.proofs.list.table.first_key.Goals.{else-key-from-via-then-key-from+in_ok-takes_key-2+else-branch-2}
use Rattle.rulelines.proofs.list.table.first_key.Goals.{else-key-from-via-else-key-from}

pub loop-key-preserved : goal.loop-key-preserved
loop-key-preserved c =
    let table = c.args.table.now in
    let i = c.loop-key.key-index in
    let b : ℕ = get_or c.deref-key-items.result.now i 0 in
    let at_i = subst (λ v. slice_get v i ≡ Some b) c.deref-key-items.ensures.value
    (slice_get-get_or c.deref-key-items.result.now i 0 c.loop-key-test.true) in
    let never : (s : StateSet) → IsState table c.args.state s → c.args.from < b → TakesKeyIn table s b c.args.rest → ⊥ =
    λ s is more taken. elim c.else-key-from.branch [
      | else-key-from-via-then-key-from+in_ok-takes_key-2+else-branch-2 w ↦
          (let h = (w.in_ok-takes_key-2.ensures s is).1 taken in let e = w.if-branch-2.false in cc (e, h))
      | else-key-from-via-else-key-from w ↦ (let le = w.if-key-from.false in omega (arith, le, more))
    ] in
    one_more_not_taken table c.args.state c.args.from c.args.rest i b at_i never c.loop-key.invariant

pub returns : goal.returns
returns c = λ s is.
    let table = c.args.table.now in
    none_reported table c.requires.table c.args.state c.args.from c.args.rest s is
    (λ taken. let h = (c.in_ok-takes_key.ensures s is).1 taken in let e = c.if-branch.false in cc (e, h))
    c.loop-key.key-index
    (subst (λ v. length v ≤ c.loop-key.key-index) c.deref-key-items.ensures.value c.loop-key-test.false)
    c.loop-key.invariant

pub returns-then-branch : goal.returns-then-branch
returns-then-branch c = λ s is.
    from_reported c.args.table.now c.args.from c.args.rest s ((c.in_ok-takes_key.ensures s is).0 c.if-branch.true)

pub returns-then-branch-2 : goal.returns-then-branch-2
returns-then-branch-2 c = λ s is.
    let table = c.args.table.now in
    let i = c.loop-key.key-index in
    let b : ℕ = get_or c.deref-key-items.result.now i 0 in
    found_reported table c.requires.table c.args.state c.args.from c.args.rest s is
    (λ taken. let h = (c.in_ok-takes_key.ensures s is).1 taken in let e = c.if-branch.false in cc (e, h)) i b
    (subst (λ v. slice_get v i ≡ Some b) c.deref-key-items.ensures.value
    (slice_get-get_or c.deref-key-items.result.now i 0 c.loop-key-test.true)) c.if-key-from.true
    ((c.in_ok-takes_key-2.ensures s is).0 c.if-branch-2.true) c.loop-key.invariant
