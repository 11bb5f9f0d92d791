use Rattle.std.proofs.Common.{◌≡◌, ◌++◌, [], ◌∷◌, arith, get_or, subst}
use Rattle.std.proofs.lemmas.Option.{slice_get-get_or}
use Rattle.rulelines.proofs.StartsLemmas.{ends_of_all, ends_pushed}
use Rattle.rulelines.proofs.list.starts.with_ends.Goals as goal

pub loop-bound-init : goal.loop-bound-init
loop-bound-init c = λ i b lt. absurd (omega (arith, lt))

pub loop-bound-preserved : goal.loop-bound-preserved
loop-bound-preserved c =
    ends_pushed c.args.bounds.now c.loop-bound.bound-index (get_or c.args.bounds.now c.loop-bound.bound-index 0)
    c.loop-bound.all.items c.push.new.self.items c.push-in-loop-bound.new.self.items
    (slice_get-get_or c.args.bounds.now c.loop-bound.bound-index 0 c.loop-bound-test.true) c.loop-bound.invariant
    c.in_ok-push.ensures.items
    (subst (λ v. c.push-in-loop-bound.new.self.items ≡ c.push.new.self.items ++ v ∷ []) c.saturating_sub.ensures
    c.in_ok-push-2.ensures.items)

pub returns : goal.returns
returns c = ends_of_all c.args.bounds.now c.loop-bound.bound-index c.loop-bound.all.items c.loop-bound-test.false
    c.loop-bound.invariant
