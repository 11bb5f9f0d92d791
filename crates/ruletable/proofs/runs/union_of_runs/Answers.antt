-- Run by run, from those that are left to the union.
use Rattle.std.proofs.Common.{◌||◌, ◌&&◌, nat_le, false, get_or, ap, sym, ◌∙◌}
use Rattle.std.proofs.Math.Bool.{or-false, or_assoc}
use Rattle.ruletable.specs.Runs.{in_runs}
use Rattle.ruletable.proofs.runs.union_of_runs.Goals as goal

pub loop-first-init : goal.loop-first-init
loop-first-init c = λ b. rw (c.new-union.ensures.empty b)
    (ap (λ runs. in_runs runs b) (c.into_iter-first-iterator.ensures.into_iter_gives ∙ c.runs-first-items.ensures.runs))

pub loop-first-preserved : goal.loop-first-preserved
loop-first-preserved c = λ b.
    ap (λ t. t || in_runs c.next.new.self b) (c.add_range.ensures.members b)
    ∙ or_assoc (get_or c.loop-first.union b false) (nat_le c.in-Some.first b && nat_le b c.in-Some.last)
    (in_runs c.next.new.self b)
    ∙ ap (λ runs. get_or c.loop-first.union b false || in_runs runs b) (sym c.in-Some.ensures.steps)
    ∙ c.loop-first.invariant b

pub returns : goal.returns
returns c = λ b h.
    sym (or-false (get_or c.loop-first.union b false))
    ∙ ap (λ runs. get_or c.loop-first.union b false || in_runs runs b) (sym c.in-None.ensures.steps.0)
    ∙ c.loop-first.invariant b
    ∙ sym (ap (λ runs. in_runs runs b) c.runs-first-items.ensures.runs)
    ∙ c.runs-first-items.ensures.exact.members b h
