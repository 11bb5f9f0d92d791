-- The repetitions in one more member.
use Rattle.std.proofs.Common.{arith}
use Rattle.std.proofs.Common.{◌++◌, take, map, append_assoc, ◌∙◌, ap, sym}
use Rattle.pegread.specs.PegViews.{pattern_of, patterns_of}
use Rattle.pegexplain.specs.PegLoops.{repeats_in, repeats_in_all}
use Rattle.pegexplain.proofs.RepeatsLemmas.{repeats-next}
use Rattle.std.proofs.lemmas.Grind.{common_steps}
use Rattle.pegexplain.proofs.loops.+repeating.Goals as goal

pub add_all_repeats-loop-member-preserved : goal.add_all_repeats-loop-member-preserved
add_all_repeats-loop-member-preserved t c =
    c.in_ok-add_repeats.ensures
    ∙ ap (λ z. z ++ repeats_in (pattern_of c.member-item.result)) c.loop-member.invariant
    ∙ append_assoc (map (λ x. pattern_of x.now) c.args.found.now.items)
    (repeats_in_all (patterns_of (take c.loop-member.member-index c.args.members.now)))
    (repeats_in (pattern_of c.member-item.result))
    ∙ ap (λ z. map (λ x. pattern_of x.now) c.args.found.now.items ++ z) (sym (repeats-next c.args.members.now
    c.loop-member.member-index c.member-item.result c.loop-member-test.true c.member-item.is))

pub add_all_repeats-returns : goal.add_all_repeats-returns
add_all_repeats-returns t c = grind (arith, common_steps)
