-- The repetitions in the members so far.
use Rattle.std.proofs.Common.{◌≡◌, ◌++◌, map, take}
use Rattle.pegread.specs.PegViews.{pattern_of, patterns_of}
use Rattle.pegexplain.specs.PegLoops.{repeats_in_all}
use Rattle.pegexplain.proofs.loops.+repeating.Given as goal

abbrev pub invariant-add_all_repeats-loop-member : goal.invariant-add_all_repeats-loop-member
invariant-add_all_repeats-loop-member l = map (λ x. pattern_of x.now) l.found.items
    ≡ map (λ x. pattern_of x.now) l.initial.found.items
    ++ repeats_in_all (patterns_of (take l.member-index l.members))
