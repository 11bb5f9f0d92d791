use Rattle.std.proofs.Common.{map, sym, ◌∙◌, arith}
use Rattle.std.proofs.lemmas.List.{length-map}
use Rattle.std.proofs.lemmas.Option.{slice_get_within}
use Rattle.pegread.specs.PegViews.{pattern_of}
use Rattle.pegexplain.specs.NullTests.{loops_by, null_mark_of}
use Rattle.pegexplain.proofs.RepeatsLemmas.{passes-later}
use Rattle.pegexplain.proofs.loops.first_loop.Goals as goal

pub loop-position-preserved : goal.loop-position-preserved
loop-position-preserved c = passes-later (λ x. pattern_of x.now) c.args.repeats.now c.loop-position.position
    c.index-repeats-position.result
    (loops_by (null_mark_of c.args.rules.now c.args.marks.now)) c.index-repeats-position.is
    c.loop-position-test.true (sym c.in_ok-is_loop.ensures ∙ c.if-branch.false) c.loop-position.invariant

pub returns : goal.returns
returns c = λ k d at.
    let within = slice_get_within (map (λ x. pattern_of x.now) c.args.repeats.now) k d at in
    let all = length-map c.args.repeats.now (λ x. pattern_of x.now) in
    let past = c.loop-position-test.false in
    c.loop-position.invariant k d (omega (arith, within, all, past)) at
