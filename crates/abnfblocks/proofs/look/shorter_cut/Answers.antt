use Rattle.std.proofs.Common.{◌≡◌, ◌∙◌, Some, ◌-◌, ◌≤◌, ℕ, List, Bool, arith, ap, map, length, length-take, sym, subst}
use Rattle.std.proofs.lemmas.List.{length-map}
use Rattle.abnfblocks.specs.RuleEnds.{AreTests, IsCutLimit}
use Rattle.abnfblocks.specs.TextLines.{numbered}
use Rattle.abnfblocks.proofs.FoundRuleLemmas.{limit-more, tests-within, untested-bars}
use Rattle.abnfblocks.proofs.RuleEndLemmas.{test-bars}
use Rattle.abnfblocks.proofs.look.shorter_cut.Goals as goal

pub loop-size-init : goal.loop-size-init
loop-size-init c =
    let tests = c.in_ok-tests.tests.items in
    let h : AreTests c.args.margin_size _ tests = rw c.saturating_sub.ensures at c.in_ok-tests.ensures in
    let size : c.len-size.result ≡ length tests = omega (arith, c.len-size.ensures) in
    let within = tests-within c.args.rule.now c.args.margin_size c.args.limit tests h in
    record {
      tested = omega arith;
      less = omega arith;
      none = λ k lt less cut. untested-bars c.args.rule.now c.args.margin_size c.args.limit tests
          c.requires.margin c.requires.within h k (omega (arith, lt)) less cut;
    }

pub loop-size-preserved : goal.loop-size-preserved
loop-size-preserved c =
    let h = c.loop-size.invariant in
    let limit : IsCutLimit (map numbered c.args.rule.now) c.loop-size.size (Some c.in-Some.lower) =
    rw c.in-Some.is at c.in_ok-cut_limit.ensures in
    let le : c.in-Some.lower ≤ c.loop-size.size = limit.0 in
    let lower = c.saturating_sub-size.ensures in
    record {
      tested = omega arith;
      less = omega arith;
      none = λ k lt within cut. limit-more (map numbered c.args.rule.now) c.loop-size.size c.in-Some.lower
          c.args.limit h.none limit k (omega (arith, lt)) within cut;
    }

pub cut_limit-requires-clause-bar : goal.cut_limit-requires-clause-bar
cut_limit-requires-clause-bar c = λ e.
    let h = rw c.saturating_sub.ensures at c.in_ok-tests.ensures in
    let less = c.loop-size.invariant.less in
    let tested = c.loop-size.invariant.tested in
    test-bars c.args.rule.now c.args.margin_size (c.args.limit - 1) c.loop-size.size c.in_ok-tests.tests.items
    c.index.result.now c.requires.margin c.loop-size-test.true less h.bar (sym c.index.ensures ∙ e) tested
