use Rattle.std.proofs.Common.{◌∙◌, refl, arith}
use Rattle.std.proofs.lemmas.Option.{slice_get-get_or}
use Rattle.lazydfa.proofs.StateSetsLemmas.{got_at}
use Rattle.rulelines.proofs.CutSearchLemmas.{lead_more, pairs_both, pairs_none}
use Rattle.rulelines.proofs.SearchLemmas.{search_iteration}
use Rattle.rulelines.proofs.search.expand.Goals as goal

pub loop-symbol-init : goal.loop-symbol-init
loop-symbol-init c = (
  (refl, refl),
  λ has m in_order s. s,
  pairs_none c.args.search.now,
  λ p at_p sound j symbol lt. absurd (omega (arith, lt)),
)

pub returns-then-not-branch-clause-expanded : goal.returns-then-not-branch-clause-expanded
returns-then-not-branch-clause-expanded c = λ has m in_order s. (
  c.loop-symbol.symbol-index,
  c.in_ok-lead.ensures.over has c.args.samples.now c.loop-symbol.symbol-index m
      (c.loop-symbol.invariant.1 has m in_order s) c.if-not-branch.true,
)

pub returns-then-not-branch-clause-more : goal.returns-then-not-branch-clause-more
returns-then-not-branch-clause-more c = pairs_both _ _ _ c.loop-symbol.invariant.2 c.in_ok-lead.ensures.more

pub loop-symbol-preserved : goal.loop-symbol-preserved
loop-symbol-preserved c =
    let at_k = slice_get-get_or c.args.samples.now c.loop-symbol.symbol-index 0 c.loop-symbol-test.true in (
      (
        c.in_ok-lead.ensures.same.0 ∙ c.loop-symbol.invariant.0.0,
        c.in_ok-lead.ensures.same.1 ∙ c.loop-symbol.invariant.0.1,
      ),
      λ has m in_order s. c.in_ok-lead.ensures.led has c.args.samples.now c.loop-symbol.symbol-index m
          (c.loop-symbol.invariant.1 has m in_order s) c.if-not-branch.false in_order at_k,
      pairs_both _ _ _ c.loop-symbol.invariant.2 c.in_ok-lead.ensures.more,
      λ p at_p sound. lead_more c.args.samples.now c.args.search.now c.loop-symbol.search c.lead.new.search
          c.loop-symbol.invariant.2 c.in_ok-lead.ensures.more c.args.at c.loop-symbol.symbol-index p at_p sound
          (c.loop-symbol.invariant.3 p at_p sound) _ at_k
          (c.in_ok-lead.ensures.leads c.if-not-branch.false p (c.loop-symbol.invariant.2.kept c.args.at p at_p)
          (c.loop-symbol.invariant.2.sound sound)),
    )

pub returns-clause-expanded : goal.returns-clause-expanded
returns-clause-expanded c = λ has m in_order s.
    search_iteration has c.args.samples.now c.loop-symbol.search.olds c.loop-symbol.search.news
    c.loop-symbol.search.pairs.items.items c.args.at m c.loop-symbol.symbol-index c.loop-symbol-test.false
    (c.loop-symbol.invariant.1 has m in_order s)

pub returns-clause-leads : goal.returns-clause-leads
returns-clause-leads c = λ _ p at_p sound symbol h.
    c.loop-symbol.invariant.3 p at_p sound h.0 symbol
    (let lt = h.1 in let le = c.loop-symbol-test.false in omega (arith, lt, le)) (got_at c.args.samples.now symbol h)
