-- One more line is explained.
use Rattle.std.proofs.Common.{◌+◌, List, Vec, Global, subst, ℕ}
use Rattle.abnfread.specs.AbnfViews.{rules_of}
use Rattle.refusedlines.specs.Refusals.{IsExplained}
use Rattle.abnfg.proofs.RefusalsFromLemmas.{refusals_more}
use Rattle.abnfg.proofs.refusals.explain_all.Goals as goal

pub loop-index-preserved : goal.loop-index-preserved
loop-index-preserved c =
    let e = c.args.explainer.now in
    let rules = rules_of e.grammar.now.rules in
    let id = e.grammar.now.judged in
    let i = c.loop-index.index in
    let item = c.index-lines-index.result in
    let text = c.loop-index.text.items in
    let new = c.explain_refused.new.out.items in
    record {
      reported = refusals_more c.args.unit e.letters rules id c.args.lines.now i item text new c.loop-index-test.true
          c.loop-index.invariant.reported
          (subst (λ (v : Vec ℕ Global). IsExplained c.args.unit e.letters rules id v.items (i + 1) text new)
          c.index-lines-index.is
          (subst (λ (v : List ℕ). IsExplained c.args.unit e.letters rules id v (i + 1) text new) c.deref.ensures.value
          c.in_ok-explain_refused.ensures.reported));
      flat = c.in_ok-explain_refused.ensures.flat;
    }
