-- All rules are settled.
use Rattle.std.proofs.Common.{◌∙◌, sym}
use Rattle.std.proofs.lemmas.List.{length-map}
use Rattle.abnfread.specs.AbnfViews.{rule_of, rules_of}
use Rattle.coverlines.proofs.RuleContextsLemmas as r
use Rattle.coverlines.proofs.rule_contexts.rule_contexts.Goals as goal

pub loop-improved-init : goal.loop-improved-init
loop-improved-init c = record {
  contexts = r.first_known c.args.bounds (rules_of c.args.rules.now) c.args.judged c.len.result c.in_ok-known.known
      (length-map c.args.rules.now.rules rule_of ∙ sym c.len.ensures.len) (rw c.len.ensures.len c.requires.judged)
      c.in_ok-known.ensures;
  settled = λ is. absurd (cc is);
}

pub improve_all-requires-clause-count : goal.improve_all-requires-clause-count
improve_all-requires-clause-count c = c.loop-improved.invariant.contexts.count
    ∙ length-map c.args.rules.now.rules rule_of

pub loop-improved-preserved : goal.loop-improved-preserved
loop-improved-preserved c = record {
  contexts = c.in_ok-improved.ensures.contexts c.args.judged c.loop-improved.invariant.contexts;
  settled = λ is. r.settled_after c.args.bounds (rules_of c.args.rules.now) c.args.sites.now _
      c.loop-improved.known.items c.improve_all.new.known.items c.in_ok-improved.improved is
      (c.in_ok-improved.ensures.step c.args.judged c.loop-improved.invariant.contexts);
}

pub loop-improved-smaller : goal.loop-improved-smaller
loop-improved-smaller c = rw c.loop-improved-test.true (r.smaller_after c.args.bounds (rules_of c.args.rules.now)
    c.args.sites.now _ c.loop-improved.known.items c.improve_all.new.known.items c.in_ok-improved.improved
    (c.in_ok-improved.ensures.step c.args.judged c.loop-improved.invariant.contexts))

pub returns : goal.returns
returns c = r.contexts_shortest c.args.bounds (rules_of c.args.rules.now) c.args.judged c.args.sites.now
    c.loop-improved.known.items c.requires.sites c.loop-improved.invariant.contexts
    (c.loop-improved.invariant.settled c.loop-improved-test.false)
