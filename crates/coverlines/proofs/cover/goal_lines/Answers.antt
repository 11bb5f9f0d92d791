-- One rule more.
use Rattle.std.proofs.Common.{◌≡◌, ◌∙◌, ◌<◌, List, arith, length, map, sym, ap, subst}
use Rattle.std.specs.List.{AllPairs}
use Rattle.abnfread.specs.AbnfViews.{rules_of}
use Rattle.coverlines.specs.CoverLines.{AreGoalLines, Falls, MayAddLines}
use Rattle.coverlines.specs.Sites.{Stood, stood_of}
use Rattle.coverlines.proofs.CoverLinesLemmas as l
use Rattle.coverlines.proofs.RuleContextsLemmas.{context_index, sites_index}
use Rattle.coverlines.proofs.cover.goal_lines.Goals as goal

pub loop-id-init : goal.loop-id-init
loop-id-init c = record {
  order = subst (AllPairs Falls) (sym c.new-found.ensures.items)
      (λ i j d lt within. absurd (omega (arith, within)));
  lines = λ known. subst (AreGoalLines c.args.words.now.bounds (rules_of c.args.rules.now) c.args.contexts.now
      c.args.sites.now 0) (sym c.new-found.ensures.items) (l.no_goal_lines c.args.words.now.bounds
      (rules_of c.args.rules.now) c.args.contexts.now c.args.sites.now);
}

pub add_rule-requires-clause-order : goal.add_rule-requires-clause-order
add_rule-requires-clause-order c = c.loop-id.invariant.order

pub loop-id-preserved : goal.loop-id-preserved
loop-id-preserved c =
    let n = c.requires.sites in
    let o = c.requires.contexts in
    let k = c.len-id-end.ensures.len in
    let lt = c.loop-id-test.true in
    let one : c.loop-id.id < length c.args.contexts.now = omega (arith, o, k, lt) in
    let two : c.loop-id.id < length c.args.sites.now = omega (arith, n, k, lt) in record {
      order = c.in_ok-add_rule.ensures.order;
      lines = λ known. l.next_goal_lines c.args.words.now.bounds (rules_of c.args.rules.now) c.args.contexts.now
          c.args.sites.now c.loop-id.id c.index-contexts-id.result c.loop-id.found.items c.add_rule.new.found.items
          (context_index c.args.contexts.now c.loop-id.id c.index-contexts-id.result one c.index-contexts-id.is)
          (subst (λ (xs : List Stood). MayAddLines c.args.words.now.bounds (rules_of c.args.rules.now) c.loop-id.id
          c.index-contexts-id.result xs c.loop-id.found.items c.add_rule.new.found.items)
          (ap (map stood_of) c.deref.ensures.value ∙ sym (sites_index c.args.sites.now c.loop-id.id
          c.index-sites-id.result two c.index-sites-id.is))
          (c.in_ok-add_rule.ensures.added (rules_of c.args.rules.now) known)) (c.loop-id.invariant.lines known);
    }

pub returns-clause-lines : goal.returns-clause-lines
returns-clause-lines c = λ known.
    let k = c.len-id-end.ensures.len in
    let up = c.loop-id.auto.id-end in
    let le = c.loop-id-test.false in
    let same : c.loop-id.id ≡ length c.args.rules.now.rules = omega (arith, k, up, le) in
    subst (λ n. AreGoalLines c.args.words.now.bounds (rules_of c.args.rules.now) c.args.contexts.now c.args.sites.now
    n c.loop-id.found.items) same (c.loop-id.invariant.lines known)
