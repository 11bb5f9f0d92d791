-- The rule that the site names has the context.
use Rattle.std.proofs.Common.{◌<◌, length, arith, refl}
use Rattle.std.proofs.lemmas.List.{length-map}
use Rattle.abnfread.specs.AbnfViews.{rule_of, rules_of}
use Rattle.coverlines.specs.RuleContexts.{NamesIn, context_at}
use Rattle.coverlines.specs.Sites.{stood_of}
use Rattle.coverlines.proofs.KnownWordsLemmas.{body_below}
use Rattle.coverlines.proofs.RuleContextsLemmas as r
use Rattle.coverlines.proofs.rule_contexts.improve_at.Goals as goal

pub returns-in-Some-clause-contexts : goal.returns-in-Some-clause-contexts
returns-in-Some-clause-contexts c = λ judged h.
    let below = body_below (rules_of c.args.rules.now) c.args.id c.requires.site.body c.requires.site.is in
    let m = length-map c.args.rules.now.rules rule_of in
    let n = c.requires.count in
    let inside : c.args.id < length c.args.known.now.items = omega (arith, below, m, n) in
    let same = r.context_index c.args.known.now.items c.args.id c.index.result.now inside c.index.ensures in
    let named : NamesIn (rules_of c.args.rules.now) (context_at c.args.known.now.items c.args.id)
    (stood_of c.args.site.now) c.in-Some.field-0 = rw same (rw c.in-Some.is at c.in_ok-id.ensures) in
    r.improved_contexts c.args.bounds (rules_of c.args.rules.now) judged c.args.known.now.items h c.args.id
    (stood_of c.args.site.now) c.in-Some.field-0 c.improve.new.known.items c.improve.result c.requires.site named
    c.improve.ensures.improved

pub returns-in-Some-clause-step : goal.returns-in-Some-clause-step
returns-in-Some-clause-step c = λ judged h.
    let below = body_below (rules_of c.args.rules.now) c.args.id c.requires.site.body c.requires.site.is in
    let m = length-map c.args.rules.now.rules rule_of in
    let n = c.requires.count in
    let inside : c.args.id < length c.args.known.now.items = omega (arith, below, m, n) in
    let same = r.context_index c.args.known.now.items c.args.id c.index.result.now inside c.index.ensures in
    let named : NamesIn (rules_of c.args.rules.now) (context_at c.args.known.now.items c.args.id)
    (stood_of c.args.site.now) c.in-Some.field-0 = rw same (rw c.in-Some.is at c.in_ok-id.ensures) in
    r.improved_step c.args.bounds (rules_of c.args.rules.now) judged c.args.known.now.items h c.args.id
    (stood_of c.args.site.now) c.in-Some.field-0 c.improve.new.known.items c.improve.result named
    c.improve.ensures.improved

pub returns-in-None-clause-step : goal.returns-in-None-clause-step
returns-in-None-clause-step c = λ judged h.
    let below = body_below (rules_of c.args.rules.now) c.args.id c.requires.site.body c.requires.site.is in
    let m = length-map c.args.rules.now.rules rule_of in
    let n = c.requires.count in
    let inside : c.args.id < length c.args.known.now.items = omega (arith, below, m, n) in
    let same = r.context_index c.args.known.now.items c.args.id c.index.result.now inside c.index.ensures in (
      refl,
      r.settled_none c.args.bounds (rules_of c.args.rules.now) judged c.args.known.now.items h c.args.id
          (stood_of c.args.site.now) (rw same (rw c.in-None.is at c.in_ok-id.ensures)),
    )
