-- One way more.
use Rattle.std.proofs.Common.{◌∙◌, get_or, map, refl, subst}
use Rattle.std.proofs.lemmas.List.{get_or_default}
use Rattle.abnfread.specs.AbnfViews.{element_of}
use Rattle.coverlines.specs.MissedGoals.{own_goal}
use Rattle.coverlines.specs.MissedSteps.{AddsGoals}
use Rattle.coverlines.specs.declared.way.GoalWay.TheVariants.{Chosen}
use Rattle.coverlines.proofs.MemberLemmas.{taken_past}
use Rattle.coverlines.proofs.MissedGoalsLemmas as m
use Rattle.coverlines.proofs.missed.add_own.Goals as goal

pub loop-way-init : goal.loop-way-init
loop-way-init c = λ rules known. m.adds_no_goals c.args.words.now.bounds rules c.args.rule (element_of c.args.e.now)
    c.args.room c.args.found.now.items

pub loop-way-preserved : goal.loop-way-preserved
loop-way-preserved c = λ rules known.
    let ways = c.deref-way-items.result.now in
    let i = c.loop-way.way-index in
    let below = c.loop-way-test.true in
    let way = get_or ways i (Chosen 0) in
    m.own_missed c.args.words.now.bounds rules (element_of c.args.e.now) c.in_ok-made.made.items
    (c.in_ok-made.ensures rules known) c.args.rule c.args.room ways i way c.args.found.now.items
    c.loop-way.found.items below (get_or_default ways i (Chosen 0) way below) (c.loop-way.invariant rules known)
    (record { rule = c.args.rule; elem = c.args.e; way = way }) c.push.new.self.items
    (λ h. let yes = (rw c.deref.ensures.value at c.fits.ensures).1 h in let no = c.if-fits.false in
    absurd (cc (yes, no)))
    (record { rule_is = refl; element_is = refl; way_is = refl }) c.in_ok-push.ensures.items

pub loop-way-preserved-then-fits : goal.loop-way-preserved-then-fits
loop-way-preserved-then-fits c = λ rules known.
    let ways = c.deref-way-items.result.now in
    let i = c.loop-way.way-index in
    let below = c.loop-way-test.true in
    let way = get_or ways i (Chosen 0) in
    m.own_fits c.args.words.now.bounds rules (element_of c.args.e.now) c.in_ok-made.made.items
    (c.in_ok-made.ensures rules known) c.args.rule c.args.room ways i way c.args.found.now.items
    c.loop-way.found.items below (get_or_default ways i (Chosen 0) way below) (c.loop-way.invariant rules known)
    ((rw c.deref.ensures.value at c.fits.ensures).0 c.if-fits.true)

pub returns : goal.returns
returns c = λ rules known.
    let above = c.loop-way-test.false in
    subst (λ ways. AddsGoals c.args.words.now.bounds rules c.args.rule (element_of c.args.e.now) c.args.room
    (map (own_goal (element_of c.args.e.now)) ways) c.args.found.now.items c.loop-way.found.items)
    (taken_past c.deref-way-items.result.now c.loop-way.way-index above
    ∙ (c.deref-way-items.ensures.value ∙ c.in_ok-ways.ensures))
    (c.loop-way.invariant rules known)
