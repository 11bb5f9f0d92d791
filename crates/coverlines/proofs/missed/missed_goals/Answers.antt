-- One rule more.
use Rattle.std.proofs.Common.{◌∙◌, ◌<◌, arith, length}
use Rattle.std.proofs.lemmas.List.{length-map}
use Rattle.fixpoint.specs.NumberMarks.{IsMarked}
use Rattle.abnfread.specs.AbnfViews.{element_of, rule_of, rules_of}
use Rattle.coverlines.specs.MissedGoals.{no_rule}
use Rattle.coverlines.proofs.KnownWordsLemmas.{body_shown}
use Rattle.coverlines.proofs.MissedGoalsLemmas as m
use Rattle.coverlines.proofs.RuleContextsLemmas.{context_index}
use Rattle.coverlines.proofs.missed.missed_goals.Goals as goal

pub loop-id-init : goal.loop-id-init
loop-id-init c = rw c.new-found.ensures.items no_rule

pub bounds-contexts-id : goal.bounds-contexts-id
bounds-contexts-id c =
    let o = c.requires.contexts.count in
    let n = length-map c.args.rules.now.rules rule_of in
    let k = c.len-id-end.ensures.len in
    let lt = c.loop-id-test.true in omega (arith, o, n, k, lt)

pub loop-id-preserved : goal.loop-id-preserved
loop-id-preserved c =
    let o = c.requires.contexts.count in
    let n = length-map c.args.rules.now.rules rule_of in
    let k = c.len-id-end.ensures.len in
    let lt = c.loop-id-test.true in
    let w = c.in_ok-named.ensures.count in
    let one : c.loop-id.id < length c.args.contexts.now = omega (arith, o, n, k, lt) in
    let two : c.loop-id.id < length (rules_of c.args.rules.now) = omega (arith, n, k, lt) in
    let three : c.loop-id.id < length c.args.rules.now.rules = omega (arith, k, lt) in
    let four : c.loop-id.id < length c.in_ok-named.named.items = omega (arith, w, k, lt) in
    let marked : IsMarked c.in_ok-named.named.items c.loop-id.id = m.mark_at c.in_ok-named.named.items c.loop-id.id
    c.index-is_named.result.now four c.index-is_named.ensures ∙ c.if-not-is_named.false in
    m.next_named c.args.words.now.bounds (rules_of c.args.rules.now) c.args.judged c.loop-id.id c.loop-id.found.items
    two c.loop-id.invariant c.args.contexts.now c.requires.contexts c.index-contexts-id.result
    (context_index c.args.contexts.now c.loop-id.id c.index-contexts-id.result one c.index-contexts-id.is)
    (element_of c.body.result.now)
    (body_shown c.args.rules.now.rules c.loop-id.id c.body.result.now c.body.ensures)
    ((c.in_ok-named.ensures.marks c.loop-id.id three).0 marked) c.add_missed.new.found.items
    (rw c.context_room-room.ensures at (c.in_ok-add_missed.ensures (rules_of c.args.rules.now) c.requires.known))

pub loop-id-preserved-then-not-is_named : goal.loop-id-preserved-then-not-is_named
loop-id-preserved-then-not-is_named c =
    let n = length-map c.args.rules.now.rules rule_of in
    let k = c.len-id-end.ensures.len in
    let lt = c.loop-id-test.true in
    let w = c.in_ok-named.ensures.count in
    let two : c.loop-id.id < length (rules_of c.args.rules.now) = omega (arith, n, k, lt) in
    let three : c.loop-id.id < length c.args.rules.now.rules = omega (arith, k, lt) in
    let four : c.loop-id.id < length c.in_ok-named.named.items = omega (arith, w, k, lt) in
    m.next_unnamed c.args.words.now.bounds (rules_of c.args.rules.now) c.args.judged c.loop-id.id c.loop-id.found.items
    two c.loop-id.invariant (λ there.
    let marked : IsMarked c.in_ok-named.named.items c.loop-id.id =
    (c.in_ok-named.ensures.marks c.loop-id.id three).1 there in
    let is = m.mark_at c.in_ok-named.named.items c.loop-id.id c.index-is_named.result.now four
    c.index-is_named.ensures in
    let no = c.if-not-is_named.true in absurd (cc (marked, is, no)))

pub returns : goal.returns
returns c =
    let n = length-map c.args.rules.now.rules rule_of in
    let k = c.len-id-end.ensures.len in
    let le = c.loop-id-test.false in
    m.all_rules_missed c.args.words.now.bounds (rules_of c.args.rules.now) c.args.judged c.loop-id.id
    c.loop-id.found.items (omega (arith, n, k, le)) c.loop-id.invariant
