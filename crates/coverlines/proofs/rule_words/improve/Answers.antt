-- A rule has a shorter list, or it is settled.
use Rattle.std.proofs.Common.{◌<◌, ◌≤◌, length, refl, arith}
use Rattle.std.proofs.lemmas.List.{length-map}
use Rattle.abnfread.specs.AbnfViews.{element_of, rule_of, rules_of}
use Rattle.coverlines.specs.KnownWords.{known_cost, fixed_rules}
use Rattle.coverlines.specs.Shortest.{IsShortestOf, Spells}
use Rattle.coverlines.proofs.KnownWordsLemmas as k
use Rattle.coverlines.proofs.WordsLemmas.{known_index}
use Rattle.coverlines.proofs.rule_words.improve.Goals as goal

pub returns-in_default-clause-step : goal.returns-in_default-clause-step
returns-in_default-clause-step c = (
  refl,
  k.settled_none c.args.bounds (rules_of c.args.rules.now)
      c.args.known.now.items c.args.id (element_of c.body.result.now)
      (k.body_shown c.args.rules.now.rules c.args.id c.body.result.now c.body.ensures)
      (rw c.in_default.is at (c.in_ok-new.ensures (fixed_rules (rules_of c.args.rules.now) c.args.known.now.items)
      (λ name. rw c.as_slice.ensures.value (k.known_of_fixed c.args.bounds (rules_of c.args.rules.now)
      c.args.known.now.items c.requires.known name)))),
)

pub returns-then-not-is_shorter-clause-step : goal.returns-then-not-is_shorter-clause-step
returns-then-not-is_shorter-clause-step c =
    let h : IsShortestOf (Spells c.args.bounds (fixed_rules (rules_of c.args.rules.now) c.args.known.now.items)
    (element_of c.body.result.now)) c.args.bounds.limit c.in-Some.new.items =
    rw c.in-Some.is at (c.in_ok-new.ensures (fixed_rules (rules_of c.args.rules.now) c.args.known.now.items)
    (λ name. rw c.as_slice.ensures.value (k.known_of_fixed c.args.bounds (rules_of c.args.rules.now)
    c.args.known.now.items c.requires.known name))) in
    let same = known_index c.args.known.now.items c.args.id c.index.result.now
    (let n = c.requires.known.count in let m = length-map c.args.rules.now.rules rule_of in
    let lt = c.requires.id in omega (arith, n, m, lt)) c.index.ensures in
    let few : known_cost c.args.bounds.limit c.index.result.now ≤ length c.deref.result.now =
    k.not_shorter c.args.bounds.limit (length c.deref.result.now) c.index.result.now c.is_shorter.result
    c.if-not-is_shorter.true (c.is_shorter.ensures c.args.bounds.limit
    (rw c.deref.ensures.value h.within)) in (
      refl,
      k.settled_some c.args.bounds (rules_of c.args.rules.now) c.args.known.now.items c.args.id
          (element_of c.body.result.now) c.in-Some.new.items
          (k.body_shown c.args.rules.now.rules c.args.id c.body.result.now c.body.ensures) h
          (rw same (rw c.deref.ensures.value at few)),
    )

pub returns-clause-found : goal.returns-clause-found
returns-clause-found c =
    let h : IsShortestOf (Spells c.args.bounds (fixed_rules (rules_of c.args.rules.now) c.args.known.now.items)
    (element_of c.body.result.now)) c.args.bounds.limit c.in-Some.new.items =
    rw c.in-Some.is at (c.in_ok-new.ensures (fixed_rules (rules_of c.args.rules.now) c.args.known.now.items)
    (λ name. rw c.as_slice.ensures.value (k.known_of_fixed c.args.bounds (rules_of c.args.rules.now)
    c.args.known.now.items c.requires.known name))) in
    k.found_set c.args.bounds (rules_of c.args.rules.now) c.args.known.now.items c.args.id
    (element_of c.body.result.now) c.in-Some.new
    (k.body_shown c.args.rules.now.rules c.args.id c.body.result.now c.body.ensures) c.requires.known
    (record {
      symbols = h.is.symbols;
      is = k.from_fixed c.args.bounds (rules_of c.args.rules.now)
          c.args.known.now.items c.requires.known h.is.is;
    }) h.within

pub returns-clause-step : goal.returns-clause-step
returns-clause-step c =
    let h : IsShortestOf (Spells c.args.bounds (fixed_rules (rules_of c.args.rules.now) c.args.known.now.items)
    (element_of c.body.result.now)) c.args.bounds.limit c.in-Some.new.items =
    rw c.in-Some.is at (c.in_ok-new.ensures (fixed_rules (rules_of c.args.rules.now) c.args.known.now.items)
    (λ name. rw c.as_slice.ensures.value (k.known_of_fixed c.args.bounds (rules_of c.args.rules.now)
    c.args.known.now.items c.requires.known name))) in
    let inside : c.args.id < length c.args.known.now.items =
    (let n = c.requires.known.count in let m = length-map c.args.rules.now.rules rule_of in
    let lt = c.requires.id in omega (arith, n, m, lt)) in
    let same = known_index c.args.known.now.items c.args.id c.index.result.now inside c.index.ensures in
    let less : length c.deref.result.now < known_cost c.args.bounds.limit c.index.result.now =
    (c.is_shorter.ensures c.args.bounds.limit (rw c.deref.ensures.value h.within)).0 c.if-not-is_shorter.false in
    k.step_set c.args.bounds (rules_of c.args.rules.now) c.args.known.now.items c.args.id c.in-Some.new inside
    (rw same (rw c.deref.ensures.value at less))
