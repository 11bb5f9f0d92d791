use Rattle.std.proofs.Common.{◌≡◌, ◌++◌, ◌∷◌, [], sym, ◌∙◌, subst, arith}
use Rattle.std.proofs.lemmas.List.{nil_from_length}
use Rattle.std.specs.Prelude.{IfSome}
use Rattle.lazydfa.specs.Memos.{IsResumedBy, IsOver}
use Rattle.lazydfa.proofs.IsOverLemmas.{over_resumed, over_split, settled_running, settled_empty}
use Rattle.lazydfa.proofs.run.settle.Goals as goal

pub suffixes-init : goal.suffixes-init
suffixes-init c = (c.requires.memo, λ x j over. over)

pub suffixes-preserved : goal.suffixes-preserved
suffixes-preserved c = (
  c.in_ok-known.ensures.memo,
  λ x j before.
      let over = c.suffixes.invariant.1 x j before in
      subst (λ v. IsOver c.args.tables.now c.resumed.new.memo.cache.conts.items.items
      c.resumed.new.memo.cache.states.items v.items c.in-Some-2.known.to x j) (sym c.in_ok-known.ensures.suffixes)
      (over_resumed c.args.tables.now c.suffixes.memo.cache.conts.items.items
      c.resumed.new.memo.cache.conts.items.items c.suffixes.memo.cache.states.items
      c.resumed.new.memo.cache.states.items c.in_ok-known.ensures.grows.conts c.in_ok-known.ensures.grows.states
      c.suffixes.invariant.0.cached.within c.requires.targets x j c.suffixes.now c.in-Some.suffix
      c.in-Some-2.known.to c.in-Some-2.known.below
      c.suffixes.memo.suffixes.items c.pop.new.self.items c.in-Some.ensures.items over
      (sym (c.has_ended.ensures over.at.state over.at.is) ∙ c.if-not-has_ended.false)
      (subst (λ v. IfSome v (IsResumedBy c.args.tables.now c.resumed.new.memo.cache.conts.items.items
      c.resumed.new.memo.cache.states.items c.suffixes.now c.in-Some.suffix)) c.in-Some-2.is
      c.in_ok-known.ensures.is).2 (let none = c.if-known-gt0.false in omega (arith, none))),
)

pub returns-then-known-gt0-clause-settled : goal.returns-then-known-gt0-clause-settled
returns-then-known-gt0-clause-settled c = λ x j before.
    let over = c.suffixes.invariant.1 x j before in
    over_split c.args.tables.now c.suffixes.memo.cache.conts.items.items
    c.resumed.new.memo.cache.conts.items.items c.suffixes.memo.cache.states.items
    c.resumed.new.memo.cache.states.items c.in_ok-known.ensures.grows.conts c.in_ok-known.ensures.grows.states
    c.suffixes.invariant.0.cached.within c.requires.targets x j c.suffixes.now c.in-Some.suffix
    c.in-Some-2.known.to c.in-Some-2.known.below
    c.suffixes.memo.suffixes.items c.pop.new.self.items c.in-Some.ensures.items over
    (sym (c.has_ended.ensures over.at.state over.at.is) ∙ c.if-not-has_ended.false)
    (subst (λ v. IfSome v (IsResumedBy c.args.tables.now c.resumed.new.memo.cache.conts.items.items
    c.resumed.new.memo.cache.states.items c.suffixes.now c.in-Some.suffix)) c.in-Some-2.is
    c.in_ok-known.ensures.is).2 c.push.new.self.items
    (subst (λ v. c.push.new.self.items ≡ v.items ++ c.in-Some-2.known.below ∷ []) c.in_ok-known.ensures.suffixes
    c.in_ok-push.ensures.items) c.if-known-gt0.true

pub returns-in_default-clause-settled : goal.returns-in_default-clause-settled
returns-in_default-clause-settled c = λ x j before.
    let z = c.in_default.ensures.cases in
    settled_empty c.args.tables.now c.suffixes.memo.cache.conts.items.items c.suffixes.memo.cache.states.items
    c.suffixes.memo.suffixes.items c.pop.new.self.items c.suffixes.now x j
    (nil_from_length c.suffixes.memo.suffixes.items
    (let o = c.suffixes.memo.suffixes.ok in let k = z.0 in omega (arith, o, k)))
    (nil_from_length c.pop.new.self.items (let o = c.pop.new.self.ok in let k = z.1 in omega (arith, o, k)))
    (c.suffixes.invariant.1 x j before)

pub returns-then-not-has_ended-clause-settled : goal.returns-then-not-has_ended-clause-settled
returns-then-not-has_ended-clause-settled c = λ x j before.
    settled_running c.args.tables.now c.suffixes.memo.cache.conts.items.items c.suffixes.memo.cache.states.items
    c.suffixes.memo.suffixes.items c.suffixes.now x j c.has_ended.result c.has_ended.ensures c.if-not-has_ended.true
    (c.suffixes.invariant.1 x j before)

pub returns-clause-settled : goal.returns-clause-settled
returns-clause-settled c = λ x j before.
    let none = nil_from_length c.suffixes.memo.suffixes.items (let k = c.suffixes-test.false in omega (arith, k)) in
    settled_empty c.args.tables.now c.suffixes.memo.cache.conts.items.items c.suffixes.memo.cache.states.items
    c.suffixes.memo.suffixes.items c.suffixes.memo.suffixes.items c.suffixes.now x j none none
    (c.suffixes.invariant.1 x j before)
