use Rattle.std.proofs.Common.{◌≡◌, ◌+◌, ◌/◌, ap, length, map, subst, sym, refl, arith, ◌∙◌}
use Rattle.std.proofs.lemmas.Option.{slice_get-get_or}
use Rattle.std.specs.Prelude.{IfSome, Contains, Some, slice_get}
use Rattle.lazydfa.specs.Conts.{AreTopsOf}
use Rattle.lazydfa.specs.ExpectedSets.{IsExpected}
use Rattle.lazydfa.specs.declared.expected.Expected.{Expected}
use Rattle.lazydfa.specs.Memos.{IsMemo, IsRunStop}
use Rattle.lazydfa.proofs.ExpectedLemmas.{expected_there}
use Rattle.lazydfa.proofs.automaton.Automaton.expected.Goals as goal

pub invariant_of-self-in_default-get : goal.invariant_of-self-in_default-get
invariant_of-self-in_default-get g c = (
  c.self.invariant.0,
  c.self.invariant.1,
  c.self.invariant.2,
  c.self.invariant.3,
  subst (λ v. IsMemo c.self.inside.tables.value v c.run.new.memo) c.deref.ensures.value
      (subst (λ v. IsMemo v c.deref.result.now c.run.new.memo) c.deref-2.ensures c.run.ensures.memo),
  c.self.invariant.5,
)

pub dots_of-requires-clause-within : goal.dots_of-requires-clause-within
dots_of-requires-clause-within g c id h =
    let look = c.in-Some-get.ensures.lookup in
    let inside = look.0 in
    let got = c.in-Some-get.state.now in
    let k = c.in-Some.stop.row / (length c.deref.result.now + 1) in
    c.run.ensures.memo.cached.within k got
    (subst (λ v. slice_get v k ≡ Some got) c.deref-3.ensures.value
    (slice_get-get_or c.deref-3.result.now k got (grind (arith, inside)) ∙ ap (λ v. Some v) (sym look.1)))
    id (subst (λ v. Contains v id) c.deref-4.ensures.value h)

pub invariant_of-self-in_err-dots : goal.invariant_of-self-in_err-dots
invariant_of-self-in_err-dots g c = (
  c.self.invariant.0,
  c.self.invariant.1,
  c.self.invariant.2,
  c.self.invariant.3,
  subst (λ v. IsMemo c.self.inside.tables.value v c.run.new.memo) c.deref.ensures.value
      (subst (λ v. IsMemo v c.deref.result.now c.run.new.memo) c.deref-2.ensures c.run.ensures.memo),
  c.self.invariant.5,
)

pub invariant_of-self-2 : goal.invariant_of-self-2
invariant_of-self-2 g c = (
  c.self.invariant.0,
  c.self.invariant.1,
  c.self.invariant.2,
  c.self.invariant.3,
  subst (λ v. IsMemo c.self.inside.tables.value v c.run.new.memo) c.deref.ensures.value
      (subst (λ v. IsMemo v c.deref.result.now c.run.new.memo) c.deref-2.ensures c.run.ensures.memo),
  c.self.invariant.5,
)

pub returns-clause-reported : goal.returns-clause-reported
returns-clause-reported g c =
    let x = map g.L.Letter.number c.args.line.now in
    let tables = c.self.inside.tables.value in
    let look = c.in-Some-get.ensures.lookup in
    let inside = look.0 in
    let got = c.in-Some-get.state.now in
    let k = c.in-Some.stop.row / (length c.deref.result.now + 1) in
    let stops = subst (λ v. IfSome v (IsRunStop c.deref-2.result.now c.deref.result.now c.run.new.memo x)) c.in-Some.is
    c.in_ok-stop.ensures.stops in
    let stop = subst (λ v. IsRunStop v c.deref.result.now c.run.new.memo x c.in-Some.stop) c.deref-2.ensures stops in
    let reported : Expected =
    record { after = c.in-Some.stop.at; dots = c.in_ok-dots.dots; ends = got.ended } in
    subst (λ v. IsExpected v x reported) c.self.view_is
    (expected_there tables c.self.invariant.0 c.self.invariant.1 c.self.invariant.2 c.deref.result.now
    c.run.new.memo x c.in-Some.stop stop k got refl
    (subst (λ v. slice_get v k ≡ Some got) c.deref-3.ensures.value
    (slice_get-get_or c.deref-3.result.now k got (grind (arith, inside)) ∙ ap (λ v. Some v) (sym look.1)))
    reported refl refl
    (subst (λ v. AreTopsOf c.run.new.memo.cache.conts.items.items v c.in_ok-dots.dots.items)
    c.deref-4.ensures.value c.in_ok-dots.ensures))
