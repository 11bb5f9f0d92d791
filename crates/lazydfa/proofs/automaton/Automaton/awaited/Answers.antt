use Rattle.std.proofs.Common.{◌+◌, ◌/◌, ◌++◌, ◌∷◌, [], ap, length, map, subst, sym, refl, arith, ◌∙◌}
use Rattle.std.proofs.lemmas.List.{length-map, map-append}
use Rattle.std.specs.Prelude.{IfSome}
use Rattle.flatgrammar.specs.CalledParts.{AreAwaited}
use Rattle.flatgrammar.specs.Stacks.{Lifted}
use Rattle.lazydfa.specs.Conts.{LedBy, ReadsFrom}
use Rattle.lazydfa.specs.Memos.{IsMemo, IsRunStop}
use Rattle.lazydfa.specs.NameWalks.{AddsParts, WalkGoes}
use Rattle.lazydfa.specs.StackSuffixes.{below_of}
use Rattle.lazydfa.proofs.AwaitedLemmas.{awaited_there, if_some}
use Rattle.lazydfa.proofs.automaton.Automaton.awaited.Goals as goal

pub invariant_of-self-in-Ok : goal.invariant_of-self-in-Ok
invariant_of-self-in-Ok g c =
    let run = subst (λ v. IsMemo c.self.inside.tables.value v c.run.new.memo) c.deref.ensures.value
    (subst (λ v. IsMemo v c.deref.result.now c.run.new.memo) c.deref-2.ensures c.run.ensures.memo) in (
      c.self.invariant.0,
      c.self.invariant.1,
      c.self.invariant.2,
      c.self.invariant.3,
      subst (λ v. IsMemo v c.self.inside.classes.samples.items c.parts_after.new.memo) c.deref-3.ensures
          (c.in-Ok.ensures.memo c.self.inside.classes.samples.items
          (subst (λ v. IsMemo v c.self.inside.classes.samples.items c.run.new.memo) (sym c.deref-3.ensures) run)),
      c.self.invariant.5,
    )

pub returns-in-Ok-clause-parts : goal.returns-in-Ok-clause-parts
returns-in-Ok-clause-parts g c =
    let x = map g.L.Letter.number c.in-Some.before.now in
    let tables = c.self.inside.tables.value in
    let split = c.in-Some.ensures.cases in
    let whole = split.1 in
    let less = c.if-stop-before.false in
    let size = length-map c.in-Some.before.now g.L.Letter.number in
    let stops = subst (λ v. IfSome v (IsRunStop c.deref-2.result.now c.deref.result.now c.run.new.memo x))
    c.in-Some-2.is
    c.in_ok-stop.ensures.stops in
    let stop = subst (λ v. IsRunStop v c.deref.result.now c.run.new.memo x c.in-Some-2.stop) c.deref-2.ensures stops in
    if_some c.in-Ok.reported _ _ (λ parts found.
    subst (λ v. AreAwaited v (map g.L.Letter.number c.args.line.now) (length c.args.line.now) parts.items)
    c.self.view_is
    (awaited_there tables c.self.invariant.0 c.self.invariant.1 c.self.invariant.2 c.deref.result.now c.run.new.memo x
    c.in-Some-2.stop stop c.self.invariant.5 c.value.result (c.in-Some-2.stop.row / (length c.deref.result.now + 1))
    parts.items (omega (arith, less, size)) refl
    (λ got there. subst (λ t. AddsParts t (λ v. LedBy (WalkGoes t) (Lifted (ReadsFrom t c.value.result
    c.run.new.memo.cache.conts.items.items got.tops.items) (below_of c.run.new.memo.cache.conts.items.items
    c.run.new.memo.suffixes.items)) v) [] parts.items) c.deref-3.ensures (found got there))
    (map g.L.Letter.number c.args.line.now) (length c.args.line.now)
    (ap (λ v. map g.L.Letter.number v) split.0
    ∙ (map-append g.L.Letter.number c.in-Some.before.now (c.in-Some.last.now ∷ [])
    ∙ ap (λ v. x ++ v ∷ []) (sym c.value.ensures.number))) (omega (arith, whole, size)))) c.in-Ok.ensures.parts
