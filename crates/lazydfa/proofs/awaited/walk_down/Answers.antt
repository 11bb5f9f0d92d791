use Rattle.std.proofs.Common.{◌-◌, arith, refl, subst}
use Rattle.std.proofs.lemmas.Option.{slice_get-get_or}
use Rattle.std.specs.Prelude.{Contains, IfSome}
use Rattle.lazydfa.specs.Conts.{IsStackOf}
use Rattle.lazydfa.specs.NameWalks.{AddsParts, IsWalked}
use Rattle.lazydfa.proofs.ContsLemmas.{kept_both}
use Rattle.lazydfa.proofs.WalkedOverLemmas.{down_begins, goes_down, none_left, not_ended}
use Rattle.lazydfa.proofs.awaited.walk_down.Goals.{then-not-ended-via-then-not-ended}
use Rattle.lazydfa.proofs.awaited.walk_down.Goals.{then-not-ended-via-else-not-ended+then-left-eq0}
use Rattle.lazydfa.proofs.awaited.walk_down.Goals as goal

pub loop-init : goal.loop-init
loop-init c =
    down_begins c.args.tables.now c.args.conts.now.items.items c.args.ids.now.items.items c.args.suffixes.now
    c.args.parts.now.items _ refl c.requires.within

pub walk-requires-clause-within : goal.walk-requires-clause-within
walk-requires-clause-within c = λ id h. (c.loop.invariant.within id h).1

pub returns-in_default-clause-kept : goal.returns-in_default-clause-kept
returns-in_default-clause-kept c = kept_both _ _ _ c.loop.invariant.kept c.in_ok-ended.ensures.kept

pub add_parts-requires-clause-within : goal.add_parts-requires-clause-within
add_parts-requires-clause-within c = λ id h.
    let walked = subst (λ v. IfSome v (IsWalked c.args.tables.now c.loop.conts.items.items c.loop.ids.items.items
    c.walk.new.conts.items.items c.walk.new.ids.items.items)) c.in-Some.is c.in_ok-ended.ensures.walked in
    walked.within id (subst (λ v. Contains v id) c.deref.ensures.value h)

pub add_parts-requires-clause-older : goal.add_parts-requires-clause-older
add_parts-requires-clause-older c = c.in_ok-ended.ensures.kept.older (c.loop.invariant.kept.older c.requires.older)

pub returns-then-not-ended-clause-kept : goal.returns-then-not-ended-clause-kept
returns-then-not-ended-clause-kept c = kept_both _ _ _ c.loop.invariant.kept c.in_ok-ended.ensures.kept

pub returns-then-not-ended-clause-parts : goal.returns-then-not-ended-clause-parts
returns-then-not-ended-clause-parts c = λ _.
    let walked = subst (λ v. IfSome v (IsWalked c.args.tables.now c.loop.conts.items.items c.loop.ids.items.items
    c.walk.new.conts.items.items c.walk.new.ids.items.items)) c.in-Some.is c.in_ok-ended.ensures.walked in
    let adds = subst (λ v. AddsParts c.args.tables.now (IsStackOf c.walk.new.conts.items.items v) c.loop.parts.items
    c.add_parts.new.parts.items) c.deref.ensures.value c.in_ok-add_parts.ensures in
    elim c.then-not-ended.branch [
      | then-not-ended-via-then-not-ended w ↦ not_ended c.args.tables.now c.args.conts.now.items.items
          c.args.ids.now.items.items c.args.suffixes.now c.args.parts.now.items c.loop.conts.items.items
          c.walk.new.conts.items.items c.loop.ids.items.items c.walk.new.ids.items.items c.loop.left
          c.loop.parts.items c.add_parts.new.parts.items c.in-Some.ended c.requires.older c.loop.invariant
          c.in_ok-ended.ensures.kept walked adds w.if-not-ended.true
      | then-not-ended-via-else-not-ended+then-left-eq0 w ↦ none_left c.args.tables.now c.args.conts.now.items.items
          c.args.ids.now.items.items c.args.suffixes.now c.args.parts.now.items c.loop.conts.items.items
          c.walk.new.conts.items.items c.loop.ids.items.items c.walk.new.ids.items.items c.loop.left
          c.loop.parts.items c.add_parts.new.parts.items c.in-Some.ended c.requires.older c.loop.invariant
          c.in_ok-ended.ensures.kept walked adds w.if-left-eq0.true
    ]

pub loop-preserved : goal.loop-preserved
loop-preserved c =
    let walked = subst (λ v. IfSome v (IsWalked c.args.tables.now c.loop.conts.items.items c.loop.ids.items.items
    c.walk.new.conts.items.items c.walk.new.ids.items.items)) c.in-Some.is c.in_ok-ended.ensures.walked in
    let adds = subst (λ v. AddsParts c.args.tables.now (IsStackOf c.walk.new.conts.items.items v) c.loop.parts.items
    c.add_parts.new.parts.items) c.deref.ensures.value c.in_ok-add_parts.ensures in
    goes_down c.args.tables.now c.args.conts.now.items.items
    c.args.ids.now.items.items c.args.suffixes.now c.args.parts.now.items c.loop.conts.items.items
    c.walk.new.conts.items.items c.loop.ids.items.items c.walk.new.ids.items.items c.loop.left
    c.loop.parts.items c.add_parts.new.parts.items c.in-Some.ended c.requires.older c.loop.invariant
    c.in_ok-ended.ensures.kept walked adds (c.loop.left - 1) _ c.add.new.ids.items.items c.if-not-ended.false
    (let some = c.if-left-eq0.false in omega (arith, some))
    (slice_get-get_or c.args.suffixes.now (c.loop.left - 1) 0
    (let some = c.if-left-eq0.false in let most = c.loop.invariant.most in omega (arith, some, most)))
    c.empty.new.ids.items.items c.empty.ensures c.in_ok-add.ensures c.requires.suffixes

pub returns-in_ok-add-clause-kept : goal.returns-in_ok-add-clause-kept
returns-in_ok-add-clause-kept c = kept_both _ _ _ c.loop.invariant.kept c.in_ok-ended.ensures.kept
