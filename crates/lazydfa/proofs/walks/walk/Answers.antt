use Rattle.std.proofs.Common.{sym, ◌∙◌, ap, arith}
use Rattle.std.specs.Prelude.{Some}
use Rattle.std.proofs.lemmas.Option.{slice_get-get_or}
use Rattle.lazydfa.specs.NameWalks.{WalkGoes}
use Rattle.lazydfa.proofs.IsClosureLemmas.{closing_none, closing_more, closing_done}
use Rattle.lazydfa.proofs.walks.walk.Goals as goal

pub loop-init : goal.loop-init
loop-init c = closing_none c.args.tables.now (WalkGoes c.args.tables.now) c.args.conts.now.items.items
    c.args.ids.now.items.items c.requires.within

pub returns-then-count-len-clause-walked : goal.returns-then-count-len-clause-walked
returns-then-count-len-clause-walked c =
    closing_done c.args.tables.now (WalkGoes c.args.tables.now) c.args.conts.now.items.items c.args.ids.now.items.items
    c.loop.conts.items.items
    c.loop.ids.items.items c.loop.count c.loop.ended c.requires.within c.loop.invariant
    (let l = c.len.ensures in let t = c.if-count-len.true in omega (arith, l, t))

pub walk_on-requires-clause-within : goal.walk_on-requires-clause-within
walk_on-requires-clause-within c =
    c.loop.invariant.within c.index-id.result.now (
      c.loop.count,
      (let l = c.len.ensures in let t = c.if-count-len.false in
          omega (arith, l, t)),
      sym c.index-id.ensures,
    )

pub loop-preserved : goal.loop-preserved
loop-preserved c =
    rw c.either-ended.ensures
    (closing_more c.args.tables.now (WalkGoes c.args.tables.now) c.args.conts.now.items.items c.args.ids.now.items.items
    _ _ _ _ c.loop.count
    c.index-id.result.now c.loop.ended c.in_ok-now.now c.loop.invariant
    (slice_get-get_or c.loop.ids.items.items c.loop.count c.index-id.result.now
    (let l = c.len.ensures in let t = c.if-count-len.false in omega (arith, l, t))
    ∙ ap (λ v. Some v) (sym c.index-id.ensures))
    c.in_ok-now.ensures.kept c.in_ok-now.ensures.adds c.in_ok-now.ensures.ended)
