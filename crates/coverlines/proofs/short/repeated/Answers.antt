-- So many rounds fit, or no list does.
use Rattle.std.proofs.Common.{◌≡◌, ◌∙◌, ◌+◌, ◌++◌, None, Some, ap, arith, subst, sym}
use Rattle.coverlines.specs.Shortest.{IsShortestOf, Joined, Spells, SpellsTimes}
use Rattle.coverlines.proofs.ShortestLemmas as s
use Rattle.coverlines.proofs.short.repeated.Goals as goal

pub returns-then-count-eq0 : goal.returns-then-count-eq0
returns-then-count-eq0 c = λ b rules e h. subst (λ k. IsShortestOf (SpellsTimes b rules e k) c.args.limit
    c.new.result.items) (sym c.if-count-eq0.true) (s.no_rounds b rules e c.args.limit c.new.result.items
    c.new.ensures.items)

pub returns-in_default : goal.returns-in_default
returns-in_default c = λ b rules e h. s.no_round b rules e c.args.count c.args.limit
    (omega (arith, c.if-count-eq0.false))
    (rw c.in_default.is at h)

pub returns-then-is_empty : goal.returns-then-is_empty
returns-then-is_empty c = λ b rules e h. s.empty_rounds b rules e c.args.count c.args.limit c.in-Some.round.items
    (grind (arith, c.is_empty.ensures, c.if-is_empty.true, c.in-Some.round.ok.0)) (rw c.in-Some.is at h)

pub loop-init : goal.loop-init
loop-init c = λ b rules e h. s.no_rounds b rules e c.args.limit c.new-all.result.items c.new-all.ensures.items

pub returns-then-limit-len : goal.returns-then-limit-len
returns-then-limit-len c = λ b rules e h.
    let round = rw c.in-Some.is at h in
    s.no_more_rounds b rules e (c.loop.counter + 1) c.args.count c.args.limit (omega (arith, c.loop-test.true))
    (s.times_next b rules e c.loop.counter c.args.limit None (s.too_long c.loop.all.items c.in-Some.round.items
    (omega (arith, c.if-limit-len.true, c.len.ensures, c.len-in-loop.ensures, c.loop.all.ok.0, c.in-Some.round.ok.0))
    (c.loop.invariant b rules e round) round))

pub loop-preserved : goal.loop-preserved
loop-preserved c = λ b rules e round.
    let both : c.extend_from_slice.new.self.items ≡ c.loop.all.items ++ c.in-Some.round.items =
    c.in_ok-extend_from_slice.ensures.items ∙ ap (λ w. c.loop.all.items ++ w) c.deref.ensures.value in
    s.times_next b rules e c.loop.counter c.args.limit (Some c.extend_from_slice.new.self)
    (subst (IsShortestOf (Joined (SpellsTimes b rules e c.loop.counter) (Spells b rules e)) c.args.limit) (sym both)
    (s.both_joined c.loop.all.items c.in-Some.round.items
    (omega (arith, c.if-limit-len.false, c.len.ensures, c.len-in-loop.ensures, c.loop.all.ok.0, c.in-Some.round.ok.0))
    (c.loop.invariant b rules e round) round))
