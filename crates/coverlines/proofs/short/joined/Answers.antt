-- Both lists fit, or no list does.
use Rattle.std.proofs.Common.{◌≡◌, ◌∙◌, ◌++◌, None, Some, ap, arith, subst, sym}
use Rattle.coverlines.proofs.ShortestLemmas as s
use Rattle.coverlines.specs.Shortest.{IsShortestOf, Joined, Spells, SpellsAll}
use Rattle.coverlines.proofs.short.joined.Goals as goal

pub returns-in_default : goal.returns-in_default
returns-in_default c = λ b rules es e h k. s.all_joined b rules es e c.args.limit None
    (s.no_front (rw c.in_default.is at h))

pub returns-in_default-next : goal.returns-in_default-next
returns-in_default-next c = λ b rules es e h k. s.all_joined b rules es e c.args.limit None
    (s.no_back (rw c.in_default-next.is at k))

pub returns-then-limit-len : goal.returns-then-limit-len
returns-then-limit-len c = λ b rules es e h k. s.all_joined b rules es e c.args.limit None
    (s.too_long c.in-Some.front.items c.in-Some-next.back.items
    (omega (arith, c.if-limit-len.true, c.len.ensures, c.len-2.ensures, c.in-Some.front.ok.0, c.in-Some-next.back.ok.0))
    (rw c.in-Some.is at h) (rw c.in-Some-next.is at k))

pub returns : goal.returns
returns c = λ b rules es e h k.
    let both : c.extend_from_slice.new.self.items ≡ c.in-Some.front.items ++ c.in-Some-next.back.items =
    c.in_ok-extend_from_slice.ensures.items ∙ ap (λ w. c.in-Some.front.items ++ w) c.deref.ensures.value in
    s.all_joined b rules es e c.args.limit (Some c.extend_from_slice.new.self)
    (subst (IsShortestOf (Joined (SpellsAll b rules es) (Spells b rules e)) c.args.limit) (sym both)
    (s.both_joined c.in-Some.front.items c.in-Some-next.back.items
    (omega (
      arith,
      c.if-limit-len.false,
      c.len.ensures,
      c.len-2.ensures,
      c.in-Some.front.ok.0,
      c.in-Some-next.back.ok.0,
    ))
    (rw c.in-Some.is at h) (rw c.in-Some-next.is at k)))
