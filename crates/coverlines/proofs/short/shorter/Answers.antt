-- The shorter list is kept.
use Rattle.std.proofs.Common.{Some, arith}
use Rattle.coverlines.proofs.ShortestLemmas as s
use Rattle.coverlines.proofs.short.shorter.Goals as goal

pub returns-in_default : goal.returns-in_default
returns-in_default c = λ b rules es e limit h k. s.some_or b rules es e limit c.args.next
    (s.second_alone _ _ limit c.args.next (rw c.in_default.is at h) k)

pub returns-in_default-next : goal.returns-in_default-next
returns-in_default-next c = λ b rules es e limit h k. s.some_or b rules es e limit (Some c.in-Some.first)
    (s.first_alone c.in-Some.first.items (rw c.in-Some.is at h) (rw c.in_default-next.is at k))

pub returns-then-len : goal.returns-then-len
returns-then-len c = λ b rules es e limit h k. s.some_or b rules es e limit (Some c.in-Some-next.second)
    (s.second_shorter c.in-Some.first.items c.in-Some-next.second.items
    (omega (arith, c.if-len.true, c.len.ensures, c.len-2.ensures, c.in-Some.first.ok.0, c.in-Some-next.second.ok.0))
    (rw c.in-Some.is at h) (rw c.in-Some-next.is at k))

pub returns-else-len : goal.returns-else-len
returns-else-len c = λ b rules es e limit h k. s.some_or b rules es e limit (Some c.in-Some.first)
    (s.first_shorter c.in-Some.first.items c.in-Some-next.second.items
    (omega (arith, c.if-len.false, c.len.ensures, c.len-2.ensures, c.in-Some.first.ok.0, c.in-Some-next.second.ok.0))
    (rw c.in-Some.is at h) (rw c.in-Some-next.is at k))
