-- Both windows hold the words of the new one.
use Rattle.std.proofs.Common.{◌↔◌, subst, arith, Contains}
use Rattle.earley.specs.RowMembers.{members}
use Rattle.earley.proofs.RowMembersLemmas.{members_common}
use Rattle.earley.proofs.row.BitRow.common.Goals as goal

pub invariant_of-result : goal.invariant_of-result
invariant_of-result c =
    let count = c.loop-i.invariant.count in
    let short = c.loop-i.invariant.short in
    omega (arith, count, short)

pub returns : goal.returns
returns c x =
    let f = c.self.inside.first in
    let a = c.other.inside.first in
    let words = c.self.inside.words.items in
    let more = c.other.inside.words.items in
    let low = c.max-low.result in
    let both = c.loop-i.words.items in
    let count = c.loop-i.invariant.count in
    let end = c.loop-i-test.false in
    let least = c.min-high.ensures in
    let one = c.len.ensures in
    let two = c.len-2.ensures in
    let one_ok = c.self.inside.words.ok.0 in
    let two_ok = c.other.inside.words.ok.0 in
    subst (λ v. Contains (members low both) x ↔ (Contains v x × Contains c.args.other.now x)) c.self.view_is
    (subst (λ v. Contains (members low both) x ↔ (Contains (members f words) x × Contains v x)) c.other.view_is
    (members_common f a low words more both c.max-low.ensures
    (omega (arith, count, end, least, one, two, one_ok, two_ok)) c.loop-i.invariant.same x))
