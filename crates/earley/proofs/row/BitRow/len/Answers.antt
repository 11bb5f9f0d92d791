-- The members are as many as the bits.
use Rattle.std.proofs.Common.{◌≡◌, ℕ, ◌+◌, ◌<◌, ◌≤◌, ◌^◌, ap, sym, ◌∙◌, subst, arith, length, slice_index_or}
use Rattle.std.specs.Prelude.{count_ones}
use Rattle.std.specs.List.{sum_by}
use Rattle.std.specs.List.Sorted.{IsStrictlyIncreasing}
use Rattle.earley.proofs.LenLemmas.{members_count}
use Rattle.earley.proofs.RowMembersLemmas.{members_ascend}
use Rattle.earley.proofs.row.BitRow.len.Goals as goal

pub count_bits-requires : goal.count_bits-requires
count_bits-requires c =
    let same : length c.deref.result.now ≡ length c.self.inside.words.items = ap (λ v. length v) c.deref.ensures.value
    in
    let short : c.self.inside.first + length c.self.inside.words.items ≤ 2 ^ 57 = c.self.invariant in
    omega (arith, same, short)

pub returns-clause-count : goal.returns-clause-count
returns-clause-count c =
    let value = c.deref.ensures.value in
    c.count_bits.ensures.count ∙ ap (λ v. sum_by count_ones v) value
    ∙ sym (members_count c.self.inside.first c.self.inside.words.items
    (subst (λ v. (i : ℕ) → slice_index_or v i 0 < 2 ^ 64) value c.count_bits.ensures.words))
    ∙ ap (λ v. length v) c.self.view_is

pub returns-clause-ascend : goal.returns-clause-ascend
returns-clause-ascend c = subst (λ v. IsStrictlyIncreasing v) c.self.view_is
    (members_ascend c.self.inside.first c.self.inside.words.items)
