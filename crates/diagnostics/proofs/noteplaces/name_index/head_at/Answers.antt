-- The head at the partition point starts there, or none does.
use Rattle.std.proofs.Common.{◌≡◌, None, Some, sym, ap, ◌∙◌, nat_lt, rules, arith}
use Rattle.std.specs.Prelude.{option_map}
use Rattle.std.proofs.lemmas.Bool.{ltb-false, ltb-true}
use Rattle.std.proofs.lemmas.List.Sorted.{IsPartitionPoint-from_clause, IsPartitionedBy-ltb}
use Rattle.diagnostics.specs.declared.noteplaces.heads.Head.{Head}
use Rattle.diagnostics.proofs.NumberListsLemmas.{got-none, got-there}
use Rattle.diagnostics.proofs.RisingStartsLemmas.{apart-at, found-own, rises-ordered}
use Rattle.diagnostics.proofs.noteplaces.name_index.head_at.Goals as goal

pub returns-in_err-head : goal.returns-in_err-head
returns-in_err-head c =
    let heads = c.args.heads.now in
    let parted = IsPartitionedBy-ltb (λ (h : Head). h.start) heads c.args.start
    (rises-ordered (λ (h : Head). h.start) 0 heads c.requires) in
    let point = IsPartitionPoint-from_clause (λ (h : Head). nat_lt h.start c.args.start) heads
    c.partition_point-before.result c.partition_point-before.ensures.partitioned parted
    (λ a r q k. search rules) in
    let none = got-none heads c.partition_point-before.result c.in_err-head.ensures.lookup.0 in
    ap (option_map (λ h. h.now)) c.from_residual.ensures
    ∙ sym (apart-at (λ (h : Head). h.start) c.args.start 0 heads c.partition_point-before.result c.requires
    (λ k d lt in_all. ltb-true _ _ (point.0 k d (omega arith) lt))
    (λ k d le in_all. ltb-false _ _ (point.1 k d le in_all))
    (λ h at is. (let some : None ≡ Some h = sym none ∙ at in cc)))

pub returns-then-head-start : goal.returns-then-head-start
returns-then-head-start c =
    let heads = c.args.heads.now in
    sym (found-own (λ (h : Head). h.start) c.args.start 0 heads c.partition_point-before.result c.in_ok-head.head.now
    c.requires (got-there heads c.partition_point-before.result c.in_ok-head.head.now
    c.in_ok-head.ensures.lookup.0 c.in_ok-head.ensures.lookup.1) c.if-head-start.true)

pub returns : goal.returns
returns c =
    let heads = c.args.heads.now in
    let parted = IsPartitionedBy-ltb (λ (h : Head). h.start) heads c.args.start
    (rises-ordered (λ (h : Head). h.start) 0 heads c.requires) in
    let point = IsPartitionPoint-from_clause (λ (h : Head). nat_lt h.start c.args.start) heads
    c.partition_point-before.result c.partition_point-before.ensures.partitioned parted
    (λ a r q k. search rules) in
    let there = got-there heads c.partition_point-before.result c.in_ok-head.head.now
    c.in_ok-head.ensures.lookup.0 c.in_ok-head.ensures.lookup.1 in
    sym (apart-at (λ (h : Head). h.start) c.args.start 0 heads c.partition_point-before.result c.requires
    (λ k d lt in_all. ltb-true _ _ (point.0 k d (omega arith) lt))
    (λ k d le in_all. ltb-false _ _ (point.1 k d le in_all))
    (λ h at is. (let same : c.in_ok-head.head.now ≡ h = (let both : Some c.in_ok-head.head.now ≡ Some h =
    sym there ∙ at in cc) in c.if-head-start.false (ap (λ (x : Head). x.start) same ∙ is))))
