use Rattle.std.proofs.Common.{leb, rules}
use Rattle.std.proofs.lemmas.List.Sorted.{IsPartitionPoint-from_clause, IsPartitionedBy-leb}
use Rattle.flatgrammar.proofs.AreClassesLemmas.{rising_up}
use Rattle.rulelines.proofs.StartsLemmas.{start_reported}
use Rattle.rulelines.proofs.list.starts.start_up_to.Goals as goal

pub returns : goal.returns
returns c =
    let up = rising_up c.args.starts.now c.requires.rise in
    let ordered = IsPartitionedBy-leb (λ n. n) c.args.starts.now c.args.key up in
    let point = IsPartitionPoint-from_clause (λ n. leb n c.args.key) c.args.starts.now c.partition_point-above.result
    c.partition_point-above.ensures.partitioned ordered (λ a r q k. search rules) in
    start_reported c.args.starts.now c.args.key c.partition_point-above.result c.checked_sub.result
    c.partition_point-above.ensures.bound point up c.checked_sub.ensures
