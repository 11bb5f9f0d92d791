use Rattle.std.proofs.Common.{leb, rules, arith}
use Rattle.std.proofs.lemmas.List.Sorted.{IsPartitionPoint-from_clause, IsPartitionedBy-leb}
use Rattle.flatgrammar.proofs.AreClassesLemmas.{class_found, class_low, rising_up}
use Rattle.flatgrammar.proofs.classes.class_above.Goals as goal

pub returns-clause-is : goal.returns-clause-is
returns-clause-is c = λ flat parted.
    let ordered = IsPartitionedBy-leb (λ n. n) c.args.samples.now c.args.value parted.ordered in
    let point = IsPartitionPoint-from_clause (λ n. leb n c.args.value) c.args.samples.now c.partition_point-above.result
    c.partition_point-above.ensures.partitioned ordered (λ a r q k. search rules) in
    class_found flat c.args.samples.now parted c.args.value c.partition_point-above.result (omega arith)
    c.partition_point-above.ensures.bound point c.saturating_sub.result c.saturating_sub.ensures

pub returns-clause-low : goal.returns-clause-low
returns-clause-low c = λ up.
    let ordered = IsPartitionedBy-leb (λ n. n) c.args.samples.now c.args.value (rising_up c.args.samples.now up) in
    let point = IsPartitionPoint-from_clause (λ n. leb n c.args.value) c.args.samples.now c.partition_point-above.result
    c.partition_point-above.ensures.partitioned ordered (λ a r q k. search rules) in
    class_low c.args.samples.now up c.args.value c.partition_point-above.result
    c.partition_point-above.ensures.bound point c.saturating_sub.result c.saturating_sub.ensures
