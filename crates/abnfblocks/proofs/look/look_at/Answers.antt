use Rattle.std.proofs.Common.{arith}
use Rattle.abnfblocks.specs.FoundRules.{it_reads, it_is_none}
use Rattle.abnfblocks.proofs.FoundRuleLemmas.{first-margin, none-reads, shorter-reads, whole-reads}
use Rattle.abnfblocks.proofs.look.look_at.Goals as goal

pub returns-in-None : goal.returns-in-None
returns-in-None c =
    let margin = first-margin c.args.rule.now _ c.margin-margin_size.result c.requires
    c.margin-margin_size.ensures.margin in
    it_reads (whole-reads c.args.rule.now c.margin-margin_size.result margin c.full_size-longest.result c.requires
    c.full_size-longest.ensures.size (rw c.in-None.is at c.in_ok-outcome.ensures))

pub returns-then-count-gt0 : goal.returns-then-count-gt0
returns-then-count-gt0 c =
    let margin = first-margin c.args.rule.now _ c.margin-margin_size.result c.requires
    c.margin-margin_size.ensures.margin in
    it_reads (shorter-reads c.args.rule.now c.margin-margin_size.result margin c.full_size-longest.result c.requires
    c.full_size-longest.ensures.size c.one_reading.ensures.no_fault c.in-Some.fault c.in_ok-count-in-Some.count
    (rw c.fault_line-limit.ensures at c.in_ok-count-in-Some.ensures) (rw c.in-Some.is at c.in_ok-outcome.ensures)
    c.if-count-gt0.true)

pub returns-else-count-gt0 : goal.returns-else-count-gt0
returns-else-count-gt0 c =
    let margin = first-margin c.args.rule.now _ c.margin-margin_size.result c.requires
    c.margin-margin_size.ensures.margin in
    it_is_none (none-reads c.args.rule.now c.margin-margin_size.result margin c.full_size-longest.result c.requires
    c.full_size-longest.ensures.size c.one_reading.ensures.no_fault c.in-Some.fault c.in_ok-count-in-Some.count
    (rw c.fault_line-limit.ensures at c.in_ok-count-in-Some.ensures) (rw c.in-Some.is at c.in_ok-outcome.ensures)
    (omega (arith, c.if-count-gt0.false)))
