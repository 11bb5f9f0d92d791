use Rattle.std.proofs.Common.{map}
use Rattle.abnfblocks.specs.TextLines.{numbered}
use Rattle.abnfblocks.proofs.FoundRuleLemmas.{cut-reads, fault-limit, limit-here, no-cut}
use Rattle.abnfblocks.proofs.look.cut_limit.Goals as goal

pub returns-then-not-may_end_there : goal.returns-then-not-may_end_there
returns-then-not-may_end_there c = limit-here (map numbered c.args.rule.now) c.args.size
    (λ h. c.requires.bar c.if-not-may_end_there.true h.1)

pub returns-then-not-is_cut : goal.returns-then-not-is_cut
returns-then-not-is_cut c = limit-here (map numbered c.args.rule.now) c.args.size
    (no-cut c.args.size (map numbered c.args.rule.now) c.is_cut.result c.is_cut.ensures c.if-not-is_cut.true)

pub returns-in-None : goal.returns-in-None
returns-in-None c = cut-reads c.args.rule.now c.args.margin_size c.requires.margin c.args.size c.is_cut.result
    c.requires.some c.requires.within c.is_cut.ensures c.if-not-is_cut.false
    (rw c.in-None.is at c.in_ok-fault_of.ensures)

pub returns-in-Some : goal.returns-in-Some
returns-in-Some c =
    let limit = fault-limit c.args.rule.now c.args.margin_size c.requires.margin c.one_reading.ensures.no_fault
    c.args.size c.in-Some.fault (rw c.in-Some.is at c.in_ok-fault_of.ensures) in
    rw c.fault_line.ensures limit
