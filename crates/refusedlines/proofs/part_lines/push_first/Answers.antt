use Rattle.std.proofs.Common.{append-nil, sym}
use Rattle.ruletable.specs.Rules.{names_of}
use Rattle.refusedlines.proofs.PartLinesLemmas.{line_more}
use Rattle.refusedlines.proofs.part_lines.push_first.Goals as goal

pub loop-id-init : goal.loop-id-init
loop-id-init c = sym (append-nil c.args.out.now.items)

pub loop-id-preserved : goal.loop-id-preserved
loop-id-preserved c =
    line_more (names_of c.args.parts.now) c.loop-id.id c.name.result.now _ _ _ c.name.ensures c.loop-id.invariant
    c.in_ok-push_line.ensures
