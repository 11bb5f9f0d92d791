use Rattle.std.proofs.Common.{◌∙◌, List, ap}
use Rattle.abnfblocks.specs.FoundRules.{found_line}
use Rattle.abnfblocks.specs.TextLines.{NumberedLine}
use Rattle.abnftexts.specs.TextPositions.{number_at}
use Rattle.abnftexts.proofs.RulesTakenLemmas.{lines-from}
use Rattle.abnftexts.proofs.values.number_of.Goals as goal

pub returns : goal.returns
returns c =
    c.number_at.ensures
    ∙ ap (λ (xs : List NumberedLine). number_at xs 1) (lines-from c.args.rows.now.lines.items c.items_after.result.now
    (found_line c.args.it) (rw (c.deref.ensures.value, c.lines_of.ensures) at c.items_after.ensures))
