use Rattle.std.proofs.Common.{map}
use Rattle.abnfblocks.specs.TextLines.{numbered}
use Rattle.abnftexts.proofs.RulesTakenLemmas.{shown-found}
use Rattle.abnftexts.proofs.taken.found_text.Goals as goal

pub returns : goal.returns
returns c =
    shown-found c.args.text.now (map numbered c.in_ok-kept.kept.items)
    (record { rows = c.in_ok-rows.rows; found = c.in_ok-found.found })
    (rw c.deref.ensures.value at c.in_ok-kept.ensures) c.in_ok-rows.ensures
    (rw c.deref-2.ensures.value at c.in_ok-found.ensures)
