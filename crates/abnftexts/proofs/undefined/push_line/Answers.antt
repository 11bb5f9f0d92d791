use Rattle.std.proofs.Common.{codes}
use Rattle.abnftexts.specs.TextPositions.{position_shown}
use Rattle.abnftexts.proofs.UndefinedLemmas.{four-after}
use Rattle.abnftexts.proofs.undefined.push_line.Goals as goal

pub returns : goal.returns
returns c =
    let name = rw c.deref.ensures.value at c.in_ok-extend_from_slice-2.ensures.items in
    four-after c.args.out.now.items (position_shown c.args.it.now.text.now c.args.it.now.line) (codes ": '")
    c.args.it.now.name.items (codes "' is not defined\n") _ _ _ _ c.in_ok-push_position.ensures
    c.in_ok-extend_from_slice.ensures.items name c.in_ok-extend_from_slice-3.ensures.items
