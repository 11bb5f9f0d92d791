-- The next line, or nothing is open.
use Rattle.std.proofs.Common.{refl}
use Rattle.capi.specs.NextLineCall.{not_open}
use Rattle.capi.proofs.OpenCallLemmas.{closed_is_none}
use Rattle.capi.proofs.lines_calls.lines_next.Goals as goal

pub returns-then-not-slot : goal.returns-then-not-slot
returns-then-not-slot c =
    let slot = c.args.slot.now in
    let empty = closed_is_none slot.listing.held slot.is_open slot.right c.if-not-slot.true in
    rw empty (not_open refl c.no_line.ensures)

pub returns : goal.returns
returns c =
    rw (c.take_lines-listing.ensures.listing, c.put_lines.ensures)
    (rw c.deref_mut.ensures.value at c.next_line-found.ensures)
