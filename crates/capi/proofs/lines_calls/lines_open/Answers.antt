-- The number asks for lines of a kind, which are opened into an empty slot, or nothing is done.
use Rattle.std.proofs.Common.{◌∙◌, refl, sym}
use Rattle.capi.proofs.OpenCallLemmas.{closed_is_none}
use Rattle.capi.specs.LinesOpenCall.{of_kind}
use Rattle.capi.specs.OpenCall.{not_asked, not_empty, text_reported, tried}
use Rattle.capi.proofs.lines_calls.lines_open.Goals as goal

pub returns-then-slot-clause-call : goal.returns-then-slot-clause-call
returns-then-slot-clause-call c =
    rw c.nothing_done-then-slot.ensures
    (of_kind c.in-Some.kind (rw c.seed_of-seed.ensures at (sym c.in-Some.ensures))
    (not_empty (sym c.args.slot.now.right ∙ c.if-slot.true) refl (refl, refl) refl))

pub returns-in_default-settings_of-clause-call : goal.returns-in_default-settings_of-clause-call
returns-in_default-settings_of-clause-call c =
    rw c.nothing_done-in_default-settings_of.ensures
    (of_kind c.in-Some.kind (rw c.seed_of-seed.ensures at (sym c.in-Some.ensures))
    (not_asked c.in_default-settings_of.ensures refl (refl, refl) refl))

pub returns-clause-call : goal.returns-clause-call
returns-clause-call c =
    let slot = c.args.slot.now in
    let empty = closed_is_none slot.listing.held slot.is_open slot.right c.if-slot.false in
    of_kind c.in-Some.kind (rw c.seed_of-seed.ensures at (sym c.in-Some.ensures))
    (tried c.in-Some-settings_of.settings (text_reported c.open_lines-reported.result) empty
    c.in-Some-settings_of.ensures
    (rw (c.lay_reported.ensures.status, c.open_lines-reported.new.slot.right) c.open_lines-reported.ensures)
    c.lay_reported.ensures.err)
