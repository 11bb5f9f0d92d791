-- The messages are reported, and the lines stand in the place; or an allocation failed.
use Rattle.capi.proofs.LineListsLemmas.{grammar_is_listed, none_is_listed}
use Rattle.capi.proofs.OpenCallLemmas.{opens_nothing}
use Rattle.capi.proofs.lines_calls.open_lines.Goals as goal

pub returns-in_err-reported : goal.returns-in_err-reported
returns-in_err-reported c =
    opens_nothing c.args.slot.now.listing.held c.requires c.from_residual.result c.from_residual.ensures.0

pub returns-in_default : goal.returns-in_default
returns-in_default c =
    rw c.requires (none_is_listed c.args.kind c.args.grammar.now c.args.settings.now
    c.in_ok-reported.field-0.reported.items _ (rw c.in_default.is at c.in_ok-reported.ensures))

pub returns-in_err-listing : goal.returns-in_err-listing
returns-in_err-listing c =
    opens_nothing c.args.slot.now.listing.held c.requires c.from_residual-in_err-listing.result
    c.from_residual-in_err-listing.ensures.0

pub returns-in_err-new : goal.returns-in_err-new
returns-in_err-new c =
    opens_nothing c.args.slot.now.listing.held c.requires c.from_residual-in_err-new.result
    c.from_residual-in_err-new.ensures.0

pub returns : goal.returns
returns c =
    rw (c.put_lines.ensures, c.in_ok-new.ensures.ok)
    (grammar_is_listed c.args.kind c.args.grammar.now c.args.settings.now c.in_ok-reported.field-0.reported.items
    c.in-Some.sound c.in_ok-listing.listing 0 c.in_ok-listing.ensures (rw c.in-Some.is at c.in_ok-reported.ensures))
