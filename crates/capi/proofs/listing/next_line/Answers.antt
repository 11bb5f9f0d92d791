-- The next line, or why there is none.
use Rattle.std.proofs.Common.{◌∙◌, refl, sym}
use Rattle.capi.specs.NextLineCall.{ends, gives, no_memory, too_many}
use Rattle.capi.proofs.listing.next_line.Goals as goal

pub returns-in_default : goal.returns-in_default
returns-in_default c = rw (c.no_line.ensures, c.code.ensures) (too_many c.args.listing.now _ refl refl)

pub returns-in-Ok : goal.returns-in-Ok
returns-in-Ok c =
    let given = c.in-Ok-Some-Line in
    let next = rw given.field-0-0-is at (rw given.field-0-is at given.ensures) in
    let bytes = rw c.as_slice.ensures.value at c.in-Ok.ensures in
    rw c.code-in-Ok.ensures (gives c.args.listing.now c.in-Some.list c.step-found.new.list given.line
    (sym c.take.ensures.value ∙ c.in-Some.is) next
    (rw (c.as_slice-in-Ok.ensures.value, bytes) at c.lay.ensures.room)
    (rw (c.lay.ensures.length, c.as_slice-in-Ok.ensures.value, bytes) refl))

pub returns-in-Err-line_bytes : goal.returns-in-Err-line_bytes
returns-in-Err-line_bytes c = rw (c.no_line-in-Err-line_bytes.ensures, c.code-in-Err-line_bytes.ensures)
    (no_memory c.args.listing.now _ refl refl)

pub returns-in-Ok-Some-Done : goal.returns-in-Ok-Some-Done
returns-in-Ok-Some-Done c =
    let given = c.in-Ok-Some-Done in
    let next = rw given.field-0-0-is at (rw given.field-0-is at given.ensures) in
    rw (c.no_line-in-Ok-Some-Done.ensures, c.code-in-Ok-Some-Done.ensures) (ends c.args.listing.now c.in-Some.list
    c.step-found.new.list (sym c.take.ensures.value ∙ c.in-Some.is) next refl refl)

pub returns-in-Ok-None : goal.returns-in-Ok-None
returns-in-Ok-None c = rw (c.no_line-in-Ok-None.ensures, c.code-in-Ok-None.ensures)
    (too_many c.args.listing.now _ refl refl)

pub returns-in-Err : goal.returns-in-Err
returns-in-Err c = rw (c.no_line-in-Err.ensures, c.code-in-Err.ensures) (no_memory c.args.listing.now _ refl refl)
