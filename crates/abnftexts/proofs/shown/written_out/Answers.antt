use Rattle.std.proofs.Common.{map}
use Rattle.abnfblocks.specs.TextLines.{numbered}
use Rattle.abnftexts.specs.ShownTexts.{asked, not_asked}
use Rattle.abnftexts.proofs.shown.written_out.Goals as goal

pub returns-in_default : goal.returns-in_default
returns-in_default c = rw c.in_default.is not_asked

pub returns : goal.returns
returns c =
    let reads = c.in_ok-kept.ensures in
    let text = rw c.deref.ensures.value at c.in_ok-text.ensures in
    let new = rw (c.deref-2.ensures.value, text) at c.in_ok-expanded_text.ensures in
    rw c.in-Some.is (asked (map numbered c.in_ok-kept.kept.items) reads new)
