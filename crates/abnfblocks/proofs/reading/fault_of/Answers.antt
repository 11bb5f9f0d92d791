use Rattle.std.proofs.Common.{ℕ, List, ◌∙◌, subst}
use Rattle.abnfread.specs.AbnfReading.{Reads}
use Rattle.abnfread.specs.AbnfViews.{definitions_from}
use Rattle.abnfblocks.proofs.reading.fault_of.Goals as goal

pub returns-in-Ok : goal.returns-in-Ok
returns-in-Ok c =
    let read = definitions_from c.in-Ok.field-0.items in
    let same = c.deref.ensures.value ∙ c.in_ok-text.ensures in
    (read, subst (λ (text : List ℕ). Reads text read) same c.in-Ok.ensures.found)
