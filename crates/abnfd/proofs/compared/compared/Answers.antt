-- What is found, and its explanation.
use Rattle.abnfd.specs.ComparedTexts.{has_found}
use Rattle.abnfd.proofs.compared.compared.Goals as goal

pub returns : goal.returns
returns c = rw (
  c.in_ok-extend_from_slice.ensures.items,
  c.as_slice.ensures.value,
  c.in_ok-text.ensures,
  c.comparison_status.ensures,
)
    (has_found c.in_ok-found.found c.in_ok-why.why.items c.in_ok-found.ensures c.in_ok-why.ensures)
