-- The line that says that an explanation is missing, in four pieces.
use Rattle.std.proofs.Common.{append_assoc}
use Rattle.linejudge.proofs.reached.Explanations.end_at.Goals as goal

pub returns-clause-text : goal.returns-clause-text
returns-clause-text c =
    let one = rw c.unwrap.ensures at c.extend_from_slice.ensures.items in
    let two = rw c.unwrap-2.ensures at c.extend_from_slice-2.ensures.items in
    let three = rw c.unwrap-3.ensures at c.extend_from_slice-3.ensures.items in
    let four = rw c.unwrap-4.ensures at c.extend_from_slice-4.ensures.items in
    rw (four, three, two, one, c.as_bytes.ensures.value, c.format.ensures.text) (simp append_assoc)
