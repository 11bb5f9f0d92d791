-- Each table is that of the nodes that its function was given.
use Rattle.gramcheck.proofs.ranked.tables_of.Goals as goal

pub print_marks-requires-clause-bodies : goal.print_marks-requires-clause-bodies
print_marks-requires-clause-bodies c = rw (c.deref-2.ensures.value, c.deref.ensures.value) c.requires.bodies

pub returns : goal.returns
returns c = (
  rw (c.deref.ensures.value, c.deref-2.ensures.value) at c.in_ok-printing.ensures,
  rw c.deref-3.ensures.value at c.in_ok-templates.ensures,
  rw (c.deref-4.ensures.value, c.deref-5.ensures.value) at c.in_ok-keys.ensures,
  rw (
    c.deref-6.ensures.value,
    c.deref-7.ensures.value,
    c.deref-8.ensures.value,
    c.deref-9.ensures.value,
  ) at c.in_ok-by_byte.ensures,
)
