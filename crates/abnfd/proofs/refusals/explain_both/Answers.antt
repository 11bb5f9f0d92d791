-- The text on the new side comes first.
use Rattle.std.proofs.Common.{refl}
use Rattle.abnfd.proofs.refusals.explain_both.Goals as goal

pub returns : goal.returns
returns c = record {
  by_new = c.in_ok-by_new.by_new.items;
  by_old = c.in_ok-by_old.by_old.items;
  new_rejects = c.in_ok-by_new.ensures;
  old_rejects = c.in_ok-by_old.ensures;
  all = rw (c.in_ok-extend_from_slice.ensures.items, c.as_slice.ensures.value) refl;
}
