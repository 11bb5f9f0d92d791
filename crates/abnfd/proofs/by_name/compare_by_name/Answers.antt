use Rattle.abnfd.proofs.by_name.compare_by_name.Goals as goal

pub answer_by_name-requires : goal.answer_by_name-requires
answer_by_name-requires c = (
  c.args.texts.now.old.items,
  c.args.texts.now.new.items,
  rw c.as_slice.ensures.value at c.in_ok-old.ensures.has_checked,
  rw c.as_slice-2.ensures.value at c.in_ok-new.ensures.has_checked,
)

pub returns : goal.returns
returns c = record {
  old_reported = c.in_ok-old.old.reported.items;
  old_grammar = c.in_ok-old.ensures.grammar;
  is_old = rw c.as_slice.ensures.value at c.in_ok-old.ensures.is_side;
  new_reported = c.in_ok-new.new.reported.items;
  new_grammar = c.in_ok-new.ensures.grammar;
  is_new = rw c.as_slice-2.ensures.value at c.in_ok-new.ensures.is_side;
  all = rw (c.as_slice-3.ensures.value, c.as_slice-4.ensures.value) at c.in_ok-reported.ensures;
  answer = c.in_ok-answer.ensures c.args.texts.now.old.items c.args.texts.now.new.items
      (rw c.as_slice.ensures.value at c.in_ok-old.ensures.has_checked)
      (rw c.as_slice-2.ensures.value at c.in_ok-new.ensures.has_checked);
}
