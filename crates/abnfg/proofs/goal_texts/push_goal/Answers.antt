-- Six pieces, one after another.
use Rattle.abnfg.proofs.GoalTextLemmas.{six_pushed}
use Rattle.abnfg.proofs.goal_texts.push_goal.Goals as goal

pub returns : goal.returns
returns c =
    let text = rw (c.deref.ensures.value, c.in_ok-text.ensures, c.subject.ensures) at
    c.in_ok-extend_from_slice-2.ensures.items in
    let before = rw c.words_before.ensures at c.in_ok-extend_from_slice.ensures.items in
    let after = rw c.words_after.ensures at c.in_ok-extend_from_slice-3.ensures.items in
    let name = rw c.rule_name.ensures at c.in_ok-extend_from_slice-5.ensures.items in
    six_pushed _ _ _ _ _ _ _ _ _ _ _ _ _ c.in_ok-push_rounds.ensures before text after
    c.in_ok-extend_from_slice-4.ensures.items name
