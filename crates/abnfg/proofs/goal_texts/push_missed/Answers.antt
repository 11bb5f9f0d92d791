-- Three pieces, one after another.
use Rattle.abnfg.proofs.GoalTextLemmas.{three_pushed}
use Rattle.abnfg.proofs.goal_texts.push_missed.Goals as goal

pub returns : goal.returns
returns c =
    three_pushed _ _ _ _ _ _ _ c.in_ok-extend_from_slice.ensures.items c.in_ok-push_goal.ensures
    c.in_ok-extend_from_slice-2.ensures.items
