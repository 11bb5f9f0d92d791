use Rattle.pegprint.proofs.PegExplainedLemmas.{two-join}
use Rattle.pegprint.proofs.faults.explain.deep_lines.Goals as goal

pub returns : goal.returns
returns c = two-join _ _ _ _ _ c.new-out.ensures.items c.in_ok-push_token_position.ensures
    c.in_ok-extend_from_slice.ensures.items
