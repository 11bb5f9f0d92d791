use Rattle.refusedlines.proofs.OneRefusalLemmas.{one_text}
use Rattle.refusedlines.proofs.explained.refusal_is_one.Goals as goal

pub returns : goal.returns
returns c = one_text c.utf8_is_decided.ensures.one c.furthest_is_found.ensures.one c.following_is_one.ensures
    c.items_decide.ensures.pruned
