use Rattle.flatgrammar.proofs.OldStacksLemmas.{old_walked, walked_old}
use Rattle.flatgrammar.proofs.stacks.laws.walks_find_old_items.Goals as goal

pub returns : goal.returns
returns c = λ flat last x j c p reports uncounted letter none. (
  λ w. walked_old flat uncounted x last reports j c letter w.1,
  λ h. old_walked flat uncounted x last reports j c letter h.1 h.2 none,
)
