use Rattle.std.proofs.lemmas.Result.{on_ok_weaker}
use Rattle.rfcforms.proofs.lists.written.push_list.Goals as goal

pub returns : goal.returns
returns c = on_ok_weaker c.push_sent.result
    (λ e. (c.in_ok-copy.copy.items, c.in_ok-copy.ensures, rw c.in-Send.is (rw c.deref-in-Send.ensures.value at e)))
    c.push_sent.ensures
