use Rattle.std.proofs.Common.{◌<◌, length, sym, ◌∙◌, arith}
use Rattle.std.proofs.lemmas.Option.{slice_get_within, get_or_from_slice_get}
use Rattle.memo.proofs.index.wipe.Goals as goal

pub returns-clause-none : goal.returns-clause-none
returns-clause-none c b h e =
    let w : b < length c.loop-head.heads = slice_get_within c.loop-head.heads b h e in
    sym (get_or_from_slice_get c.loop-head.heads b h 0 e) ∙ c.loop-head.invariant b (omega arith)
