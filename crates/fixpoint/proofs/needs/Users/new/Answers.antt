use Rattle.std.proofs.Common.{◌≡◌, replicate, rules}
use Rattle.fixpoint.proofs.AreListsLemmas as l
use Rattle.fixpoint.proofs.needs.Users.new.Goals as goal

pub returns : goal.returns
returns c =
    let firsts : c.in_ok-vec.field-0.items ≡ replicate c.args.count 0 = search rules in
    l.lists_none _ c.args.count firsts
