use Rattle.std.proofs.Common.{arith}
use Rattle.lazydfa.proofs.AreCachedLemmas.{interned_pushed}
use Rattle.lazydfa.proofs.cache.state_of.Goals as goal

pub returns-clause-is : goal.returns-clause-is
returns-clause-is c =
    interned_pushed c.args.cache.now.states.items c.push.new.self.items _ c.len-t.result c.in_ok-push.ensures.items
    (let l = c.len-t.ensures in omega (arith, l))
