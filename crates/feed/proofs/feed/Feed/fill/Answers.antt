-- Each read gives bytes, or is the last one.
use Rattle.std.proofs.Common.{length, ap, arith, length-append}
use Rattle.feed.proofs.GrowsLemmas.{read_falls}
use Rattle.feed.proofs.feed.Feed.fill.Goals as goal

pub loop-held-smaller : goal.loop-held-smaller
loop-held-smaller g c =
    let on = c.read_more.ensures in
    let went = (rw c.in_default.is at on.went) in
    let more = ap length on.grows.bytes in
    let all = length-append c.loop-held.self.ring.items on.grows.more in
    rw on.grows.capacity (read_falls c.loop-held.self.ring.capacity (length c.loop-held.self.ring.items)
    (length c.read_more.new.self.ring.items) c.loop-held.self.flow c.read_more.new.self.flow went.1 went.0
    (omega (arith, more, all)) went.2)
