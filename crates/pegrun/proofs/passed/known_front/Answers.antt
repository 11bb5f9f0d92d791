use Rattle.std.proofs.Common.{arith, length, take, ap, ◌∙◌}
use Rattle.std.proofs.lemmas.List.{length-take-le}
use Rattle.feed.specs.Feed.{bytes_of}
use Rattle.pegrun.proofs.PassedLemmas.{kept_first, kept_known}
use Rattle.pegrun.proofs.passed.known_front.Goals as goal

pub returns-in-Ok : goal.returns-in-Ok
returns-in-Ok g c =
    let front = take c.min.result c.front-piece.result.now in
    let l = ap length c.in-Ok.ensures.items
    ∙ length-take-le c.count-count.result front c.count-count.ensures.within in
    let some = c.if-count-eq0.false in
    record {
      some = omega (arith, l, some);
      first = kept_first c.in-Ok.bytes.items c.front-piece.result.now (bytes_of c.args.feed.now) c.count-count.result
          c.min.result c.in-Ok.ensures.items c.front-piece.ensures;
      known = kept_known c.args.units.now front c.count-count.result c.in-Ok.bytes.items c.count-count.ensures.count
          c.count-count.ensures.within c.in-Ok.ensures.items;
    }
