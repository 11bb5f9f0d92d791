use Rattle.std.proofs.Common.{◌+◌, map, refl, arith}
use Rattle.lazydfa.proofs.IsRunVerdictLemmas.{number_at}
use Rattle.lazydfa.proofs.IsTrackLemmas.{four_stay}
use Rattle.lazydfa.proofs.glide.stay_four.Goals as goal

pub returns : goal.returns
returns g c = λ yes.
    let w = c.requires.within in
    four_stay c.args.low.now c.args.samples.now c.args.transitions.now (map g.L.Letter.number c.args.line.now)
    c.args.from.row c.args.from.at (g.L.Letter.number c.index-line-from.result)
    (g.L.Letter.number c.index-line-from-2.result) (g.L.Letter.number c.index-line-from-3.result)
    (g.L.Letter.number c.index-line-from-4.result)
    (number_at g.L.Letter.number c.args.line.now c.args.from.at c.index-line-from.result
    (g.L.Letter.number c.index-line-from.result) (omega (arith, w)) c.index-line-from.is refl)
    (number_at g.L.Letter.number c.args.line.now (c.args.from.at + 1) c.index-line-from-2.result
    (g.L.Letter.number c.index-line-from-2.result) (omega (arith, w)) c.index-line-from-2.is refl)
    (number_at g.L.Letter.number c.args.line.now (c.args.from.at + 2) c.index-line-from-3.result
    (g.L.Letter.number c.index-line-from-3.result) (omega (arith, w)) c.index-line-from-3.is refl)
    (number_at g.L.Letter.number c.args.line.now (c.args.from.at + 3) c.index-line-from-4.result
    (g.L.Letter.number c.index-line-from-4.result) (omega (arith, w)) c.index-line-from-4.is refl)
    (c.stays.ensures c.if-not-stays.false) (c.stays-2.ensures c.if-not-stays-2.false)
    (c.stays-3.ensures c.if-not-stays-3.false) (c.stays-4.ensures yes)
