use Rattle.std.proofs.Common.{◌+◌, map, refl, subst, arith}
use Rattle.lazydfa.specs.Transitions.{StaysOver}
use Rattle.lazydfa.proofs.IsTrackLemmas.{none_stay, stays_both}
use Rattle.lazydfa.proofs.glide.stay_on.Goals as goal

pub fours-init : goal.fours-init
fours-init g c = record {
  within = c.requires.within;
  further = omega arith;
  row = refl;
  stays = none_stay c.args.low.now c.args.samples.now c.args.transitions.now (map g.L.Letter.number c.args.line.now)
      c.args.from.row c.args.from.at;
}

pub fours-preserved : goal.fours-preserved
fours-preserved g c = record {
  within = omega arith;
  further = omega arith;
  row = c.fours.invariant.row;
  stays = stays_both c.args.low.now c.args.samples.now c.args.transitions.now (map g.L.Letter.number c.args.line.now)
      c.args.from.row c.args.from.at c.fours.at (c.fours.at + 4) c.fours.invariant.stays
      (subst (λ v. StaysOver c.args.low.now c.args.samples.now c.args.transitions.now
      (map g.L.Letter.number c.args.line.now) v c.fours.at (c.fours.at + 4)) c.fours.invariant.row
      (c.stay_four.ensures c.if-not-stay_four.false));
}
