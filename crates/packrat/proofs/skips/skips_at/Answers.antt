use Rattle.std.proofs.Common.{arith, refl, subst}
use Rattle.packrat.specs.Skipped.{IsRest}
use Rattle.packrat.proofs.SkippedLemmas.{passed_within}
use Rattle.packrat.proofs.skips.skips_at.Goals as goal

pub rest_from-requires : goal.rest_from-requires
rest_from-requires c =
    let is = c.from.ensures in
    let le = passed_within c.args.peg.now c.args.window.now c.args.more c.args.peg.now.keys
    (c.skip_at-skip.ensures c.args.alternatives.now c.requires.at) in
    omega (arith, is, le)

pub returns : goal.returns
returns c = record {
  node = c.args.choice;
  position = c.args.position;
  members = c.args.alternatives.now;
  index = c.skip_at-skip.result.index;
  task = refl;
  at = c.requires.at;
  passed = c.skip_at-skip.ensures c.args.alternatives.now c.requires.at;
  rest = subst (λ v. IsRest c.args.peg.now.keys c.args.choice c.args.alternatives.now v c.args.position
      c.rest_from.result) c.from.ensures
      c.rest_from.ensures;
}
