use Rattle.std.proofs.Common.{◌≤◌, ◌-◌, length, map}
use Rattle.lazydfa.specs.Memos.{GlidesOver}
use Rattle.lazydfa.proofs.glide.glide.Given as goal

abbrev pub invariant-loop-track : goal.invariant-loop-track
invariant-loop-track g l = record {
  within : l.track.at ≤ length l.line;
  further : l.fn.from.at ≤ l.track.at;
  glides : GlidesOver l.low l.samples l.memo (map g.L.Letter.number l.line) l.fn.from l.track;
}

abbrev pub decreases-loop-track : goal.decreases-loop-track
decreases-loop-track g l = length l.line - l.track.at
