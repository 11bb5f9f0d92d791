use Rattle.std.proofs.Common.{arith, map}
use Rattle.std.proofs.lemmas.List.{length-map}
use Rattle.flatgrammar.specs.NodeSteps.{flat_of}
use Rattle.lazydfa.specs.StackSuffixes.{below_of}
use Rattle.lazydfa.proofs.AreCachedLemmas.{grown_same}
use Rattle.lazydfa.proofs.ContsLemmas.{kept_same}
use Rattle.lazydfa.proofs.IsAtLemmas.{step_dead}
use Rattle.lazydfa.proofs.IsOverLemmas.{plain_below}
use Rattle.lazydfa.proofs.IsRunVerdictLemmas.{number_at}
use Rattle.lazydfa.proofs.run.dies_at.Goals as goal

pub returns-in-Dead : goal.returns-in-Dead
returns-in-Dead g c = λ yes tables targets classes memo track.
    let x = map g.L.Letter.number c.args.line.now in
    let size = length-map c.args.line.now g.L.Letter.number in
    record {
      within = let lt = c.requires.within in omega (arith, lt, size);
      tracks = track;
      dead = λ _ m lt reached.
          step_dead tables targets x c.args.memo.now.cache.conts.items.items c.args.memo.now.cache.conts.items.items
          c.args.memo.now.cache.states.items c.args.memo.now.cache.states.items
          (kept_same c.args.memo.now.cache.conts.items.items) (grown_same c.args.memo.now.cache.states.items)
          track.state c.args.at.at c.value.result c.class_of-class.result
          (below_of c.args.memo.now.cache.conts.items.items c.args.memo.now.suffixes.items) track.runs.over.at
          (plain_below c.args.memo.now.cache.conts.items.items c.args.memo.now.suffixes.items
          track.runs.over.at.state.ended track.runs.plain)
          c.args.classes.samples.now c.args.memo.now.cache.cells.items memo.cached
          (number_at g.L.Letter.number c.args.line.now c.args.at.at c.index-line-at.result c.value.result
          c.requires.within c.index-line-at.is c.value.ensures.number)
          (c.class_of-class.ensures (flat_of tables) classes.low_are.classes classes.parted) c.look.result
          (λ d sample. c.look.ensures tables c.args.classes.samples.now memo.cached track.state d track.row sample)
          c.in-Dead.is m lt reached;
    }
