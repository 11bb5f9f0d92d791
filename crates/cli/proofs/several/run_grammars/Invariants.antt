-- The runs on the first names, so far.
use Rattle.std.proofs.Common.{◌∷◌, map, take}
use Rattle.cli.specs.FileRuns.{RunsInOrder, IsGrammarRun, writes_asked}
use Rattle.toolrun.specs.Status.{code_of}
use Rattle.toolrun.specs.Stream.{passed}
use Rattle.cli.proofs.several.run_grammars.Given as goal

abbrev pub invariant-loop-name : goal.invariant-loop-name
invariant-loop-name g l = RunsInOrder (IsGrammarRun (writes_asked g.P.Program.language l.asked)
    (λ text. g.P.Program.states text l.asked.settings)) (l.asked.path.now
    ∷ map (λ s. s.now) (take l.name-index l.names))
    (passed g.O.Sink.contents g.O.Sink.failed l.fn.out l.out)
    (passed g.E.Sink.contents g.E.Sink.failed l.fn.err l.err) (code_of l.most)
