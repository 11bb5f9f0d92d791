-- The runs on grammars, one after another, the first one apart.
use Rattle.std.proofs.Common.{◌∷◌, [], arith, refl}
use Rattle.std.proofs.lemmas.List.{take_more}
use Rattle.cli.specs.FileRuns.{IsGrammarRun, writes_asked}
use Rattle.toolrun.specs.Status.{code_of}
use Rattle.toolrun.specs.Stream.{passed}
use Rattle.cli.proofs.FileRunsLemmas.{all_run, first_run, have_more, some_run}
use Rattle.cli.proofs.several.run_grammars.Goals as goal

pub loop-name-init : goal.loop-name-init
loop-name-init g c =
    first_run (IsGrammarRun (writes_asked g.P.Program.language c.args.asked.now)
    (λ text. g.P.Program.states text c.args.asked.now.settings)) c.args.asked.now.path.now _ _ _ (
      c.run_grammar-most.result.text.items,
      c.run_grammar-most.result.messages.items,
      rw c.syntax.ensures at c.run_grammar-most.ensures,
    )

pub returns-then-is_over : goal.returns-then-is_over
returns-then-is_over g c =
    some_run (IsGrammarRun (writes_asked g.P.Program.language c.args.asked.now)
    (λ text. g.P.Program.states text c.args.asked.now.settings))
    (c.args.asked.now.path.now ∷ []) c.args.names.now c.loop-name.name-index _ _ (code_of c.loop-name.most)
    c.loop-name.invariant (c.is_over.ensures.over c.if-is_over.true)

pub loop-name-preserved : goal.loop-name-preserved
loop-name-preserved g c =
    have_more (IsGrammarRun (writes_asked g.P.Program.language c.args.asked.now)
    (λ text. g.P.Program.states text c.args.asked.now.settings))
    (c.args.asked.now.path.now ∷ []) c.args.names.now c.loop-name.name-index _
    (passed g.O.Sink.contents g.O.Sink.failed c.args.out.now c.loop-name.out)
    (passed g.O.Sink.contents g.O.Sink.failed c.loop-name.out c.run_grammar-run.new.out)
    (passed g.E.Sink.contents g.E.Sink.failed c.args.err.now c.loop-name.err)
    (passed g.E.Sink.contents g.E.Sink.failed c.loop-name.err c.run_grammar-run.new.err)
    (code_of c.loop-name.most) (code_of c.run_grammar-run.result.status) (code_of c.greater_status-most.result)
    c.loop-name.invariant (
      c.run_grammar-run.result.text.items,
      c.run_grammar-run.result.messages.items,
      rw c.syntax.ensures at c.run_grammar-run.ensures,
    ) refl refl
    (take_more c.args.names.now c.loop-name.name-index _ c.loop-name-test.true) c.greater_status-most.ensures

pub returns : goal.returns
returns g c =
    all_run (IsGrammarRun (writes_asked g.P.Program.language c.args.asked.now)
    (λ text. g.P.Program.states text c.args.asked.now.settings))
    (c.args.asked.now.path.now ∷ []) c.args.names.now c.loop-name.name-index _ _ (code_of c.loop-name.most)
    c.loop-name.invariant (omega (arith, c.loop-name-test.false))
