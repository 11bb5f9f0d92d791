-- Something rejects the grammar, or it is run on the inputs.
use Rattle.std.proofs.Common.{◌≡◌, arith, inl, refl}
use Rattle.cli.specs.FileRuns.{rejected, runs}
use Rattle.toolrun.specs.Status.{code_of}
use Rattle.toolrun.specs.Stream.{passed}
use Rattle.toolrun.specs.declared.settings.Mode.TheVariants.{Run}
use Rattle.cli.proofs.FileRunsLemmas.{over_some}
use Rattle.cli.proofs.several.check_and_run.Goals as goal

pub returns-then-code-gt0 : goal.returns-then-code-gt0
returns-then-code-gt0 g c =
    rejected _ c.run_grammar-text.result.text.items c.run_grammar-text.result.messages.items
    (passed g.O.Sink.contents g.O.Sink.failed c.args.out.now c.run_grammar-text.new.out)
    (passed g.E.Sink.contents g.E.Sink.failed c.args.err.now c.run_grammar-text.new.err)
    (code_of c.run_grammar-text.result.status) (refl, refl, refl, refl, refl)
    (rw c.syntax.ensures at c.run_grammar-text.ensures)
    (inl (rw c.code.ensures at c.if-code-gt0.true))

pub returns-then-is_over : goal.returns-then-is_over
returns-then-is_over g c =
    rejected _ c.run_grammar-text.result.text.items c.run_grammar-text.result.messages.items
    (passed g.O.Sink.contents g.O.Sink.failed c.args.out.now c.run_grammar-text.new.out)
    (passed g.E.Sink.contents g.E.Sink.failed c.args.err.now c.run_grammar-text.new.err)
    (code_of c.run_grammar-text.result.status) (refl, refl, refl, refl, refl)
    (rw c.syntax.ensures at c.run_grammar-text.ensures)
    (over_some (code_of c.run_grammar-text.result.status) (c.is_over.ensures.over c.if-is_over.true))

pub returns : goal.returns
returns g c =
    let none : code_of c.run_grammar-text.result.status ≡ 0 =
    omega (arith, c.code.ensures, c.if-code-gt0.false) in
    runs _ (record c.args.asked.settings { mode = Run }) c.run_grammar-text.result.text.items
    c.run_grammar-text.result.messages.items
    (passed g.O.Sink.contents g.O.Sink.failed c.args.out.now c.run_grammar-text.new.out)
    (passed g.O.Sink.contents g.O.Sink.failed c.run_grammar-text.new.out c.run_inputs.new.out)
    (passed g.E.Sink.contents g.E.Sink.failed c.args.err.now c.run_grammar-text.new.err)
    (passed g.E.Sink.contents g.E.Sink.failed c.run_grammar-text.new.err c.run_inputs.new.err)
    (code_of c.run_inputs.result) (refl, refl, refl, refl, refl)
    (rw (none, c.syntax.ensures) at c.run_grammar-text.ensures)
    (refl, refl, refl, refl, refl)
    (rw c.syntax.ensures at c.run_inputs.ensures) refl refl
