use Rattle.std.proofs.Common.{subst, sym}
use Rattle.std.specs.Prelude.{Contains}
use Rattle.std.proofs.lemmas.Result.{IfOk-weaker}
use Rattle.rulelines.specs.FirstLines.{sort_key}
use Rattle.rulelines.specs.StateTables.{line_symbols}
use Rattle.rulelines.proofs.LineSamplesLemmas.{samples_ends, samples_each}
use Rattle.rulelines.proofs.miss.symbols.line_samples.Goals as goal

pub returns-clause-each : goal.returns-clause-each
returns-clause-each c = IfOk-weaker c.symbols_of.result _ _ (λ samples all.
    samples_each c.args.flat.now (line_symbols c.args.inner) c.in_ok-starts.starts.items samples.items
    c.in_ok-starts.ensures.starts
    (λ b symbol h. all b symbol (subst (λ v. Contains v (sort_key b)) (sym c.deref.ensures.value) h)))
    c.symbols_of.ensures.all

pub returns-clause-ends : goal.returns-clause-ends
returns-clause-ends c = IfOk-weaker c.symbols_of.result _ _ (λ samples all asked.
    samples_ends c.args.flat.now (line_symbols c.args.inner) c.in_ok-starts.starts.items samples.items
    c.in_ok-starts.ensures.starts
    (λ b symbol h. all b symbol (subst (λ v. Contains v (sort_key b)) (sym c.deref.ensures.value) h))
    (c.in_ok-starts.ensures.ends asked))
    c.symbols_of.ensures.all
