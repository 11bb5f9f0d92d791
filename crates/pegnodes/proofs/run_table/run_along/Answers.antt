use Rattle.std.proofs.Common.{◌≡◌, ◌<◌, ◌+◌, Some, slice_get, arith, sym, ap, ◌∙◌, subst}
use Rattle.pegnodes.specs.RunTables.{IterationsTo, iteration_evals}
use Rattle.pegnodes.proofs.RunTablesLemmas.{iterations_begin, iterations_next, byte_at, evals_at, same_byte_at}
use Rattle.pegnodes.proofs.run_table.run_along.Goals as goal

pub loop-end-init : goal.loop-end-init
loop-end-init c = record {
  iterations = iterations_begin c.args.entries.now c.args.window.now c.args.from;
  fits = omega arith;
}

pub loop-end-preserved : goal.loop-end-preserved
loop-end-preserved c =
    let low = c.loop-end.auto.end in
    let is = c.from-evals.ensures in
    let fits = c.loop-end.invariant.fits in
    let most = c.evals_of-iteration.ensures.fits in
    let byte : c.from.result < 256 = let here = c.from.ensures in
    omega (arith, here, c.type_inv.window c.loop-end.end) in
    let whole = c.requires.whole in
    let last = c.loop-end-test.true in
    let to = c.requires.to in
    record {
      iterations = subst (λ m. IterationsTo c.args.entries.now c.args.window.now c.args.from (c.loop-end.end + 1)
          (c.loop-end.evals + m)) (sym is)
          (iterations_next c.args.entries.now c.args.window.now c.args.from c.loop-end.end c.loop-end.evals
          c.evals_of-iteration.result c.from.result low c.loop-end.invariant.iterations
          (byte_at c.args.entries.now c.args.window.now c.args.from c.loop-end.end
          (omega (arith, last, to))
          ∙ ap Some (sym c.from.ensures))
          (evals_at c.args.entries.now c.args.window.now c.args.from c.from.result c.evals_of-iteration.result
          (omega (arith, byte, whole)) c.evals_of-iteration.ensures.evals) c.if-iteration-eq0.false);
      fits = omega (arith, fits, most, is, low);
    }

pub returns-then-iteration-eq0 : goal.returns-then-iteration-eq0
returns-then-iteration-eq0 c =
    let byte : c.from.result < 256 = let here = c.from.ensures in
    omega (arith, here, c.type_inv.window c.loop-end.end) in
    let whole = c.requires.whole in
    let last = c.loop-end-test.true in
    record {
      low = c.loop-end.auto.end;
      high = omega (arith, last);
      iterations = c.loop-end.invariant.iterations;
      ends = λ less b is.
          let same = same_byte_at c.args.entries.now c.args.window.now c.args.from c.loop-end.end b is in
          ap (λ v. iteration_evals (slice_get c.args.entries.now v)) (sym (c.from.ensures ∙ same))
          ∙ evals_at c.args.entries.now c.args.window.now c.args.from c.from.result c.evals_of-iteration.result
          (omega (arith, byte, whole)) c.evals_of-iteration.ensures.evals ∙ c.if-iteration-eq0.true;
    }

pub returns : goal.returns
returns c =
    let last = c.loop-end-test.false in
    let most = c.loop-end.auto.end-end in
    let from = c.requires.from in
    let end : c.loop-end.end ≡ c.args.to = omega (arith, last, most, from) in
    record {
      low = from;
      high = omega arith;
      iterations = subst (λ q. IterationsTo c.args.entries.now c.args.window.now c.args.from q c.loop-end.evals) end
          c.loop-end.invariant.iterations;
      ends = λ less b is. absurd (omega (arith, less));
    }
