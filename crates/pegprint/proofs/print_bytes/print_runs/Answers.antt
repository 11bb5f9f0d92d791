use Rattle.std.proofs.Common.{rules, ap, sym, ◌∙◌}
use Rattle.std.specs.List.{flat_map}
use Rattle.pegread.specs.Escapes.{run_text}
use Rattle.ruletable.proofs.LeavesLemmas.{leaves-all, leaves-rest, leaves-part, leaves-none, leaves-at}
use Rattle.pegprint.proofs.print_bytes.print_runs.Goals as goal

pub loop-first-init : goal.loop-first-init
loop-first-init g c = record {
  left = leaves-at (sym (ap (λ runs. flat_map run_text runs) (c.into_iter-first-iterator.ensures.into_iter_gives
      ∙ c.runs-first-items.ensures.runs))) (leaves-all _ _);
  flag = search rules;
}

pub loop-first-preserved : goal.loop-first-preserved
loop-first-preserved g c = record {
  left = leaves-rest _ _ (leaves-at (ap (λ runs. flat_map run_text runs) c.in-Some.ensures.steps)
      c.loop-first.invariant.left) c.in-Ok.ensures.bytes;
  flag = search rules;
}

pub returns-in-Err-clause-bytes : goal.returns-in-Err-clause-bytes
returns-in-Err-clause-bytes g c = leaves-part _ _ _
    (leaves-at (ap (λ runs. flat_map run_text runs) c.in-Some.ensures.steps) c.loop-first.invariant.left)
    c.in-Err.ensures.bytes

pub returns : goal.returns
returns g c = record {
  bytes = leaves-none (leaves-at (ap (λ runs. flat_map run_text runs) c.in-None.ensures.steps.0)
      c.loop-first.invariant.left);
  flag = search rules;
}
