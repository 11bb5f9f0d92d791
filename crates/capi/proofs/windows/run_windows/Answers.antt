-- One window after another.
use Rattle.std.proofs.Common.{[], refl, ◌∙◌, ◌++◌, sym}
use Rattle.std.proofs.lemmas.List.{length-set, take_all}
use Rattle.capi.proofs.WindowRunsLemmas.{no_window, one_more_at}
use Rattle.capi.specs.WindowRuns.{planned}
use Rattle.memoryrun.proofs.BufferSinkLemmas.{appended_known}
use Rattle.ruletable.proofs.AppendsLemmas.{Appends-join, Appends-same}
use Rattle.toolrun.specs.Plan.{does_of}
use Rattle.toolrun.specs.Tasks.{task_does}
use Rattle.capi.proofs.windows.run_windows.Goals as goal

pub loop-n-init : goal.loop-n-init
loop-n-init g c = record {
  ran = ([], [], no_window _ _, Appends-same _, Appends-same _);
  count = c.requires.count;
}

pub run_window-requires : goal.run_window-requires
run_window-requires g c =
    let before = c.loop-n.invariant.ran in record {
      out_known = appended_known _ _ _ c.requires.out_known before.3;
      err_known = appended_known _ _ _ c.requires.err_known before.4;
    }

pub loop-n-preserved : goal.loop-n-preserved
loop-n-preserved g c =
    let before = c.loop-n.invariant.ran in
    let run = c.run_window.ensures.0 in
    record {
      ran = (
        before.0 ++ run.out,
        before.1 ++ run.err,
        one_more_at (planned (does_of (λ t. task_does g.L.Language.canonical g.L.Language.runs t
            c.args.of.now.settings.now) c.args.plan.now.task)) c.args.of.now.input.now c.args.of.now.windows.now
            c.loop-n.n _ before.0 before.1 (before.0 ++ run.out) (before.1 ++ run.err) c.loop-n.results
            c.run_window.result run c.loop-n-test.true c.loop-n.invariant.count before.2 c.run_window.ensures.1 refl
            refl c.run_window.ensures.4,
        Appends-join _ _ _ before.0 run.out before.3 c.run_window.ensures.2,
        Appends-join _ _ _ before.1 run.err before.4 c.run_window.ensures.3,
      );
      count = length-set c.loop-n.results c.loop-n.n c.run_window.result ∙ c.loop-n.invariant.count;
    }

pub returns : goal.returns
returns g c =
    let all = c.loop-n.invariant.ran in (
      all.0,
      all.1,
      rw (take_all c.loop-n.n c.loop-n.results (rw (sym c.loop-n.invariant.count) at c.loop-n-test.false))
          at (rw (take_all c.loop-n.n c.args.of.now.windows.now c.loop-n-test.false) at all.2),
      all.3,
      all.4,
    )
