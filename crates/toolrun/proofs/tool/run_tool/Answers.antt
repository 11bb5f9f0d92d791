-- What is written first, the task and the end, together.
use Rattle.std.proofs.Common.{◌≡◌, ◌∙◌, sym, true, false, ap, refl}
use Rattle.std.specs.Prelude.{max}
use Rattle.std.specs.Result.{is_err}
use Rattle.toolrun.specs.Status.{code_of}
use Rattle.toolrun.specs.Plan.{does_of, first_text}
use Rattle.toolrun.specs.Stream.{passed}
use Rattle.toolrun.specs.Tasks.{task_does}
use Rattle.toolrun.specs.declared.status.Status.{Status}
use Rattle.toolrun.proofs.IsRightLemmas.{plan_cut, plan_stated, run_is_right, wrote-all, wrote-part}
use Rattle.toolrun.proofs.tool.run_tool.Goals as goal

pub returns-then-is_err : goal.returns-then-is_err
returns-then-is_err g c = record {
  right =
      let failed : is_err c.write_first.result ≡ true = sym c.if-is_err.ensures.value in
      plan_cut (g.L.Language.states c.args.grammar.now c.args.settings.now) (first_text c.plan_of-plan.result.first)
      (λ t. task_does g.L.Language.canonical g.L.Language.runs t c.args.settings.now)
      c.plan_of-plan.result.task c.plan_of-plan.ensures
      (passed g.R.Source.remaining g.R.Source.failed c.args.reader.now c.args.reader.now)
      (passed g.O.Sink.contents g.O.Sink.failed c.args.out.now c.close.new.out)
      (passed g.E.Sink.contents g.E.Sink.failed c.args.err.now c.close.new.err)
      _ (code_of c.at_least_fault.result) refl
      (wrote-part _ _ _ c.write_first.result failed c.write_first.ensures.bytes)
      c.close.ensures.out c.close.ensures.err c.close.ensures.stays
      (c.at_least_fault.ensures ∙ ap (λ (s : Status). max (code_of s) 4) c.status_before.ensures);
}

pub returns : goal.returns
returns g c = record {
  right =
      let fine : is_err c.write_first.result ≡ false = sym c.if-is_err.ensures.value in
      let states = g.L.Language.states c.args.grammar.now c.args.settings.now in
      let first = first_text c.plan_of-plan.result.first in
      run_is_right states first
      (does_of (λ t. task_does g.L.Language.canonical g.L.Language.runs t c.args.settings.now)
      c.plan_of-plan.result.task)
      (plan_stated states first (λ t. task_does g.L.Language.canonical g.L.Language.runs t c.args.settings.now)
      c.plan_of-plan.result.task c.plan_of-plan.ensures)
      (passed g.R.Source.remaining g.R.Source.failed c.args.reader.now c.act-ending.new.reader)
      (passed g.O.Sink.contents g.O.Sink.failed c.args.out.now c.act-ending.new.out)
      (passed g.O.Sink.contents g.O.Sink.failed c.args.out.now c.conclude.new.out)
      (passed g.E.Sink.contents g.E.Sink.failed c.args.err.now c.conclude.new.err)
      _ c.act-ending.result (code_of c.conclude.result) c.act-ending.ensures c.requires.out_is_fresh refl
      (wrote-all _ _ _ c.write_first.result fine c.write_first.ensures.bytes)
      c.conclude.ensures.kept c.conclude.ensures.stays c.conclude.ensures.reported;
}
