use Rattle.std.proofs.Common.{sym, ap, ◌∙◌}
use Rattle.flatgrammar.specs.TableViews.{start_target}
use Rattle.earley.proofs.RowStepLemmas.{whole_starts, no_whole}
use Rattle.earley.proofs.row_chart.start_rows.Goals as goal

pub returns-in_default : goal.returns-in_default
returns-in_default c = no_whole c.args.table.now.flat.value c.args.table.now.dots.items c.args.set.now
    (ap (λ f. start_target f) (sym c.deref.ensures) ∙ (sym c.start_target.ensures ∙ c.in_default.is))

pub returns : goal.returns
returns c = whole_starts c.args.table.now.flat.value c.args.table.now.dots.items c.in-Some.target c.in_ok-zero.zero
    c.args.set.now c.predict_target.new.set
    (ap (λ f. start_target f) (sym c.deref.ensures) ∙ (sym c.start_target.ensures ∙ c.in-Some.is)) c.in_ok-zero.ensures
    c.in_ok-predict_target.ensures

pub predict_target-requires-clause-reached : goal.predict_target-requires-clause-reached
predict_target-requires-clause-reached c = c.requires.table.whole c.in-Some.target
    (ap (λ f. start_target f) (sym c.deref.ensures) ∙ (sym c.start_target.ensures ∙ c.in-Some.is))
