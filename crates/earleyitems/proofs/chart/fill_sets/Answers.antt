use Rattle.std.proofs.Common.{◌≡◌, ◌∙◌, ℕ, Some, slice_get, ◌+◌, ◌≤◌, ◌++◌, ◌∷◌, [], length, map, subst, sym, arith}
use Rattle.std.proofs.Common.{length-append, ap}
use Rattle.std.specs.Prelude.{sum_by}
use Rattle.earleyitems.specs.ItemOwners.{prediction_rows, prediction_rows_with, AreCallersOwned, AreReadersOwned}
use Rattle.earleyitems.proofs.ItemOwnersLemmas.{items_keep, rows_more, rows_pushed}
use Rattle.flatgrammar.specs.Positions.{AreDifferent}
use Rattle.earleyitems.specs.EarleySets.{EarleySet}
use Rattle.earleyitems.specs.Charts.{IsBuilt}
use Rattle.earleyitems.specs.Chosen.{AreReaders}
use Rattle.earleyitems.specs.ItemSets.{Adds}
use Rattle.earleyitems.specs.Charts.{IsAfter}
use Rattle.earleyitems.specs.SetViews.{view, views, IsWholeAt}
use Rattle.earleyitems.specs.Waiting.{AreWaitingAll}
use Rattle.earleyitems.proofs.AreChosenLemmas.{readers_push}
use Rattle.earleyitems.proofs.ExpandLemmas.{get_views}
use Rattle.earleyitems.proofs.ListAllLemmas.{waiting_push}
use Rattle.earleyitems.proofs.IsBuiltLemmas.{built_exact}
use Rattle.earleyitems.proofs.ViewsLemmas.{going_from, built_by}
use Rattle.earleyitems.proofs.ChartSetsLemmas.{counted_push, sized_push}
use Rattle.earleyitems.proofs.chart.fill_sets.Goals as goal

pub fill-requires-clause-begun : goal.fill-requires-clause-begun
fill-requires-clause-begun g c =
    let here = c.loop-most.invariant in (
      map g.L.Letter.number c.args.line.now,
      here.built.held,
      going_from c.args.flat.now c.requires.targets c.requires.nulls c.requires.tables
          (map g.L.Letter.number c.args.line.now) c.loop-most.sets here.built c.len-in-loop-most.result
          c.len-in-loop-most.ensures c.predict_start.new.predictions c.scan_last.new.items.items
          (subst (λ v. Adds (IsWholeAt c.args.flat.now c.len-in-loop-most.result) v c.predict_start.new.predictions)
          here.no_predictions c.in_ok-predict_start.ensures)
          (subst (λ v. Adds (IsAfter c.args.flat.now (map g.L.Letter.number c.args.line.now)
          (views c.args.flat.now 0 c.loop-most.sets)) v c.scan_last.new.items.items) here.no_items
          c.in_ok-scan_last.ensures.added),
    )

pub loop-most-preserved : goal.loop-most-preserved
loop-most-preserved g c =
    let here = c.loop-most.invariant in
    let worklist = going_from c.args.flat.now c.requires.targets c.requires.nulls c.requires.tables
    (map g.L.Letter.number c.args.line.now) c.loop-most.sets here.built c.len-in-loop-most.result
    c.len-in-loop-most.ensures c.predict_start.new.predictions c.scan_last.new.items.items
    (subst (λ v. Adds (IsWholeAt c.args.flat.now c.len-in-loop-most.result) v c.predict_start.new.predictions)
    here.no_predictions
    c.in_ok-predict_start.ensures)
    (subst (λ v. Adds (IsAfter c.args.flat.now (map g.L.Letter.number c.args.line.now)
    (views c.args.flat.now 0 c.loop-most.sets)) v c.scan_last.new.items.items) here.no_items
    c.in_ok-scan_last.ensures.added) in
    let kept_set : EarleySet = c.in_ok-push.ensures.added.0 in
    let pushed = c.in_ok-push.ensures.added.1.0 in
    let kept = c.in_ok-push.ensures.added.1.1 in
    let size = length-append c.loop-most.sets (kept_set ∷ []) in
    let test = c.loop-most-test.true in
    let len = c.len.ensures in
    record {
      built = subst (λ v. IsBuilt c.args.flat.now (map g.L.Letter.number c.args.line.now) (views c.args.flat.now 0 v))
          (sym pushed)
          (built_by c.args.flat.now c.requires.targets c.requires.nulls c.requires.tables
          (map g.L.Letter.number c.args.line.now) c.loop-most.sets here.built c.len-in-loop-most.result
          c.len-in-loop-most.ensures c.predict_start.new.predictions c.scan_last.new.items.items
          (subst (λ v. Adds (IsWholeAt c.args.flat.now c.len-in-loop-most.result) v c.predict_start.new.predictions)
          here.no_predictions
          c.in_ok-predict_start.ensures)
          (subst (λ v. Adds (IsAfter c.args.flat.now (map g.L.Letter.number c.args.line.now)
          (views c.args.flat.now 0 c.loop-most.sets)) v c.scan_last.new.items.items) here.no_items
          c.in_ok-scan_last.ensures.added)
          kept_set c.fill.new.predictions c.fill.new.items.items kept.same_predictions
          (kept.same_items ∙ c.list.ensures)
          (c.in_ok-closures.ensures.held (map g.L.Letter.number c.args.line.now) here.built.held worklist)
          c.in_ok-closures.ensures.different c.in_ok-closures.ensures.keeps
          c.in_ok-closures.ensures.closed);
      counted = subst (λ v. c.saturating_add-beside.result ≤ sum_by (λ set. length set) (views c.args.flat.now 0 v))
          (sym pushed)
          (counted_push c.args.flat.now c.loop-most.sets kept_set c.fill.new.items.items c.loop-most.beside
          c.saturating_add-beside.result (kept.same_items ∙ c.list.ensures) here.counted
          (let sum = c.saturating_add-beside.ensures in let n = c.len-in-loop-most-2.ensures in omega (arith, sum, n)));
      within = (let short : length (c.loop-most.sets ++ kept_set ∷ []) ≤ length c.args.line.now + 1 =
          omega (arith, size, test, len) in
          subst (λ v. length v ≤ length c.args.line.now + 1) (sym pushed) short);
      no_predictions = c.clear.ensures;
      no_items = c.clear-in-loop-most.ensures;
      waiting = subst (λ v. AreWaitingAll c.args.flat.now v) (sym pushed)
          (waiting_push c.args.flat.now c.loop-most.sets kept_set here.waiting kept.waiting);
      readers = subst (λ v. AreReaders c.args.flat.now v c.fill.new.postdot.readers.items) (sym pushed)
          (readers_push c.args.flat.now c.loop-most.sets kept_set c.fill.new.items.items
          c.fill.new.postdot.readers.items
          (kept.same_items ∙ c.list.ensures) c.in_ok-closures.ensures.readers);
      sized = subst (λ v. (j : ℕ) (f : EarleySet) → slice_get v j ≡ Some f → f.size ≡ length (view c.args.flat.now j f))
          (sym pushed) (sized_push c.args.flat.now c.loop-most.sets kept_set here.sized kept.size);
      owned = c.in_ok-push.ensures.owners here.owned
          (subst (λ v. AreCallersOwned c.args.flat.now (prediction_rows_with c.loop-most.sets c.fill.new.predictions) v)
          (sym c.deref-in-loop-most.ensures.value) c.in_ok-closures.ensures.caller_owners);
      reader_owners = λ k is. subst (λ v. AreReadersOwned c.args.flat.now v c.fill.new.postdot.readers.items)
          (sym (rows_pushed c.loop-most.sets kept_set c.fill.new.predictions kept.same_predictions)
          ∙ ap (λ v. prediction_rows v) (sym pushed)) c.in_ok-closures.ensures.reader_owners;
    }

pub returns-then-beside-most-clause-exact : goal.returns-then-beside-most-clause-exact
returns-then-beside-most-clause-exact g c = built_exact c.args.flat.now c.requires.targets
    (map g.L.Letter.number c.args.line.now) (views c.args.flat.now 0 c.loop-most.sets) c.loop-most.invariant.built

pub returns-clause-exact : goal.returns-clause-exact
returns-clause-exact g c = built_exact c.args.flat.now c.requires.targets (map g.L.Letter.number c.args.line.now)
    (views c.args.flat.now 0 c.loop-most.sets) c.loop-most.invariant.built

pub scan_last-requires-clause-different : goal.scan_last-requires-clause-different
scan_last-requires-clause-different g c k f is =
    let zero : 0 + k ≡ k = omega arith in
    subst (λ v. AreDifferent (view c.args.flat.now v f)) zero (c.loop-most.invariant.built.different k
    (view c.args.flat.now (0 + k) f) (get_views c.args.flat.now 0 c.loop-most.sets k f is))

pub scan_last-requires-clause-readers : goal.scan_last-requires-clause-readers
scan_last-requires-clause-readers g c = subst (λ v. AreReaders c.args.flat.now c.loop-most.sets v)
    (sym c.deref.ensures.value) c.loop-most.invariant.readers

pub scan_last-requires-clause-owned : goal.scan_last-requires-clause-owned
scan_last-requires-clause-owned g c k is = subst
    (λ v. AreReadersOwned c.args.flat.now (prediction_rows c.loop-most.sets) v)
    (sym c.deref.ensures.value) (c.loop-most.invariant.reader_owners k is)

pub fill-requires-clause-items_owned : goal.fill-requires-clause-items_owned
fill-requires-clause-items_owned g c = items_keep c.args.flat.now
    (prediction_rows_with c.loop-most.sets c.predict_start.new.predictions) (prediction_rows c.loop-most.sets)
    (rows_more (prediction_rows c.loop-most.sets) c.predict_start.new.predictions) c.scan_last.new.items
    c.in_ok-scan_last.ensures.owners
