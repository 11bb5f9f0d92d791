use Rattle.std.proofs.Common.{◌++◌, ◌∷◌, [], None, Some, ap, append-nil, map, sym, ◌∙◌}
use Rattle.std.proofs.lemmas.List.{map-append}
use Rattle.diagnostics.specs.NumberLists.{items_at}
use Rattle.diagnostics.proofs.NumberListsLemmas.{got-none, got-there, items-more}
use Rattle.diagnostics.proofs.noteplaces.number_lists.items_at.Goals as goal
use Rattle.diagnostics.proofs.noteplaces.number_lists.items_at.Goals.{in-Some+in_ok-push, in_default}

pub loop-position-preserved : goal.loop-position-preserved
loop-position-preserved g c = elim c.match-get.branch [
  | in-Some+in_ok-push w ↦
      ap (λ v. map (λ x. x.now) v.items) w.found-is ∙ ap (map (λ x. x.now)) w.in_ok-push.ensures.items
      ∙ map-append (λ x. x.now) c.loop-position.found.items (w.in-Some.item ∷ [])
      ∙ ap (λ l. l ++ w.in-Some.item.now ∷ []) c.loop-position.invariant
      ∙ sym (items-more c.args.items.now c.args.indexes.now c.loop-position.position-index
      (Some w.in-Some.item.now) c.loop-position-test.true
      (got-there c.args.items.now _ w.in-Some.item.now w.in-Some.ensures.lookup.0 w.in-Some.ensures.lookup.1))
  | in_default w ↦
      ap (λ v. map (λ x. x.now) v.items) w.found-is ∙ c.loop-position.invariant
      ∙ sym (append-nil (items_at c.args.items.now _))
      ∙ sym (items-more c.args.items.now c.args.indexes.now c.loop-position.position-index None
      c.loop-position-test.true (got-none c.args.items.now _ w.in_default.ensures.lookup.0))
]
