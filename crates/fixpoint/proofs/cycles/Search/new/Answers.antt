use Rattle.std.proofs.Common.{◌≡◌, false, length, rules, sym, replicate, ap, ◌∙◌, refl}
use Rattle.std.proofs.lemmas.List.{length-replicate}
use Rattle.fixpoint.specs.declared.cycles.SearchPosition.TheVariants as position
use Rattle.fixpoint.proofs.RowsOfLemmas as b
use Rattle.fixpoint.proofs.TallyLemmas as y
use Rattle.fixpoint.proofs.IterationsLemmas as t
use Rattle.fixpoint.proofs.cycles.Search.new.Goals as goal

pub returns-clause-through : goal.returns-clause-through
returns-clause-through c =
    let positions : c.in_ok-vec.field-0.items ≡ replicate (length c.args.steps.now) position.New = search rules in
    let marks : c.in_ok-vec-2.field-0.items ≡ replicate (length c.args.steps.now) false = search rules in
    t.none_through_of _ _ _ _ _ _ _
    (sym (b.length-slices _)) positions c.new.ensures.items c.new-2.ensures.items c.new-3.ensures.items marks

pub returns-clause-ranked : goal.returns-clause-ranked
returns-clause-ranked c =
    let positions : c.in_ok-vec.field-0.items ≡ replicate (length c.args.steps.now) position.New = search rules in
    let ranks : c.in_ok-vec-3.field-0.items ≡ replicate (length c.args.steps.now) 0 = search rules in
    y.ranked_none _ _ _ _ (sym (b.length-slices _)) positions (ap length ranks ∙ length-replicate _ 0) refl
