use Rattle.std.proofs.Common.{◌≡◌, refl, subst, sym, ◌∙◌, ap, arith}
use Rattle.std.specs.Prelude.{IfSome, Some, slice_get}
use Rattle.std.proofs.lemmas.Option.{slice_get-get_or}
use Rattle.lazydfa.specs.StackCuts.{IsCutState}
use Rattle.rulelines.specs.declared.pairs.SearchedPair.{SearchedPair}
use Rattle.rulelines.specs.Search.{state_at}
use Rattle.rulelines.proofs.CutSearchLemmas.{at_state, below_sound, cut_found, more_pairs, more_twice, pairs_none}
use Rattle.rulelines.proofs.CutSearchLemmas.{tops_sound}
use Rattle.rulelines.proofs.SearchLemmas.{no_more}
use Rattle.rulelines.proofs.cuts.cut_pair.Goals as goal

pub returns-in_default-clause-more : goal.returns-in_default-clause-more
returns-in_default-clause-more c = pairs_none c.args.search.now

pub returns-in_default-2-clause-more : goal.returns-in_default-2-clause-more
returns-in_default-2-clause-more c = more_pairs _ _ c.in_ok-old.ensures.more (no_more c.args.search.now.news) refl

pub returns-in_default-3-clause-more : goal.returns-in_default-3-clause-more
returns-in_default-3-clause-more c = more_pairs _ _ c.in_ok-old.ensures.more c.in_ok-new.ensures.more refl

pub returns-then-has_ended-clause-more : goal.returns-then-has_ended-clause-more
returns-then-has_ended-clause-more c = more_pairs _ _ c.in_ok-old.ensures.more c.in_ok-new.ensures.more refl

pub returns-clause-more : goal.returns-clause-more
returns-clause-more c =
    let tops : SearchedPair = record {
      old = c.in-Some-2.old.tops;
      new = c.in-Some-3.new.tops;
      parent = c.args.at;
      symbol = 0;
    } in
    let below : SearchedPair = record {
      old = c.in-Some-2.old.below;
      new = c.in-Some-3.new.below;
      parent = c.args.at;
      symbol = 0;
    } in
    let old_cut = subst (λ v. IfSome v (λ cut. IsCutState c.cut.new.self c.in-Some.found.now.old cut.tops cut.below))
    c.in-Some-2.is c.in_ok-old.ensures.is in
    let new_cut = subst (λ v. IfSome v (λ cut. IsCutState c.cut-2.new.self c.in-Some.found.now.new cut.tops cut.below))
    c.in-Some-3.is c.in_ok-new.ensures.is in
    more_twice _ _ c.add_pair.new.pairs.items.items c.in_ok-old.ensures.more c.in_ok-new.ensures.more tops below
    c.in_ok-add_pair.ensures c.in_ok-add_pair-2.ensures
    (tops_sound c.cut.new.self c.cut-2.new.self c.in-Some.found.now tops below old_cut new_cut)
    (below_sound c.cut.new.self c.cut-2.new.self c.in-Some.found.now tops below old_cut new_cut)

pub returns-clause-cut : goal.returns-clause-cut
returns-clause-cut c = λ _ samples p at_p sound.
    let tops : SearchedPair = record {
      old = c.in-Some-2.old.tops;
      new = c.in-Some-3.new.tops;
      parent = c.args.at;
      symbol = 0;
    } in
    let below : SearchedPair = record {
      old = c.in-Some-2.old.below;
      new = c.in-Some-3.new.below;
      parent = c.args.at;
      symbol = 0;
    } in
    let old_cut = subst (λ v. IfSome v (λ cut. IsCutState c.cut.new.self c.in-Some.found.now.old cut.tops cut.below))
    c.in-Some-2.is c.in_ok-old.ensures.is in
    let new_cut = subst (λ v. IfSome v (λ cut. IsCutState c.cut-2.new.self c.in-Some.found.now.new cut.tops cut.below))
    c.in-Some-3.is c.in_ok-new.ensures.is in
    let is_below = below_sound c.cut.new.self c.cut-2.new.self c.in-Some.found.now tops below old_cut new_cut in
    cut_found c.cut.new.self c.cut-2.new.self c.in-Some.found.now p tops below old_cut new_cut
    (sym (c.has_ended.ensures (state_at c.cut.new.self c.in-Some-2.old.below)
    (at_state c.cut.new.self c.in-Some-2.old.below is_below.old_within)) ∙ c.if-has_ended.false)
    c.args.search.now.pairs.items.items c.add_pair.new.pairs.items.items c.add_pair-2.new.pairs.items.items
    c.in_ok-add_pair.ensures c.in_ok-add_pair-2.ensures samples c.args.at
    (subst (λ v. slice_get v c.args.at ≡ Some c.in-Some.found.now) c.deref.ensures.value
    (slice_get-get_or c.deref.result.now c.args.at c.in-Some.found.now
    (let t = c.in-Some.ensures.lookup.0 in grind (arith, t)) ∙ ap (λ v. Some v) (sym c.in-Some.ensures.lookup.1))) at_p

pub returns-then-not-reads_same-clause-more : goal.returns-then-not-reads_same-clause-more
returns-then-not-reads_same-clause-more c =
    more_pairs _ _ c.in_ok-old.ensures.more c.in_ok-new.ensures.more refl
