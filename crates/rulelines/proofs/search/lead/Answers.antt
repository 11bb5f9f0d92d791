use Rattle.std.proofs.Common.{◌≡◌, refl, subst, sym, ◌∙◌, ap, arith}
use Rattle.std.specs.Prelude.{IfSome, Some, slice_get}
use Rattle.std.proofs.lemmas.Option.{slice_get-get_or}
use Rattle.lazydfa.specs.StateSets.{IsNextState}
use Rattle.rulelines.specs.declared.pairs.SearchedPair.{SearchedPair}
use Rattle.rulelines.proofs.CutSearchLemmas.{lead_found, more_added, more_pairs, next_sound, pairs_none}
use Rattle.rulelines.proofs.SearchLemmas.{no_more, search_kept, search_next}
use Rattle.rulelines.proofs.search.lead.Goals as goal

pub returns-in_default-2-clause-over : goal.returns-in_default-2-clause-over
returns-in_default-2-clause-over c = λ has samples k m s _.
    search_kept c.args.search.now.olds c.next.new.self c.args.search.now.news c.args.search.now.news
    c.in_ok-old.ensures.more (no_more c.args.search.now.news) has samples c.args.search.now.pairs.items.items
    c.args.at k m s

pub returns-in_default-3-clause-over : goal.returns-in_default-3-clause-over
returns-in_default-3-clause-over c = λ has samples k m s _.
    search_kept c.args.search.now.olds c.next.new.self c.args.search.now.news c.next-2.new.self
    c.in_ok-old.ensures.more c.in_ok-new.ensures.more has samples c.args.search.now.pairs.items.items c.args.at k m s

pub returns-clause-led : goal.returns-clause-led
returns-clause-led c = λ has samples k m s _ in_order at_k.
    search_next has samples in_order c.next.new.self c.next-2.new.self c.args.search.now.pairs.items.items
    c.add_pair.new.pairs.items.items c.args.at k m
    (search_kept c.args.search.now.olds c.next.new.self c.args.search.now.news c.next-2.new.self
    c.in_ok-old.ensures.more c.in_ok-new.ensures.more has samples c.args.search.now.pairs.items.items c.args.at k m s)
    c.in-Some.found.now
    (subst (λ v. slice_get v c.args.at ≡ Some c.in-Some.found.now) c.deref.ensures.value
    (slice_get-get_or c.deref.result.now c.args.at c.in-Some.found.now
    (let t = c.in-Some.ensures.lookup.0 in grind (arith, t)) ∙ ap (λ v. Some v) (sym c.in-Some.ensures.lookup.1)))
    c.args.symbol at_k c.in-Some-2.old c.in-Some-3.new
    (subst (λ v. IfSome v (IsNextState c.next.new.self c.args.symbol c.in-Some.found.now.old)) c.in-Some-2.is
    c.in_ok-old.ensures.is)
    (subst (λ v. IfSome v (IsNextState c.next-2.new.self c.args.symbol c.in-Some.found.now.new)) c.in-Some-3.is
    c.in_ok-new.ensures.is) c.in_ok-add_pair.ensures

pub returns-in_default-clause-more : goal.returns-in_default-clause-more
returns-in_default-clause-more c = pairs_none c.args.search.now

pub returns-in_default-2-clause-more : goal.returns-in_default-2-clause-more
returns-in_default-2-clause-more c = more_pairs _ _ c.in_ok-old.ensures.more (no_more c.args.search.now.news) refl

pub returns-in_default-3-clause-more : goal.returns-in_default-3-clause-more
returns-in_default-3-clause-more c = more_pairs _ _ c.in_ok-old.ensures.more c.in_ok-new.ensures.more refl

pub returns-clause-more : goal.returns-clause-more
returns-clause-more c =
    let entry : SearchedPair = record {
      old = c.in-Some-2.old;
      new = c.in-Some-3.new;
      parent = c.args.at;
      symbol = c.args.symbol;
    } in
    more_added _ _ c.in_ok-old.ensures.more c.in_ok-new.ensures.more entry c.in_ok-add_pair.ensures
    (next_sound c.next.new.self c.next-2.new.self c.args.symbol c.in-Some.found.now entry
    (subst (λ v. IfSome v (IsNextState c.next.new.self c.args.symbol c.in-Some.found.now.old)) c.in-Some-2.is
    c.in_ok-old.ensures.is)
    (subst (λ v. IfSome v (IsNextState c.next-2.new.self c.args.symbol c.in-Some.found.now.new)) c.in-Some-3.is
    c.in_ok-new.ensures.is))

pub returns-clause-leads : goal.returns-clause-leads
returns-clause-leads c = λ _ p at_p sound.
    lead_found c.next.new.self c.next-2.new.self c.args.symbol c.args.search.now.pairs.items.items
    c.add_pair.new.pairs.items.items c.args.at c.in-Some.found.now p
    (record { old = c.in-Some-2.old; new = c.in-Some-3.new; parent = c.args.at; symbol = c.args.symbol })
    (subst (λ v. slice_get v c.args.at ≡ Some c.in-Some.found.now) c.deref.ensures.value
    (slice_get-get_or c.deref.result.now c.args.at c.in-Some.found.now
    (let t = c.in-Some.ensures.lookup.0 in grind (arith, t)) ∙ ap (λ v. Some v) (sym c.in-Some.ensures.lookup.1))) at_p
    (subst (λ v. IfSome v (IsNextState c.next.new.self c.args.symbol c.in-Some.found.now.old)) c.in-Some-2.is
    c.in_ok-old.ensures.is)
    (subst (λ v. IfSome v (IsNextState c.next-2.new.self c.args.symbol c.in-Some.found.now.new)) c.in-Some-3.is
    c.in_ok-new.ensures.is) c.in_ok-add_pair.ensures
