use Rattle.std.proofs.Common.{◌≡◌, ap, refl, subst, sym, ◌∙◌, arith}
use Rattle.std.specs.Prelude.{IfSome, Some, slice_get}
use Rattle.std.proofs.lemmas.Option.{slice_get-get_or}
use Rattle.lazydfa.specs.StateSets.{IsNextState}
use Rattle.rulelines.specs.MissSearch.{found_states}
use Rattle.rulelines.proofs.MissSearchLemmas.{was_led}
use Rattle.rulelines.proofs.miss.search.lead.Goals as goal

pub returns : goal.returns
returns c =
    was_led (found_states c.args.search.now) (record {
      states = c.next.new.self;
      pairs = c.add_pair.new.pairs.items.items;
      at = c.args.search.now.at;
    }) c.args.at c.args.symbol c.in-Some-2.next c.in-Some.found.now c.is_live.result
    (subst (λ v. slice_get v c.args.at ≡ Some c.in-Some.found.now) c.deref.ensures.value
    (slice_get-get_or c.deref.result.now c.args.at c.in-Some.found.now
    (let t = c.in-Some.ensures.lookup.0 in grind (arith, t)) ∙ ap (λ v. Some v) (sym c.in-Some.ensures.lookup.1)))
    c.in_ok-next.ensures.more refl
    (subst (λ v. IfSome v (IsNextState c.next.new.self c.args.symbol c.in-Some.found.now.old)) c.in-Some-2.is
    c.in_ok-next.ensures.is) c.in_ok-add_pair.ensures c.is_live.ensures
