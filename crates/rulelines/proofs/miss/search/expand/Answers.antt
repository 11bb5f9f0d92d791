use Rattle.std.proofs.Common.{◌≡◌, arith, get_or, length, subst, sym}
use Rattle.std.specs.Prelude.{IfSome}
use Rattle.std.proofs.lemmas.Option.{slice_get-get_or}
use Rattle.rulelines.specs.MissSearch.{found_states, IsExpandedTo, IsLedFrom}
use Rattle.rulelines.proofs.MissSearchLemmas.{none_expanded, one_expanded}
use Rattle.rulelines.proofs.miss.search.expand.Goals as goal

pub loop-symbol-init : goal.loop-symbol-init
loop-symbol-init c = record {
  expanded = subst (λ v. IsExpandedTo c.args.samples.now 0 (found_states c.args.search.now)
      (found_states c.args.search.now) c.args.at v) (sym c.new-live.ensures.items)
      (none_expanded c.args.samples.now (found_states c.args.search.now) c.args.at);
  within = omega arith;
}

pub loop-symbol-preserved : goal.loop-symbol-preserved
loop-symbol-preserved c =
    let symbol = get_or c.args.samples.now c.loop-symbol.symbol-index 0 in
    record {
      expanded = one_expanded c.args.samples.now (found_states c.args.search.now) (found_states c.loop-symbol.search)
          (found_states c.lead.new.search) c.args.at c.loop-symbol.symbol-index symbol c.loop-symbol.live.items
          c.push.new.self.items c.in-Some.leads_on
          (slice_get-get_or c.args.samples.now c.loop-symbol.symbol-index 0 c.loop-symbol-test.true)
          c.loop-symbol.invariant.expanded
          (subst (λ v. IfSome v (IsLedFrom (found_states c.loop-symbol.search) (found_states c.lead.new.search)
          c.args.at symbol))
          c.in-Some.is c.in_ok-leads_on.ensures) c.in_ok-push.ensures.items;
      within = (let lt = c.loop-symbol-test.true in omega (arith, lt));
    }

pub returns : goal.returns
returns c =
    let at_end : c.loop-symbol.symbol-index ≡ length c.args.samples.now =
    (let ge = c.loop-symbol-test.false in let le = c.loop-symbol.invariant.within in omega (arith, ge, le)) in
    subst (λ v. IsExpandedTo c.args.samples.now v (found_states c.args.search.now) (found_states c.loop-symbol.search)
    c.args.at c.loop-symbol.live.items) at_end c.loop-symbol.invariant.expanded
