use Rattle.std.proofs.Common.{◌≡◌, ◌+◌, length, arith, refl, subst, sym, Bool, Global, Vec}
use Rattle.std.specs.Prelude.{IfSome}
use Rattle.lazydfa.specs.StateSets.{StateSets}
use Rattle.rulelines.specs.FoundPairs.{IsWordOf}
use Rattle.rulelines.specs.MissSearch.{AreKeptWithin, found_states, FoundStates, IsExpanded, IsWordIn}
use Rattle.rulelines.specs.Search.{found_pairs}
use Rattle.rulelines.specs.WrongSymbols.{AreWrongTo}
use Rattle.rulelines.proofs.ReportedPrefixesLemmas.{long_left, none_left, one_more_reported, search_on}
use Rattle.rulelines.proofs.miss.prefixes.next_prefix.Goals as goal

pub returns-in_default-clause-step : goal.returns-in_default-clause-step
returns-in_default-clause-step c = λ flat inner rules id begun ends gives ps reported.
    none_left inner c.args.limit rules id flat gives c.args.samples.now begun.each (found_states c.args.search.now)
    begun.grammar c.args.search.now.at begun.searches ps reported.each reported.from c.in_default.ensures

pub returns-then-len-limit-clause-step : goal.returns-then-len-limit-clause-step
returns-then-len-limit-clause-step c = λ flat inner rules id begun ends gives ps reported.
    let word = subst (λ v. IfSome v (λ word. (olds news : StateSets) → IsWordOf
    (found_pairs olds news c.deref.result.now) c.in-Some.at word.items)) c.in-Some-2.is c.in_ok-prefix.ensures in
    long_left inner c.args.limit rules id flat gives c.args.samples.now begun.each (found_states c.args.search.now)
    begun.grammar c.args.search.now.at begun.searches ps reported.each reported.from c.in-Some.at
    c.in-Some-2.prefix.items
    c.in-Some.ensures.3 (subst (λ v. IsWordIn v c.in-Some.at c.in-Some-2.prefix.items) c.deref.ensures.value word)
    (let long = c.if-len-limit.true in let l = c.len.ensures in let o = c.in-Some-2.prefix.ok.0 in
    omega (arith, long, l, o))

pub wrong_symbols-requires : goal.wrong_symbols-requires
wrong_symbols-requires c =
    let x = subst (λ v. IfSome v (λ (live : Vec Bool Global). IsExpanded c.args.samples.now
    (found_states c.args.search.now) (found_states c.expand.new.search) c.in-Some.at live.items)) c.in-Some-3.is
    c.in_ok-live.ensures in
    subst (λ v. length v ≡ length c.args.samples.now) (sym c.deref-2.ensures.value) x.count

pub returns-clause-kept : goal.returns-clause-kept
returns-clause-kept c = λ flat inner begun.
    let x = subst (λ v. IfSome v (λ (live : Vec Bool Global). IsExpanded c.args.samples.now
    (found_states c.args.search.now) (found_states c.expand.new.search) c.in-Some.at live.items)) c.in-Some-3.is
    c.in_ok-live.ensures in
    let new : FoundStates = record {
      states = c.expand.new.search.states;
      pairs = c.expand.new.search.pairs.items.items;
      at = c.in-Some.at + 1;
    } in
    search_on inner flat c.args.samples.now (found_states c.args.search.now) (found_states c.expand.new.search)
    new begun
    c.in-Some.at c.in-Some.ensures c.in-Some-3.live.items x refl refl refl

pub returns-clause-step : goal.returns-clause-step
returns-clause-step c = λ flat inner rules id begun ends gives ps reported.
    let x = subst (λ v. IfSome v (λ (live : Vec Bool Global). IsExpanded c.args.samples.now
    (found_states c.args.search.now) (found_states c.expand.new.search) c.in-Some.at live.items)) c.in-Some-3.is
    c.in_ok-live.ensures in
    let word = subst (λ v. IfSome v (λ word. (olds news : StateSets) → IsWordOf
    (found_pairs olds news c.deref.result.now) c.in-Some.at word.items)) c.in-Some-2.is c.in_ok-prefix.ensures in
    let new : FoundStates = record {
      states = c.expand.new.search.states;
      pairs = c.expand.new.search.pairs.items.items;
      at = c.in-Some.at + 1;
    } in
    let count : c.len-2.result ≡ length c.in-Some-2.prefix.items =
    (let l = c.len-2.ensures in let o = c.in-Some-2.prefix.ok.0 in omega (arith, l, o)) in
    one_more_reported inner flat c.args.samples.now (found_states c.args.search.now) (found_states c.expand.new.search)
    new begun c.in-Some.at c.in-Some.ensures c.in-Some-3.live.items x refl refl refl c.args.limit rules id gives
    c.in-Some-2.prefix.items
    (subst (λ v. IsWordIn v c.in-Some.at c.in-Some-2.prefix.items) c.deref.ensures.value word)
    (let short = c.if-len-limit.false in let l = c.len.ensures in let o = c.in-Some-2.prefix.ok.0 in
    omega (arith, short, l, o)) c.args.edges ends _ refl c.is_refused.ensures c.in_ok-wrong.wrong.items
    (subst (λ v. AreWrongTo c.args.samples.now v c.args.edges (length c.args.samples.now) c.in_ok-wrong.wrong.items)
    c.deref-2.ensures.value c.in_ok-wrong.ensures)
    (subst (λ v. AreKeptWithin c.args.limit v c.in_ok-wrong.wrong.items c.within-wrong.result.items) count
    c.within-wrong.ensures)
    ps reported
