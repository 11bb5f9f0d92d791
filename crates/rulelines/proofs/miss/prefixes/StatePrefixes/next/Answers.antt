use Rattle.std.proofs.Common.{◌≡◌, ◌∙◌, ap, subst, sym, Some}
use Rattle.std.specs.Prelude.{IfSome, Option, option_map}
use Rattle.rulelines.specs.declared.miss.search.StateSearch.{StateSearch}
use Rattle.rulelines.specs.MissSearch.{AreEndsOf, found_states, GivesPrefixesTo, IsPrefixStep, IsSearchFor}
use Rattle.rulelines.specs.MissSearch.{PrefixSearch, PrefixSet}
use Rattle.rulelines.specs.StateTables.{line_symbols}
use Rattle.rulelines.proofs.ReportedPrefixesLemmas.{search_step}
use Rattle.rulelines.proofs.miss.prefixes.StatePrefixes.next.Goals as goal

abbrev search_in : PrefixSet → Option StateSearch → PrefixSearch
search_in set search = record { set = set; search = option_map found_states search }

pub invariant_of-self-2 : goal.invariant_of-self-2
invariant_of-self-2 c =
    let flat = c.self.inside.flat in
    let inner = c.self.inside.inner in
    let was = subst (λ v. IfSome v (λ search. IsSearchFor flat inner c.self.inside.samples.items (found_states search)))
    (sym c.in-Some.ensures.value) c.self.invariant.1 in
    let kept = rw c.in-Some-2.is at c.in_ok-step.ensures.kept in (
      c.self.invariant.0,
      subst (λ v. IsSearchFor flat inner v (found_states c.next_prefix.new.search)) c.deref.ensures.value
          (kept flat inner (subst (λ v. IsSearchFor flat inner v (found_states c.in-Some.search))
          (sym c.deref.ensures.value) was)),
    )

pub returns-clause-next : goal.returns-clause-next
returns-clause-next c = λ rules id gives.
    let flat = c.self.inside.flat in
    let inner = c.self.inside.inner in
    let was = subst (λ v. IfSome v (λ search. IsSearchFor flat inner c.self.inside.samples.items (found_states search)))
    (sym c.in-Some.ensures.value) c.self.invariant.1 in
    let set : PrefixSet = record {
      flat = flat;
      alphabet = inner.alphabet;
      terminator = inner.terminator;
      limit = c.self.inside.limit;
      edges = c.self.inside.edges;
    } in
    let begun : search_in set (Some c.in-Some.search) ≡ c.args.self.now =
    ap (λ v. search_in set v) c.in-Some.ensures.value ∙ c.self.view_is in
    let step = rw c.in-Some-2.is at c.in_ok-step.ensures.step in
    subst (λ v. IsPrefixStep rules id v (search_in set (Some c.next_prefix.new.search)) c.in-Some-2.step) begun
    (search_step rules id set (found_states c.in-Some.search) (found_states c.next_prefix.new.search) c.in-Some-2.step
    (step flat inner rules id
    (subst (λ v. IsSearchFor flat inner v (found_states c.in-Some.search)) (sym c.deref.ensures.value) was)
    (subst (λ v. AreEndsOf c.self.inside.edges flat (line_symbols inner) v) (sym c.deref.ensures.value)
    c.self.invariant.0)
    (subst (λ (v : PrefixSearch). GivesPrefixesTo v.set.alphabet v.set.limit rules id v.set.flat) (sym begun) gives)))
