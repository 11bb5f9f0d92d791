use Rattle.std.proofs.Common.{◌≡◌, ◌∙◌, ◌&&◌, true, List, ℕ, Option, Some, Vec, Global, subst, sym}
use Rattle.std.specs.List.Sorted.{IsBinarySearchResult}
use Rattle.std.specs.Ordering.{nat_cmp}
use Rattle.std.specs.Prelude.{option_map}
use Rattle.rulelines.specs.FirstLines.{sort_key}
use Rattle.rulelines.specs.LineSets.{allows_key, is_line_symbol}
use Rattle.rulelines.proofs.ListedSetsLemmas.{found_key, no_symbol_there, symbol_there}
use Rattle.rulelines.proofs.list.listed.ListedSymbols.has.Goals as goal

pub returns-then-not-is_inner : goal.returns-then-not-is_inner
returns-then-not-is_inner c = no_symbol_there _ _ (sym c.is_inner.ensures ∙ c.if-not-is_inner.true)

pub returns-in-Some : goal.returns-in-Some
returns-in-Some c =
    let self = c.args.self.now in
    let keys = c.in-Some.keys.items in
    let key = sort_key c.args.number in
    let inner = is_line_symbol self.inner.alphabet self.inner.terminator c.args.number in
    let position = subst (λ (k : ℕ). IsBinarySearchResult (λ y. nat_cmp y k) keys c.binary_search.result)
    c.key_of.ensures
    (subst (λ (v : List ℕ). IsBinarySearchResult (λ y. nat_cmp y c.key_of.result) v c.binary_search.result)
    c.deref.ensures.value c.binary_search.ensures.position) in
    subst (λ (o : Option (Vec ℕ Global)). c.is_ok.result
    ≡ (allows_key (option_map (λ (v : Vec ℕ Global). v.items) o) key && inner)) (sym c.in-Some.is)
    (c.is_ok.ensures.value ∙ (found_key keys key c.binary_search.result (self.ascends c.in-Some.keys c.in-Some.is)
    position ∙ symbol_there (allows_key (Some keys) key) inner (sym c.is_inner.ensures ∙ c.if-not-is_inner.false)))

pub returns-in-None : goal.returns-in-None
returns-in-None c =
    let self = c.args.self.now in
    subst (λ (o : Option (Vec ℕ Global)). true
    ≡ (allows_key (option_map (λ (v : Vec ℕ Global). v.items) o) (sort_key c.args.number)
    && is_line_symbol self.inner.alphabet self.inner.terminator c.args.number)) (sym c.in-None.is)
    (sym (sym c.is_inner.ensures ∙ c.if-not-is_inner.false))
