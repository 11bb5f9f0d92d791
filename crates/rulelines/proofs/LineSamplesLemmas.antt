-- Symbols that stand for all symbols of a line of their class.
-- Serves: symbols_of, line_samples
use Rattle.std.proofs.Common.{◌≡◌, ◌⊎◌, inl, inr, ℕ, zero, suc, ◌+◌, ◌<◌, ◌≤◌, List, [], ◌∷◌, ◌++◌, length, refl, sym}
use Rattle.std.proofs.Common.{◌∙◌, ap, subst, arith, get_or}
use Rattle.std.proofs.lemmas.Bool.{cases_lt}
use Rattle.std.proofs.lemmas.List.Elements.{Contains-append_left, Contains-push, Contains-push_cases}
use Rattle.std.proofs.lemmas.Option.{get_or_from_slice_get, slice_get_within}
use Rattle.std.specs.List.Sorted.{IsStrictlyIncreasing}
use Rattle.std.specs.Prelude.{Bool, true, slice_get, Some, Contains}
use Rattle.flatgrammar.specs.Flat.{Flat}
use Rattle.flatgrammar.proofs.SliceGetLemmas.{push_cases}
use Rattle.flatgrammar.proofs.AreClassesLemmas.{rising_up}
use Rattle.lazydfa.proofs.StateSetsLemmas.{contained_at, got_at}
use Rattle.rulelines.specs.FirstLines.{sort_key}
use Rattle.rulelines.specs.Samples.{AreInLineOrder, symbol_of}
use Rattle.flatgrammar.specs.Stacks.{AreAlike}
use Rattle.rulelines.specs.Starts.{AreClassStarts, HaveBothEnds, HaveBothKeys, IsJoinedOn}
use Rattle.rulelines.specs.StatePairs.{AreSamples, HasSample}
use Rattle.rulelines.proofs.ComesFirstLemmas.{one_key}
use Rattle.rulelines.proofs.SamplesLemmas.{key_symbol}
use Rattle.rulelines.proofs.StartsLemmas.{alike_on}

-- of two keys the first is less
keys_rise : (keys : List ℕ) → IsStrictlyIncreasing keys → (i j a b : ℕ) → i < j → slice_get keys i ≡ Some a
    → slice_get keys j ≡ Some b → a < b
keys_rise keys rise i j a b lt at_i at_j = by (cases_lt (i + 1) j)
  where
    within : j < length keys
    within = slice_get_within keys j b at_j

    first : get_or keys i 0 ≡ a
    first = get_or_from_slice_get keys i a 0 at_i

    second : get_or keys j 0 ≡ b
    second = get_or_from_slice_get keys j b 0 at_j

    next : get_or keys i 0 < get_or keys (i + 1) 0
    next = rise i (omega (arith, lt, within))

    by : (i + 1 < j) ⊎ (j ≤ i + 1) → a < b
    by (inl less) =
        let up = rising_up keys rise (i + 1) j 0 (omega (arith, less)) within in
        omega (arith, next, up, first, second)
    by (inr le) =
        let here : i + 1 ≡ j = omega (arith, lt, le) in
        let same = ap (λ v. get_or keys v 0) here in
        omega (arith, next, same, first, second)

module _ (has : ℕ → Bool) (keys : List ℕ) where
  -- the symbols of the first n keys
  pub record AreSymbolsTo (n : ℕ) (symbols : List ℕ) : Type 0 where
    pub only : (c : ℕ) → Contains symbols c → (has c ≡ true) × (i : ℕ) × (i < n)
        × (slice_get keys i ≡ Some (sort_key c))
    pub all : (i c : ℕ) → i < n → has c ≡ true → slice_get keys i ≡ Some (sort_key c) → Contains symbols c
    pub order : (i j c d : ℕ) → i < j → slice_get symbols i ≡ Some c → slice_get symbols j ≡ Some d
        → sort_key c < sort_key d

  pub no_symbols : (symbols : List ℕ) → symbols ≡ [] → AreSymbolsTo 0 symbols
  no_symbols symbols none = subst (λ v. AreSymbolsTo 0 v) (sym none) (record {
    only = λ c h. absurd (let lt = h.1 in omega (arith, lt));
    all = λ i c lt. absurd (omega (arith, lt));
    order = λ i j c d lt at_i. absurd (cc at_i);
  })

  module _ (rise : IsStrictlyIncreasing keys) (n key : ℕ) (at_n : slice_get keys n ≡ Some key) (old : List ℕ)
      (are : AreSymbolsTo n old) where
    pub symbols_pushed : (c : ℕ) (new : List ℕ) → has c ≡ true → sort_key c ≡ key → new ≡ old ++ c ∷ []
        → AreSymbolsTo (n + 1) new
    symbols_pushed c new symbol is added = subst (λ v. AreSymbolsTo (n + 1) v) (sym added) (record {
      only = λ d h. known d (Contains-push_cases old c d h);
      all = λ i d lt symbol at_i. there i d symbol at_i (cases_lt i n) lt;
      order = λ i j d e lt at_i at_j. ordered i j d e lt (push_cases old c i d at_i) (push_cases old c j e at_j);
    })
      where
        known : (d : ℕ) → Contains old d ⊎ (c ≡ d) → (has d ≡ true) × (i : ℕ) × (i < n + 1)
            × (slice_get keys i ≡ Some (sort_key d))
        known d (inl h) = let g = are.only d h in (g.0, g.1, (let lt = g.2 in omega (arith, lt)), g.3)
        known d (inr same) = (
          subst (λ v. has v ≡ true) same symbol,
          n,
          omega arith,
          at_n ∙ ap (λ v. Some v) (sym is ∙ ap sort_key same),
        )

        there : (i d : ℕ) → has d ≡ true → slice_get keys i ≡ Some (sort_key d) → (i < n) ⊎ (n ≤ i) → i < n + 1
            → Contains (old ++ c ∷ []) d
        there i d inner at_i (inl less) lt = Contains-append_left old (c ∷ []) d (are.all i d less inner at_i)
        there i d inner at_i (inr more) lt =
            let here : i ≡ n = omega (arith, more, lt) in
            let at_d : slice_get keys n ≡ Some (sort_key d) =
            subst (λ v. slice_get keys v ≡ Some (sort_key d)) here at_i in
            let key_d : key ≡ sort_key d = cc (at_n, at_d) in
            subst (λ v. Contains (old ++ c ∷ []) v) (one_key c d (is ∙ key_d)) (Contains-push old c)

        ordered : (i j d e : ℕ) → i < j → (slice_get old i ≡ Some d) ⊎ ((i ≡ length old) × (c ≡ d))
            → (slice_get old j ≡ Some e) ⊎ ((j ≡ length old) × (c ≡ e)) → sort_key d < sort_key e
        ordered i j d e lt (inl at_i) (inl at_j) = are.order i j d e lt at_i at_j
        ordered i j d e lt (inl at_i) (inr at_j) =
            let g = are.only d (contained_at old i d at_i) in
            let less = keys_rise keys rise g.1 n (sort_key d) key g.2 g.3 at_n in
            let same = ap sort_key at_j.1 in
            omega (arith, less, is, same)
        ordered i j d e lt (inr at_i) (inl at_j) =
            absurd (let within = slice_get_within old j e at_j in let e = at_i.0 in omega (arith, within, lt, e))
        ordered i j d e lt (inr at_i) (inr at_j) =
            absurd (let e = at_i.0 in let f = at_j.0 in omega (arith, lt, e, f))

    pub symbols_passed : ((c : ℕ) → has c ≡ true → sort_key c ≡ key → ⊥) → AreSymbolsTo (n + 1) old
    symbols_passed none = record {
      only = λ c h. (let g = are.only c h in (g.0, g.1, (let lt = g.2 in omega (arith, lt)), g.3));
      all = λ i c lt symbol at_i. there i c symbol at_i (cases_lt i n) lt;
      order = are.order;
    }
      where
        there : (i c : ℕ) → has c ≡ true → slice_get keys i ≡ Some (sort_key c) → (i < n) ⊎ (n ≤ i) → i < n + 1
            → Contains old c
        there i c inner at_i (inl less) lt = are.all i c less inner at_i
        there i c inner at_i (inr more) lt =
            let here : i ≡ n = omega (arith, more, lt) in
            let at_c : slice_get keys n ≡ Some (sort_key c) =
            subst (λ v. slice_get keys v ≡ Some (sort_key c)) here at_i in
            absurd (none c inner (cc (at_n, at_c)))

  pub symbols_all : (n : ℕ) (symbols : List ℕ) → length keys ≤ n → AreSymbolsTo n symbols → (c : ℕ) → has c ≡ true
      → Contains keys (sort_key c) → Contains symbols c
  symbols_all n symbols le are c symbol h =
      are.all h.0 c (let lt = h.1 in omega (arith, lt, le)) symbol (got_at keys (sort_key c) h)

  pub symbols_ordered : (n : ℕ) (symbols : List ℕ) → AreSymbolsTo n symbols → AreInLineOrder has symbols
  symbols_ordered n symbols are = record { symbols = λ c h. (are.only c h).0; order = are.order }

-- no symbol has the key
pub not_inner : (has : ℕ → Bool) (key c : ℕ) → c ≡ symbol_of key → (has c ≡ true → sort_key c ≡ key → ⊥) → (d : ℕ)
    → has d ≡ true → sort_key d ≡ key → ⊥
not_inner has key c is none d symbol same =
    let one : d ≡ c = sym (key_symbol d) ∙ (ap symbol_of same ∙ sym is) in
    none (subst (λ v. has v ≡ true) one symbol) (ap sort_key (sym one) ∙ same)

-- by starts of classes
module _ (flat : Flat) (has : ℕ → Bool) (starts samples : List ℕ) (are : AreClassStarts flat has starts)
    (all : (c : ℕ) → has c ≡ true → Contains starts (sort_key c) → Contains samples c) where
  sample_on : (n c : ℕ) → sort_key c ≡ n → has c ≡ true
      → ((m d : ℕ) → n ≡ suc m → sort_key d ≡ m → has d ≡ true → HasSample flat flat samples d)
      → Contains starts (sort_key c) ⊎ IsJoinedOn flat has c → HasSample flat flat samples c
  sample_on n c is symbol before (inl there) = record {
    sample = c;
    is = all c symbol there;
    old_alike = λ q r set rd. (λ h. h, λ h. h);
    new_alike = λ q r set rd. (λ h. h, λ h. h);
    order = omega arith;
  }
  sample_on n c is symbol before (inr j) =
      let e = j.next in
      let g = before (sort_key j.before) j.before (omega (arith, e, is)) refl j.symbol in
      record {
        sample = g.sample;
        is = g.is;
        old_alike = alike_on flat c j.before g.sample j.alike g.old_alike;
        new_alike = alike_on flat c j.before g.sample j.alike g.new_alike;
        order = (let le = g.order in omega (arith, le, e));
      }

  sample_of : (n c : ℕ) → sort_key c ≡ n → has c ≡ true → HasSample flat flat samples c
  sample_of zero c is symbol = sample_on zero c is symbol (λ m d next. absurd (omega (arith, next))) (are c symbol)
  sample_of (suc n) c is symbol = sample_on (suc n) c is symbol
      (λ m d next at_d inner. sample_of n d (omega (arith, next, at_d)) inner) (are c symbol)

  pub samples_each : AreSamples flat flat has samples
  samples_each c symbol = sample_of (sort_key c) c refl symbol

  pub samples_ends : HaveBothKeys flat has starts → HaveBothEnds flat has samples
  samples_ends keys c first next = by (keys c first next)
    where
      by : AreAlike flat (c + 1) c ⊎ (Contains starts (sort_key c) × Contains starts (sort_key (c + 1)))
          → AreAlike flat (c + 1) c ⊎ (Contains samples c × Contains samples (c + 1))
      by (inl alike) = inl alike
      by (inr h) = inr (all c first h.0, all (c + 1) next h.1)
