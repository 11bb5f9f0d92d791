-- Symbols that are not alike to an earlier one of a list.
-- Serves: new_symbols
use Rattle.std.proofs.Common.{◌≡◌, ◌⊎◌, inl, inr, ℕ, ◌+◌, ◌<◌, ◌≤◌, List, [], ◌∷◌, ◌++◌, length, sym, ap, subst, arith}
use Rattle.std.proofs.Common.{◌∙◌, take}
use Rattle.std.proofs.lemmas.Bool.{cases_lt}
use Rattle.std.proofs.lemmas.List.Elements.{Contains-append_left, Contains-push, Contains-push_cases}
use Rattle.std.proofs.lemmas.List.{get_or-take, length-take-le}
use Rattle.std.proofs.lemmas.Option.{get_or_from_slice_get, slice_get-get_or, slice_get_within}
use Rattle.std.specs.Prelude.{Some, slice_get, Contains}
use Rattle.abnfcheck.specs.NewSymbols.{AreNewTo, HasAlike, IsNewAt}

-- an element of a list
pub got_there : (xs : List ℕ) (x : ℕ) (h : Contains xs x) → slice_get xs h.0 ≡ Some x
got_there xs x h = slice_get-get_or xs h.0 x h.1 ∙ ap (λ v. Some v) h.2

module _ (alike : ℕ → ℕ → Type 0) (symbols : List ℕ) where
  -- none of the first n symbols is alike to a symbol
  abbrev pub HasNoneTo : ℕ → ℕ → Type 0
  HasNoneTo n c = (j b : ℕ) → j < n → slice_get symbols j ≡ Some b → alike b c → ⊥

  pub none_more : (n c b : ℕ) → HasNoneTo n c → slice_get symbols n ≡ Some b → (alike b c → ⊥) → HasNoneTo (n + 1) c
  none_more n c b before at_n never j a lt at_j same = by (cases_lt j n)
    where
      by : (j < n) ⊎ (n ≤ j) → ⊥
      by (inl less) = before j a less at_j same
      by (inr more) =
          let here : j ≡ n = omega (arith, lt, more) in
          let at_a : slice_get symbols n ≡ Some a = subst (λ v. slice_get symbols v ≡ Some a) here at_j in
          let one : b ≡ a = cc (at_n, at_a) in
          never (subst (λ v. alike v c) (sym one) same)

  pub has_none : (n c : ℕ) → length symbols ≤ n → HasNoneTo n c → HasAlike alike symbols c → ⊥
  has_none n c le none h =
      let at_b = got_there symbols h.0 h.1 in
      let lt = slice_get_within symbols h.1.0 h.0 at_b in
      none h.1.0 h.0 (omega (arith, lt, le)) at_b h.2

  pub none_new : (news : List ℕ) → news ≡ [] → AreNewTo alike symbols 0 news
  none_new news none = subst (λ v. AreNewTo alike symbols 0 v) (sym none) (record {
    only = λ c h. absurd (let lt = h.1 in omega (arith, lt));
    all = λ i c lt. absurd (omega (arith, lt));
  })

  module _ (n c : ℕ) (at_n : slice_get symbols n ≡ Some c) (old : List ℕ) (are : AreNewTo alike symbols n old) where
    pub new_pushed : (new : List ℕ) → HasNoneTo n c → new ≡ old ++ c ∷ [] → AreNewTo alike symbols (n + 1) new
    new_pushed new none added = subst (λ v. AreNewTo alike symbols (n + 1) v) (sym added) (record {
      only = λ d h. known d (Contains-push_cases old c d h);
      all = λ i d lt w. there i d w (cases_lt i n) lt;
    })
      where
        here : IsNewAt alike symbols n c
        here = record { is = at_n; apart = none }

        known : (d : ℕ) → Contains old d ⊎ (c ≡ d) → (i : ℕ) × (i < n + 1) × IsNewAt alike symbols i d
        known d (inl h) = let g = are.only d h in (g.0, (let lt = g.1 in omega (arith, lt)), g.2)
        known d (inr same) = (n, omega arith, subst (λ v. IsNewAt alike symbols n v) same here)

        there : (i d : ℕ) → IsNewAt alike symbols i d → (i < n) ⊎ (n ≤ i) → i < n + 1 → Contains (old ++ c ∷ []) d
        there i d w (inl less) lt = Contains-append_left old (c ∷ []) d (are.all i d less w)
        there i d w (inr more) lt =
            let at : i ≡ n = omega (arith, more, lt) in
            let at_d : slice_get symbols n ≡ Some d = subst (λ v. slice_get symbols v ≡ Some d) at w.is in
            let one : c ≡ d = cc (at_n, at_d) in
            subst (λ v. Contains (old ++ c ∷ []) v) one (Contains-push old c)

    pub new_passed : (b j : ℕ) → j < n → slice_get symbols j ≡ Some b → alike b c → AreNewTo alike symbols (n + 1) old
    new_passed b j before at_j same = record {
      only = λ d h. (let g = are.only d h in (g.0, (let lt = g.1 in omega (arith, lt)), g.2));
      all = λ i d lt w. there i d w (cases_lt i n) lt;
    }
      where
        there : (i d : ℕ) → IsNewAt alike symbols i d → (i < n) ⊎ (n ≤ i) → i < n + 1 → Contains old d
        there i d w (inl less) lt = are.all i d less w
        there i d w (inr more) lt =
            let at : i ≡ n = omega (arith, more, lt) in
            let at_d : slice_get symbols n ≡ Some d = subst (λ v. slice_get symbols v ≡ Some d) at w.is in
            let one : c ≡ d = cc (at_n, at_d) in
            absurd (w.apart j b (omega (arith, before, at)) at_j (subst (λ v. alike b v) one same))

    -- by the symbols before it
    pub taken_pushed : (new : List ℕ) → n ≤ length symbols → (HasAlike alike (take n symbols) c → ⊥)
        → new ≡ old ++ c ∷ [] → AreNewTo alike symbols (n + 1) new
    taken_pushed new le none added = new_pushed new (λ j b lt at_j same. none (
      b,
      (
        j,
        (let size = length-take-le n symbols le in omega (arith, lt, size)),
        get_or-take n symbols j b lt ∙ get_or_from_slice_get symbols j b b at_j,
      ),
      same,
    )) added

    pub taken_passed : n ≤ length symbols → HasAlike alike (take n symbols) c → AreNewTo alike symbols (n + 1) old
    taken_passed le h =
        let size = length-take-le n symbols le in
        let under = h.1.1 in
        let lt : h.1.0 < n = omega (arith, under, size) in
        new_passed h.0 h.1.0 lt
        (slice_get-get_or symbols h.1.0 h.0 (omega (arith, lt, le))
        ∙ ap (λ v. Some v) (sym (get_or-take n symbols h.1.0 h.0 lt) ∙ h.1.2)) h.2
