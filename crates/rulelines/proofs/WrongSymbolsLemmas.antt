-- The samples that are reported as symbols that cannot follow, one after another.
-- Serves: next
use Rattle.std.proofs.Common.{◌≡◌, ◌⊎◌, inl, inr, ℕ, ◌+◌, ◌<◌, ◌≤◌, List, [], ◌∷◌, ◌++◌, length, refl, sym, ◌∙◌}
use Rattle.std.proofs.Common.{ap, subst, arith, vec_len, Vec, Global}
use Rattle.std.proofs.lemmas.Bool.{cases_lt}
use Rattle.std.proofs.lemmas.List.Elements.{Contains-append_left, Contains-push, Contains-push_cases}
use Rattle.std.proofs.lemmas.Option.{slice_get_within}
use Rattle.std.proofs.lemmas.Bool.Decides.{Decides-eqb}
use Rattle.std.specs.Prelude.{Bool, true, false, Some, slice_get, Contains, ◌==◌}
use Rattle.flatgrammar.proofs.SliceGetLemmas.{push_cases}
use Rattle.lazydfa.proofs.StateSetsLemmas.{contained_at}
use Rattle.rulelines.specs.FirstLines.{sort_key}
use Rattle.rulelines.specs.Samples.{AreInLineOrder}
use Rattle.rulelines.specs.WrongSymbols.{AreWrongTo, IsBesideLive, IsWrongAt}
use Rattle.rulelines.proofs.StatePairsLemmas.{element_at}

no_length : (xs : List ℕ) → length xs ≡ 0 → xs ≡ []
no_length [] is = refl
no_length (x ∷ xs) is = absurd (omega (arith, is))

-- whether a list is empty
pub no_symbol : (symbols : Vec ℕ Global) (r : Bool) → r ≡ (vec_len symbols == 0) → r ≡ true → symbols.items ≡ []
no_symbol symbols r is held =
    no_length symbols.items (sym symbols.ok.0 ∙ (Decides-eqb (vec_len symbols) 0).0 (sym is ∙ held))

pub first_held : (symbols : Vec ℕ Global) (r : Bool) → r ≡ (vec_len symbols == 0) → symbols.items ≡ [] → r ≡ true
first_held symbols r is none =
    is ∙ (Decides-eqb (vec_len symbols) 0).1 (symbols.ok.0 ∙ ap (λ v. length v) none)

module _ (samples : List ℕ) (live : List Bool) where
  -- no sample of the first n is one that leads on beside a symbol
  abbrev pub HasNoneBesideTo : ℕ → ℕ → Type 0
  HasNoneBesideTo n c = (j d : ℕ) → j < n → slice_get samples j ≡ Some d → slice_get live j ≡ Some true
      → (d ≡ c + 1) ⊎ (c ≡ d + 1) → ⊥

  pub one_more_apart : (n c d : ℕ) (b : Bool) → HasNoneBesideTo n c → slice_get samples n ≡ Some d
      → slice_get live n ≡ Some b → ((b ≡ true) × ((d ≡ c + 1) ⊎ (c ≡ d + 1)) → ⊥) → HasNoneBesideTo (n + 1) c
  one_more_apart n c d b before at_n live_n apart j a lt at_j leads beside = by (cases_lt j n)
    where
      by : (j < n) ⊎ (n ≤ j) → ⊥
      by (inl less) = before j a less at_j leads beside
      by (inr more) =
          let here : j ≡ n = omega (arith, lt, more) in
          let at_a : slice_get samples n ≡ Some a = subst (λ v. slice_get samples v ≡ Some a) here at_j in
          let leads_n : slice_get live n ≡ Some true = subst (λ v. slice_get live v ≡ Some true) here leads in
          let one : d ≡ a = cc (at_n, at_a) in
          let so : b ≡ true = cc (live_n, leads_n) in
          apart (so, subst (λ v. (v ≡ c + 1) ⊎ (c ≡ v + 1)) (sym one) beside)

  pub none_beside : (n c : ℕ) → length samples ≤ n → HasNoneBesideTo n c → IsBesideLive samples live c → ⊥
  none_beside n c le none b =
      none b.index b.symbol (let lt = slice_get_within samples b.index b.symbol b.is in omega (arith, lt, le)) b.is
      b.leads b.beside

  module _ (edges : Bool) where
    -- the symbols of the first n samples, and if there are none all of those lead on
    pub record IsWrongSoFar (n : ℕ) (symbols : List ℕ) : Type 0 where
      pub are : AreWrongTo samples live edges n symbols
      pub empty : symbols ≡ [] → (j : ℕ) → j < n → slice_get live j ≡ Some true

    pub none_so_far : IsWrongSoFar 0 []
    none_so_far = record {
      are = record {
        only = λ c h. absurd (let lt = h.1 in omega (arith, lt));
        all = λ i c lt. absurd (omega (arith, lt));
        order = λ has in_order. record {
          symbols = λ c h. absurd (let lt = h.1 in omega (arith, lt));
          order = λ i j c d lt at_i. absurd (cc at_i);
        };
      };
      empty = λ none j lt. absurd (omega (arith, lt));
    }

    -- whether the sample of an index is reported, if it is the first or not
    abbrev pub IsReportedAt : ℕ → ℕ → Bool → Type 0
    IsReportedAt n c first = (slice_get live n ≡ Some false) × ((first ≡ true)
        ⊎ ((edges ≡ true) × IsBesideLive samples live c))

    module _ (n c : ℕ) (at_n : slice_get samples n ≡ Some c) (old : List ℕ) (so : IsWrongSoFar n old) where
      pub wrong_pushed : (first : Bool) (new : List ℕ) → (first ≡ true → old ≡ []) → IsReportedAt n c first
          → new ≡ old ++ c ∷ [] → IsWrongSoFar (n + 1) new
      wrong_pushed first new is_first reported added = subst (λ v. IsWrongSoFar (n + 1) v) (sym added) (record {
        are = record {
          only = λ d h. known d (Contains-push_cases old c d h);
          all = λ i d lt w. there i d w (cases_lt i n) lt;
          order = λ has in_order. record {
            symbols = λ d h. symbol has in_order d (Contains-push_cases old c d h);
            order = λ i j d e lt at_i at_j. ordered has in_order i j d e lt (push_cases old c i d at_i)
                (push_cases old c j e at_j);
          };
        };
        empty = λ none. absurd (not_empty old none);
      })
        where
          not_empty : (xs : List ℕ) → xs ++ c ∷ [] ≡ [] → ⊥
          not_empty [] none = cc none
          not_empty (x ∷ xs) none = cc none

          reason : (first ≡ true) ⊎ ((edges ≡ true) × IsBesideLive samples live c)
              → ((j : ℕ) → j < n → slice_get live j ≡ Some true) ⊎ ((edges ≡ true) × IsBesideLive samples live c)
          reason (inl is) = inl (so.empty (is_first is))
          reason (inr edge) = inr edge

          here : IsWrongAt samples live edges n c
          here = record { is = at_n; astray = reported.0; reason = reason reported.1 }

          known : (d : ℕ) → Contains old d ⊎ (c ≡ d) → (i : ℕ) × (i < n + 1) × IsWrongAt samples live edges i d
          known d (inl h) = let g = so.are.only d h in (g.0, (let lt = g.1 in omega (arith, lt)), g.2)
          known d (inr same) = (n, omega arith, subst (λ v. IsWrongAt samples live edges n v) same here)

          there : (i d : ℕ) → IsWrongAt samples live edges i d → (i < n) ⊎ (n ≤ i) → i < n + 1
              → Contains (old ++ c ∷ []) d
          there i d w (inl less) lt = Contains-append_left old (c ∷ []) d (so.are.all i d less w)
          there i d w (inr more) lt =
              let at : i ≡ n = omega (arith, more, lt) in
              let at_d : slice_get samples n ≡ Some d = subst (λ v. slice_get samples v ≡ Some d) at w.is in
              let one : c ≡ d = cc (at_n, at_d) in
              subst (λ v. Contains (old ++ c ∷ []) v) one (Contains-push old c)

          symbol : (has : ℕ → Bool) → AreInLineOrder has samples → (d : ℕ) → Contains old d ⊎ (c ≡ d) → has d ≡ true
          symbol has in_order d (inl h) = (so.are.order has in_order).symbols d h
          symbol has in_order d (inr same) = subst (λ v. has v ≡ true) same
              (in_order.symbols c (contained_at samples n c at_n))

          ordered : (has : ℕ → Bool) → AreInLineOrder has samples → (i j d e : ℕ) → i < j
              → (slice_get old i ≡ Some d) ⊎ ((i ≡ length old) × (c ≡ d))
              → (slice_get old j ≡ Some e) ⊎ ((j ≡ length old) × (c ≡ e)) → sort_key d < sort_key e
          ordered has in_order i j d e lt (inl at_i) (inl at_j) =
              (so.are.order has in_order).order i j d e lt at_i at_j
          ordered has in_order i j d e lt (inl at_i) (inr at_j) =
              let g = so.are.only d (contained_at old i d at_i) in
              subst (λ v. sort_key d < sort_key v) at_j.1 (in_order.order g.0 n d c g.1 g.2.is at_n)
          ordered has in_order i j d e lt (inr at_i) (inl at_j) =
              absurd (let within = slice_get_within old j e at_j in let e = at_i.0 in omega (arith, within, lt, e))
          ordered has in_order i j d e lt (inr at_i) (inr at_j) =
              absurd (let e = at_i.0 in let f = at_j.0 in omega (arith, lt, e, f))

      pub wrong_passed : (first : Bool) → (old ≡ [] → first ≡ true) → n < length live
          → (IsReportedAt n c first → ⊥) → IsWrongSoFar (n + 1) old
      wrong_passed first is_first within none = record {
        are = record {
          only = λ d h. (let g = so.are.only d h in (g.0, (let lt = g.1 in omega (arith, lt)), g.2));
          all = λ i d lt w. there i d w (cases_lt i n) lt;
          order = so.are.order;
        };
        empty = λ none_in j lt. leads none_in j lt (cases_lt j n);
      }
        where
          no_first : (xs : List ℕ) → ((d : ℕ) → Contains xs d → ⊥) → xs ≡ []
          no_first [] none_in = refl
          no_first (x ∷ xs) none_in = absurd (none_in x (0, omega arith, refl))

          reported : (d : ℕ) → c ≡ d → (i : ℕ) → i ≡ n → IsWrongAt samples live edges i d → IsReportedAt n c first
          reported d one i at w = (subst (λ v. slice_get live v ≡ Some false) at w.astray, by w.reason)
            where
              by : ((j : ℕ) → j < i → slice_get live j ≡ Some true) ⊎ ((edges ≡ true) × IsBesideLive samples live d)
                  → (first ≡ true) ⊎ ((edges ≡ true) × IsBesideLive samples live c)
              by (inl before) = inl (is_first (no_first old (λ a h.
                  let g = so.are.only a h in
                  let less = g.1 in
                  let leads = before g.0 (omega (arith, less, at)) in
                  let astray = g.2.astray in
                  cc (leads, astray))))
              by (inr edge) = inr (edge.0, subst (λ v. IsBesideLive samples live v) (sym one) edge.1)

          there : (i d : ℕ) → IsWrongAt samples live edges i d → (i < n) ⊎ (n ≤ i) → i < n + 1 → Contains old d
          there i d w (inl less) lt = so.are.all i d less w
          there i d w (inr more) lt =
              let at : i ≡ n = omega (arith, more, lt) in
              let at_d : slice_get samples n ≡ Some d = subst (λ v. slice_get samples v ≡ Some d) at w.is in
              let one : c ≡ d = cc (at_n, at_d) in
              absurd (none (reported d one i at w))

          flag : old ≡ [] → (b : Bool) → slice_get live n ≡ Some b → slice_get live n ≡ Some true
          flag none_in true is = is
          flag none_in false is = absurd (none (is, inl (is_first none_in)))

          leads : old ≡ [] → (j : ℕ) → j < n + 1 → (j < n) ⊎ (n ≤ j) → slice_get live j ≡ Some true
          leads none_in j lt (inl less) = so.empty none_in j less
          leads none_in j lt (inr more) =
              let at : n ≡ j = omega (arith, lt, more) in
              let g = element_at live n within in
              subst (λ v. slice_get live v ≡ Some true) at (flag none_in g.0 g.1)
