-- Rests from symbol to symbol, in the order of lines.
-- Serves: first, after.
use Rattle.std.proofs.Common.{◌≡◌, ◌⊎◌, inl, inr, ℕ, zero, suc, ◌+◌, ◌-◌, ◌<◌, ◌≤◌, List, [], ◌∷◌, length}
use Rattle.std.proofs.Common.{refl, sym, ◌∙◌}
use Rattle.std.proofs.Common.{ap, subst, arith}
use Rattle.std.proofs.lemmas.Bool.{cases_lt}
use Rattle.std.specs.Prelude.{Bool, true, None, Some, Contains}
use Rattle.flatgrammar.specs.Flat.{Flat, Dot}
use Rattle.flatgrammar.specs.Stacks.{IsNext}
use Rattle.lazydfa.specs.StateSets.{StateSet}
use Rattle.rulelines.specs.FirstLines.{ComesFirst, IsShortlexBefore, later, shorter, sort_key, symbol}
use Rattle.rulelines.specs.Samples.{symbol_of}
use Rattle.rulelines.specs.Rests.{HasNoNextRest, HasRest, IsFirstKey, IsFirstRest, IsNextRest, IsRest, TakesKey}
use Rattle.rulelines.specs.Starts.{AreClassStarts, IsJoinedOn}
use Rattle.rulelines.proofs.SamplesLemmas.{key_symbol}
use Rattle.rulelines.proofs.TakesLemmas.{takes_after, takes_alike, takes_before}

module _ (flat : Flat) (last : Dot → Bool) (has : ℕ → Bool) where
  abbrev Rest : StateSet → ℕ → List ℕ → Type 0
  Rest = IsRest flat last has

  abbrev Leads : StateSet → ℕ → StateSet → Type 0
  Leads s c t = IsNext flat last (Contains s.stacks) c (Contains t.stacks) t.ended

  rest_on : (s t : StateSet) (c k n : ℕ) → Leads s c t → (w : List ℕ) → n ≡ suc k → Rest s n (c ∷ w) → Rest t k w
  rest_on s t c k n l w is r = record {
    symbols = r.symbols.1;
    count = (let e = r.count in omega (arith, e, is));
    takes = takes_after flat last s t c l w r.takes;
  }

  rest_back : (s t : StateSet) (c k n : ℕ) → Leads s c t → has c ≡ true → (w : List ℕ) → n ≡ suc k → Rest t k w
      → Rest s n (c ∷ w)
  rest_back s t c k n l inner w is r = record {
    symbols = (inner, r.symbols);
    count = (let e = r.count in omega (arith, e, is));
    takes = takes_before flat last s t c l w r.takes;
  }

  key_of_rest : (s : StateSet) (c k n : ℕ) (w : List ℕ) → n ≡ suc k → Rest s n (c ∷ w)
      → TakesKey flat last has s (sort_key c) k
  key_of_rest s c k n w is r = record {
    symbol = c;
    is = refl;
    more = w;
    rest = record {
      symbols = r.symbols;
      count = (let e = r.count in omega (arith, e, is));
      takes = r.takes;
    };
  }

  -- no symbol
  pub ended_rest : (s : StateSet) → s.ended ≡ true → HasRest flat last has s 0
  ended_rest s ended = ([], record { symbols = tt; count = refl; takes = ended })

  pub rest_ended : (s : StateSet) → HasRest flat last has s 0 → s.ended ≡ true
  rest_ended s h = by h.0 h.1
    where
      by : (w : List ℕ) → Rest s 0 w → s.ended ≡ true
      by [] r = r.takes
      by (c ∷ w) r = absurd (let e = r.count in omega (arith, e))

  pub first_ended : (s : StateSet) → s.ended ≡ true → IsFirstRest flat last has s 0 []
  first_ended s ended = record {
    is = record { symbols = tt; count = refl; takes = ended };
    first = λ v r. by v r;
  }
    where
      by : (v : List ℕ) → Rest s 0 v → ComesFirst [] v
      by [] r = inl refl
      by (c ∷ v) r = absurd (let e = r.count in omega (arith, e))

  -- a symbol and k more
  pub some_key : (s : StateSet) (k key : ℕ) → TakesKey flat last has s key k → HasRest flat last has s (k + 1)
  some_key s k key t = (t.symbol ∷ t.more, t.rest)

  pub no_key : (s : StateSet) (k : ℕ) → IsFirstKey flat last has s 0 k None → HasRest flat last has s (k + 1) → ⊥
  no_key s k none h = by h.0 h.1
    where
      by : (w : List ℕ) → Rest s (k + 1) w → ⊥
      by [] r = let e = r.count in omega (arith, e)
      by (c ∷ w) r = none (sort_key c) (omega arith) (key_of_rest s c k (k + 1) w (omega arith) r)

  -- whether a key is taken
  pub key_taken : (s t : StateSet) (c key k : ℕ) → sort_key c ≡ key → has c ≡ true → Leads s c t
      → HasRest flat last has t k → TakesKey flat last has s key k
  key_taken s t c key k is inner l h = record {
    symbol = c;
    is = is;
    more = h.0;
    rest = rest_back s t c k (k + 1) l inner h.0 (omega arith) h.1;
  }

  pub taken_key : (s t : StateSet) (c key k : ℕ) → c ≡ symbol_of key → Leads s c t → TakesKey flat last has s key k
      → HasRest flat last has t k
  taken_key s t c key k is l h =
      let same : h.symbol ≡ c = sym (key_symbol h.symbol) ∙ (ap symbol_of h.is ∙ sym is) in (
        h.more,
        rest_on s t c k (k + 1) l h.more (omega arith) (subst (λ v. Rest s (k + 1) (v ∷ h.more)) same h.rest),
      )

  pub taken_symbol : (s : StateSet) (key k : ℕ) → TakesKey flat last has s key k → (has (symbol_of key) ≡ true)
      × (sort_key (symbol_of key) ≡ key)
  taken_symbol s key k h =
      let same : h.symbol ≡ symbol_of key = sym (key_symbol h.symbol) ∙ ap symbol_of h.is in
      (subst (λ v. has v ≡ true) same h.rest.symbols.0, ap sort_key (sym same) ∙ h.is)

  -- by a first key, the first of rests
  module _ (s t : StateSet) (k n from key : ℕ) (is : n ≡ suc k) (found : IsFirstKey flat last has s from k (Some key))
      (l : Leads s (symbol_of key) t) (u : List ℕ) (first : IsFirstRest flat last has t k u) where
    abbrev Symbol : ℕ
    Symbol = symbol_of key

    key_rest : Rest s n (Symbol ∷ u)
    key_rest = rest_back s t Symbol k n l (taken_symbol s key k found.1).0 u is first.is

    first_of : (d : ℕ) (v : List ℕ) → from ≤ sort_key d → Rest s n (d ∷ v) → ComesFirst (Symbol ∷ u) (d ∷ v)
    first_of d v le r = by (cases_lt (sort_key d) key) (cases_lt key (sort_key d))
      where
        by : (sort_key d < key) ⊎ (key ≤ sort_key d) → (key < sort_key d) ⊎ (sort_key d ≤ key)
            → ComesFirst (Symbol ∷ u) (d ∷ v)
        by (inl less) _ = absurd (found.2 (sort_key d) le less (key_of_rest s d k n v is r))
        by (inr ge) (inl more) = inr (symbol
            (let a = first.is.count in let b = r.count in omega (arith, a, b, is))
            (let e = (taken_symbol s key k found.1).1 in omega (arith, e, more)))
        by (inr ge) (inr le_key) =
            let same : sort_key d ≡ key = omega (arith, ge, le_key) in
            let one : d ≡ Symbol = sym (key_symbol d) ∙ ap symbol_of same in
            on (first.first v (rest_on s t Symbol k n l v is (subst (λ x. Rest s n (x ∷ v)) one r))) one
          where
            on : ComesFirst u v → d ≡ Symbol → ComesFirst (Symbol ∷ u) (d ∷ v)
            on (inl alike) one = inl (ap (λ x. x ∷ u) (sym one) ∙ ap (λ x. d ∷ x) alike)
            on (inr before) one = inr (subst (λ x. IsShortlexBefore (Symbol ∷ u) (x ∷ v)) (sym one) (later before))

  pub first_more : (s t : StateSet) (k n key : ℕ) → n ≡ suc k → IsFirstKey flat last has s 0 k (Some key)
      → Leads s (symbol_of key) t → (u : List ℕ) → IsFirstRest flat last has t k u
      → IsFirstRest flat last has s n (symbol_of key ∷ u)
  first_more s t k n key is found l u first = record {
    is = key_rest s t k n 0 key is found l u first;
    first = λ v r. by v r;
  }
    where
      by : (v : List ℕ) → Rest s n v → ComesFirst (symbol_of key ∷ u) v
      by [] r = absurd (let e = r.count in omega (arith, e, is))
      by (d ∷ v) r = first_of s t k n 0 key is found l u first d v (omega arith) r

  -- the next rest after a line
  module _ (s t : StateSet) (c : ℕ) (line : List ℕ) (l : Leads s c t) (inner : has c ≡ true) where
    pub next_on : (v : List ℕ) → IsNextRest flat last has t line v → IsNextRest flat last has s (c ∷ line) (c ∷ v)
    next_on v n = record {
      is = rest_back s t c (length line) (length (c ∷ line)) l inner v refl n.is;
      later = later n.later;
      first = λ x r b. by x r b;
    }
      where
        by : (x : List ℕ) → Rest s (length (c ∷ line)) x → IsShortlexBefore (c ∷ line) x → ComesFirst (c ∷ v) x
        by x r (shorter lt) = absurd (let e = r.count in omega (arith, e, lt))
        by (d ∷ x) r (symbol same lt) =
            inr (symbol (let a = n.is.count in omega (arith, a, same)) lt)
        by (d ∷ x) r (later b) =
            on (n.first x (rest_on s t c (length line) (length (c ∷ line)) l x refl r) b)
          where
            on : ComesFirst v x → ComesFirst (c ∷ v) (c ∷ x)
            on (inl same) = inl (ap (λ y. c ∷ y) same)
            on (inr before) = inr (later before)

    pub none_next : HasNoNextRest flat last has t line
        → IsFirstKey flat last has s (sort_key c + 1) (length line) None → HasNoNextRest flat last has s (c ∷ line)
    none_next none found x r b = by x r b
      where
        by : (x : List ℕ) → Rest s (length (c ∷ line)) x → IsShortlexBefore (c ∷ line) x → ⊥
        by x r (shorter lt) = let e = r.count in omega (arith, e, lt)
        by (d ∷ x) r (symbol same lt) =
            found (sort_key d) (omega (arith, lt)) (key_of_rest s d (length line) (length (c ∷ line)) x refl r)
        by (d ∷ x) r (later b) = none x (rest_on s t c (length line) (length (c ∷ line)) l x refl r) b

    pub changed_next : (key : ℕ) (to : StateSet) (u : List ℕ) → HasNoNextRest flat last has t line
        → IsFirstKey flat last has s (sort_key c + 1) (length line) (Some key) → Leads s (symbol_of key) to
        → IsFirstRest flat last has to (length line) u → IsNextRest flat last has s (c ∷ line) (symbol_of key ∷ u)
    changed_next key to u none found on first = record {
      is = key_rest s to (length line) (length (c ∷ line)) (sort_key c + 1) key refl found on u first;
      later = symbol (sym first.is.count)
          (let e = (taken_symbol s key (length line) found.1).1 in let le = found.0 in omega (arith, e, le));
      first = λ x r b. by x r b;
    }
      where
        by : (x : List ℕ) → Rest s (length (c ∷ line)) x → IsShortlexBefore (c ∷ line) x
            → ComesFirst (symbol_of key ∷ u) x
        by x r (shorter lt) = absurd (let e = r.count in omega (arith, e, lt))
        by (d ∷ x) r (symbol same lt) =
            first_of s to (length line) (length (c ∷ line)) (sort_key c + 1) key refl found on u first d x
            (omega (arith, lt)) r
        by (d ∷ x) r (later b) = absurd (none x (rest_on s t c (length line) (length (c ∷ line)) l x refl r) b)

  -- from a taken key back to a number, or to a start after it
  module _ (starts : List ℕ) (are : AreClassStarts flat has starts) (s : StateSet) (k from : ℕ) where
    pub record IsStartTaken (key : ℕ) : Type 0 where
      pub start : ℕ
      pub is : Contains starts start
      pub more : from < start
      pub most : start ≤ key
      pub taken : TakesKey flat last has s start k

    key_before : (key : ℕ) (h : TakesKey flat last has s key k) → IsJoinedOn flat has h.symbol → (before : ℕ)
        × (key ≡ suc before) × TakesKey flat last has s before k
    key_before key h j = (
      sort_key j.before,
      (let a = j.next in let b = h.is in omega (arith, a, b)),
      record {
        symbol = j.before;
        is = refl;
        more = h.more;
        rest = record {
          symbols = (j.symbol, h.rest.symbols.1);
          count = h.rest.count;
          takes = takes_alike flat last j.alike s h.more h.rest.takes;
        };
      },
    )

    further_back : (key before : ℕ) → key ≡ suc before → TakesKey flat last has s from k ⊎ IsStartTaken before
        → TakesKey flat last has s from k ⊎ IsStartTaken key
    further_back key before next (inl t) = inl t
    further_back key before next (inr t) = inr (record {
      start = t.start;
      is = t.is;
      more = t.more;
      most = (let le = t.most in omega (arith, le, next));
      taken = t.taken;
    })

    start_or_back : (n key : ℕ) → key ≡ from + suc n → (h : TakesKey flat last has s key k)
        → ((before : ℕ) → before ≡ from + n → TakesKey flat last has s before k
        → TakesKey flat last has s from k ⊎ IsStartTaken before)
        → Contains starts (sort_key h.symbol) ⊎ IsJoinedOn flat has h.symbol
        → TakesKey flat last has s from k ⊎ IsStartTaken key
    start_or_back n key is h back (inl there) = inr (record {
      start = key;
      is = subst (λ v. Contains starts v) h.is there;
      more = omega (arith, is);
      most = omega arith;
      taken = h;
    })
    start_or_back n key is h back (inr j) =
        let g = key_before key h j in
        further_back key g.0 g.1 (back g.0 (let e = g.1 in omega (arith, e, is)) g.2)

    pub back_to_start : (n key : ℕ) → key ≡ from + n → TakesKey flat last has s key k
        → TakesKey flat last has s from k ⊎ IsStartTaken key
    back_to_start zero key is h = inl (subst (λ v. TakesKey flat last has s v k) (omega (arith, is)) h)
    back_to_start (suc n) key is h =
        start_or_back n key is h (λ before e t. back_to_start n before e t) (are h.symbol h.rest.symbols.0)

    -- if no such start is taken, nor the number, no key from there on is
    pub none_from : (TakesKey flat last has s from k → ⊥)
        → ((b : ℕ) → Contains starts b → from < b → TakesKey flat last has s b k → ⊥)
        → IsFirstKey flat last has s from k None
    none_from never none key le h = by (back_to_start (key - from) key (omega (arith, le)) h)
      where
        by : TakesKey flat last has s from k ⊎ IsStartTaken key → ⊥
        by (inl t) = never t
        by (inr t) = none t.start t.is t.more t.taken

    pub first_from : (found : ℕ) → from < found → TakesKey flat last has s found k
        → (TakesKey flat last has s from k → ⊥)
        → ((b : ℕ) → Contains starts b → from < b → b < found → TakesKey flat last has s b k → ⊥)
        → IsFirstKey flat last has s from k (Some found)
    first_from found lt taken never none = (
      omega (arith, lt),
      taken,
      λ key le less h.
          by key less (back_to_start (key - from) key (omega (arith, le)) h),
    )
      where
        by : (key : ℕ) → key < found → TakesKey flat last has s from k ⊎ IsStartTaken key → ⊥
        by key less (inl t) = never t
        by key less (inr t) =
            none t.start t.is t.more (let le = t.most in omega (arith, le, less)) t.taken
