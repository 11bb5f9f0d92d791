-- Definitions start where tokens do, each after the one before it.
-- Serves: positions_of, explain_note
use Rattle.std.proofs.Common.{◌≡◌, ℕ, zero, suc, ◌+◌, ◌<◌, ◌≤◌, Bool, true, false, cond, Option, Some, None, List, []}
use Rattle.std.proofs.Common.{◌∷◌, ◌++◌, ◌==◌, ◌||◌, length, map, get_or, refl, sym, ap, ◌∙◌, subst, arith, ⊎_elim}
use Rattle.std.specs.Prelude.{slice_get}
use Rattle.std.specs.List.{filter, find, list_any}
use Rattle.std.proofs.lemmas.Bool.{cases_lt, eq-eqb, eqb-true, ne_eqb}
use Rattle.std.proofs.lemmas.Option.{slice_get-get_or}
use Rattle.ruletable.specs.declared.lines.LineRule.{LineRule}
use Rattle.lexer.specs.SliceEnds.{StandsAlone}
use Rattle.lexer.specs.TokenLists.{AreTokens, Tok, kind_of, last_one, one_more, start_of}
use Rattle.lexer.proofs.TokenListLemmas.{end-shorter}
use Rattle.diagnostics.specs.DefinitionHeads.{AreDefinitions, DefinedAt, definition_of, definitions_in}
use Rattle.diagnostics.specs.DefinitionHeads.{sign_at}
use Rattle.diagnostics.specs.NameIndexes.{Rises}
use Rattle.diagnostics.specs.declared.noteplaces.sign.Sign.{Sign}

pub rises-lower : (a b : ℕ) (ns : List ℕ) → a ≤ b → Rises b ns → Rises a ns
rises-lower a b [] le h = tt
rises-lower a b (n ∷ ns) le h = ((let first = h.0 in omega (arith, le, first)), h.1)

module _ {K : Type 0} (White : List ℕ → List ℕ → Type 0) (First : K → List ℕ → List ℕ → Type 0) (is_end : K → Bool)
    (white : (t r : List ℕ) → White t r → StandsAlone White t r)
    (less : (k : K) (t r : List ℕ) → is_end k ≡ false → First k t r → length r < length t) where
  tokens-rise : {total : ℕ} {t : List ℕ} {ts : List (Tok K)} → AreTokens White First is_end total t ts → (n : ℕ)
      → n + length t ≤ total → Rises n (map start_of ts)
  tokens-rise {total} {t} (last_one {x = x} h e) n le =
      let shorter = end-shorter (white _ _ h.white).part in
      let there = h.position in
      (omega (arith, shorter, there, le), tt)
  tokens-rise {total} {t} (one_more {x = x} h e more) n le =
      let shorter = end-shorter (white _ _ h.white).part in
      let there = h.position in
      let part = less (kind_of x) _ _ e h.first in
      (omega (arith, shorter, there, le), tokens-rise more (suc (start_of x)) (omega (arith, there, part)))

  module _ (sign_of : K → Sign) (rule : LineRule) (text : List ℕ) where
    abbrev starts_in : List DefinedAt → List ℕ
    starts_in definitions = map (λ d. d.start) definitions

    begun-rise : (begun : Option Bool) (name : List ℕ) (line n start : ℕ) (rest : List DefinedAt) → n ≤ start
        → Rises (suc start) (starts_in rest) → Rises n (starts_in (definition_of begun name line start ++ rest))
    begun-rise None name line n start rest le h =
        rises-lower n (suc start) (starts_in rest) (omega (arith, le)) h
    begun-rise (Some adds) name line n start rest le h = (le, h)

    definitions-rise : (ts : List (Tok K)) (n : ℕ) → Rises n (map start_of ts)
        → Rises n (starts_in (definitions_in rule text (map (sign_at sign_of) ts)))
    definitions-rise [] n h = tt
    definitions-rise (t ∷ []) n h = tt
    definitions-rise (t ∷ u ∷ ts) n h =
        begun-rise _ _ _ n (start_of t) (definitions_in rule text (map (sign_at sign_of) (u ∷ ts))) h.0
        (definitions-rise (u ∷ ts) (suc (start_of t)) h.1)

    pub starts-rise : (definitions : List DefinedAt)
        → AreDefinitions White First is_end sign_of rule text definitions → Rises 0 (starts_in definitions)
    starts-rise definitions h =
        subst (λ (ds : List DefinedAt). Rises 0 (starts_in ds)) (sym h.all)
        (definitions-rise h.tokens 0 (tokens-rise h.are_tokens 0 (omega arith)))

-- whether the one that is found passes, if one is
abbrev pub passes_if : {A : Type 0} → (A → Bool) → Option A → Bool
passes_if q None = false
passes_if q (Some x) = q x

-- where they rise, one is found by its own
module _ {A : Type 0} (f : A → ℕ) where
  rises-above : (n : ℕ) (xs : List A) (i : ℕ) (d : A) → Rises n (map f xs) → i < length xs → n ≤ f (get_or xs i d)
  rises-above n [] i d h lt = absurd (omega (arith, lt))
  rises-above n (x ∷ xs) zero d h lt = h.0
  rises-above n (x ∷ xs) (suc i) d h lt =
      let later = rises-above (suc (f x)) xs i d h.1 (omega (arith, lt)) in
      let first = h.0 in
      omega (arith, later, first)

  pub rises-ordered : (n : ℕ) (xs : List A) → Rises n (map f xs) → (i j : ℕ) (d : A) → i ≤ j → j < length xs
      → f (get_or xs i d) ≤ f (get_or xs j d)
  rises-ordered n [] h i j d le lt = absurd (omega (arith, lt))
  rises-ordered n (x ∷ xs) h zero zero d le lt = omega arith
  rises-ordered n (x ∷ xs) h zero (suc j) d le lt =
      let later = rises-above (suc (f x)) xs j d h.1 (omega (arith, lt)) in
      omega (arith, later)
  rises-ordered n (x ∷ xs) h (suc i) zero d le lt = absurd (omega (arith, le))
  rises-ordered n (x ∷ xs) h (suc i) (suc j) d le lt =
      rises-ordered (suc (f x)) xs h.1 i j d (omega (arith, le)) (omega (arith, lt))

  own-above : (m : ℕ) (ys : List A) (k : ℕ) (z : A) → Rises m (map f ys) → slice_get ys k ≡ Some z → m ≤ f z
  own-above m [] k z r there = absurd (cc there)
  own-above m (v ∷ ys) zero z r there =
      (let same : v ≡ z = cc there in let first = r.0 in let e = ap f same in omega (arith, first, e))
  own-above m (v ∷ ys) (suc k) z r there =
      (let deep = own-above (suc (f v)) ys k z r.1 there in let first = r.0 in omega (arith, deep, first))

  module _ (w : ℕ) where
    abbrev is_at : A → Bool
    is_at x = f x == w

    pub found-nowhere-at : (xs : List A) → ((k : ℕ) (d : A) → k < length xs → f (get_or xs k d) ≡ w → ⊥)
        → find is_at xs ≡ None
    found-nowhere-at [] h = refl
    found-nowhere-at (x ∷ xs) h =
        ap (λ (b : Bool). cond b (Some x) (find is_at xs)) (ne_eqb (f x) w (h 0 x (omega arith)))
        ∙ found-nowhere-at xs (λ k d lt e. h (suc k) d (omega (arith, lt)) e)

    -- none is at w where those before an index start before it, and the one there, if there is one, after it
    pub apart-at : (n : ℕ) (xs : List A) (i : ℕ) → Rises n (map f xs)
        → ((k : ℕ) (d : A) → k < i → k < length xs → f (get_or xs k d) < w)
        → ((k : ℕ) (d : A) → i ≤ k → k < length xs → w ≤ f (get_or xs k d))
        → ((x : A) → slice_get xs i ≡ Some x → f x ≡ w → ⊥) → find is_at xs ≡ None
    apart-at n xs i h low high here = found-nowhere-at xs (λ k d lt e. ⊎_elim
        (λ before. (let less = low k d before lt in absurd (omega (arith, less, e))))
        (λ after. (let within : i < length xs = omega (arith, after, lt) in
        let grown = rises-ordered n xs h i k d after lt in
        let least = high i d (omega arith) within in
        here (get_or xs i d) (slice_get-get_or xs i d within) (omega (arith, grown, least, e))))
        (cases_lt k i))

    pub found-own : (n : ℕ) (xs : List A) (i : ℕ) (x : A) → Rises n (map f xs) → slice_get xs i ≡ Some x → f x ≡ w
        → find is_at xs ≡ Some x
    found-own n [] i x h at is = absurd (cc at)
    found-own n (y ∷ xs) zero x h at is =
        let same : y ≡ x = cc at in
        ap (λ (b : Bool). cond b (Some y) (find is_at xs)) (eq-eqb (f y) w (ap f same ∙ is)) ∙ ap Some same
    found-own n (y ∷ xs) (suc i) x h at is =
        let later = found-own (suc (f y)) xs i x h.1 at is in
        let above = own-above (suc (f y)) xs i x h.1 at in
        ap (λ (b : Bool). cond b (Some y) (find is_at xs))
        (ne_eqb (f y) w (λ e. (let g = is in omega (arith, above, e, g)))) ∙ later

    -- so one that is at w passes exactly if the one that is found does
    module _ (q : A → Bool) where
      none-above : (xs : List A) → Rises (suc w) (map f xs) → list_any is_at (filter q xs) ≡ false
      none-above [] h = refl
      none-above (x ∷ xs) h =
          let first = h.0 in
          by (none-above xs (rises-lower (suc w) (suc (f x)) (map f xs) (omega (arith, first)) h.1))
          (λ e. omega (arith, first, e)) (q x)
        where
          by : list_any is_at (filter q xs) ≡ false → (f x ≡ w → ⊥) → (t : Bool)
              → list_any is_at (cond t (x ∷ filter q xs) (filter q xs)) ≡ false
          by rest apart true = ap (λ (b : Bool). b || list_any is_at (filter q xs)) (ne_eqb (f x) w apart) ∙ rest
          by rest apart false = rest

      pub any-found : (n : ℕ) (xs : List A) → Rises n (map f xs)
          → list_any is_at (filter q xs) ≡ passes_if q (find is_at xs)
      any-found n [] h = refl
      any-found n (x ∷ xs) h =
          by (any-found (suc (f x)) xs h.1)
          (λ e. none-above xs (subst (λ (k : ℕ). Rises (suc k) (map f xs)) (eqb-true (f x) w e) h.1))
          (is_at x) refl (q x) refl
        where
          by : list_any is_at (filter q xs) ≡ passes_if q (find is_at xs)
              → (is_at x ≡ true → list_any is_at (filter q xs) ≡ false) → (t : Bool) → is_at x ≡ t → (s : Bool)
              → q x ≡ s → list_any is_at (cond s (x ∷ filter q xs) (filter q xs))
              ≡ passes_if q (cond t (Some x) (find is_at xs))
          by deep none true e true g = ap (λ (b : Bool). b || list_any is_at (filter q xs)) e ∙ sym g
          by deep none true e false g = none e ∙ sym g
          by deep none false e true g = ap (λ (b : Bool). b || list_any is_at (filter q xs)) e ∙ deep
          by deep none false e false g = deep
