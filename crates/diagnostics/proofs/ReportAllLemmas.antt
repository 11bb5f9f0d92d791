-- The reported phrases mean all kinds that can stand.
-- Serves: nothing_left_out, nothing_left_out_of_abnf
use Rattle.std.proofs.Common.{◌≡◌, ℕ, zero, suc, Bool, true, List, [], ◌∷◌, length, slice_index_or, refl, sym}
use Rattle.std.proofs.Common.{ap, subst, arith, nat_lt, All, Contains}
use Rattle.std.proofs.lemmas.Bool.{ltb-true}
use Rattle.std.proofs.lemmas.List.Elements.{All-nil, All-cons, All-head, All-tail, All-weaker, All-contains}
use Rattle.diagnostics.specs.ReportedPhrases.{
  Phrase,
  IsReportedPhrase,
  AreAllReported,
  reported_none,
  reported_more,
  reported_not,
  reports,
  ReportAll,
}
use Rattle.diagnostics.proofs.PhraseLemmas.{Allows, reports-true}

-- one more before
contains-later : {A : Type 0} (y x : A) (xs : List A) → Contains xs x → Contains (y ∷ xs) x
contains-later y x xs (k, lt, e) = (suc k, omega arith, e)

module _ {K : Type 0} where
  abbrev has_kinds : Phrase K → Bool
  has_kinds p = nat_lt 0 (length p.kinds)

  abbrev HasKinds : Phrase K → Type 0
  HasKinds p = has_kinds p ≡ true

  first-kind : (ks : List K) → nat_lt 0 (length ks) ≡ true → (k : K) × Contains ks k
  first-kind [] e = cc
  first-kind (k ∷ ks) e = (k, (0, ltb-true 0 (length (k ∷ ks)) e, refl))

  module _ (CanStand : K → Type 0) where
    words-reported : {p : Phrase K} {ps : List (Phrase K)} {ws : List (List ℕ)} → AreAllReported CanStand ps ws
        → Contains ps p
        → IsReportedPhrase CanStand p → Contains ws p.words
    words-reported reported_none (k, lt, e) is = absurd (omega arith)
    words-reported (reported_more {p = q} {ws} h t) (zero, lt, e) is =
        (0, omega arith, ap (λ (r : Phrase K). r.words) e)
    words-reported {p} (reported_more {p = q} {ws} h t) (suc k, lt, e) is =
        contains-later q.words p.words ws (words-reported t (k, omega arith, e) is)
    words-reported (reported_not {p = q} h t) (zero, lt, e) is = absurd
        (h (subst (IsReportedPhrase CanStand) (sym e) is))
    words-reported (reported_not {p = q} h t) (suc k, lt, e) is = words-reported t (k, omega arith, e) is

    -- a kind that can stand, of a phrase with those words
    abbrev MeansSome : List (Phrase K) → List ℕ → Type 0
    MeansSome ps words = (p : Phrase K) × (k : K) × Contains ps p × (p.words ≡ words) × Contains p.kinds k × CanStand k

    means-later : (q : Phrase K) (ps : List (Phrase K)) (words : List ℕ) → MeansSome ps words
        → MeansSome (q ∷ ps) words
    means-later q ps words (p, k, at, e, of, can) = (p, k, contains-later q p ps at, e, of, can)

    means-some : {ps : List (Phrase K)} {ws : List (List ℕ)} → AreAllReported CanStand ps ws
        → All HasKinds ps → All (MeansSome ps) ws
    means-some reported_none has = All-nil (MeansSome [])
    means-some (reported_more {p} {ps} {ws} h t) has =
        let k = first-kind p.kinds (All-head HasKinds p ps has) in
        All-cons (MeansSome (p ∷ ps)) p.words ws
        (p, k.0, (0, omega arith, refl), refl, k.1, All-contains CanStand p.kinds k.0 h.stand k.1)
        (All-weaker (MeansSome ps) (MeansSome (p ∷ ps)) (means-later p ps) ws
        (means-some t (All-tail HasKinds p ps has)))
    means-some (reported_not {p} {ps} {ws} h t) has = All-weaker (MeansSome ps) (MeansSome (p ∷ ps))
        (means-later p ps) ws
        (means-some t (All-tail HasKinds p ps has))

  -- a reported phrase of the table that means the kind
  pub record IsMeant (can : K → Bool) (phrases : List (Phrase K)) (k : K) : Type 0 where
    pub phrase : Phrase K
    pub there : Contains phrases phrase
    pub reported : reports can phrase ≡ true
    pub means : Contains phrase.kinds k

  -- that of a row, at a position among its kinds
  module _ (can : K → Bool) (phrases : List (Phrase K)) (k : K) (row position : ℕ) where
    abbrev phrase_at : Phrase K
    phrase_at = slice_index_or phrases row (record { words = []; kinds = []; bars = [] })

    pub means-at : nat_lt row (length phrases) ≡ true → slice_index_or phrases row phrase_at ≡ phrase_at
        → reports can phrase_at ≡ true → nat_lt position (length (phrase_at).kinds) ≡ true
        → slice_index_or (phrase_at).kinds position k ≡ k → IsMeant can phrases k
    means-at there e does inside e' = record {
      phrase = phrase_at;
      there = (row, ltb-true row (length phrases) there, e);
      reported = does;
      means = (position, ltb-true position (length (phrase_at).kinds) inside, e');
    }

  pub report-all : (can : K → Bool) (phrases : List (Phrase K)) {reported : List (List ℕ)}
      → All HasKinds phrases → ((k : K) → can k ≡ true → IsMeant can phrases k)
      → AreAllReported (Allows can) phrases reported → ReportAll (Allows can) phrases reported
  report-all can phrases has meant t = record {
    each = λ k e.
        let m = meant k e in
        (m.phrase, m.there, words-reported (Allows can) t m.there (reports-true can m.phrase m.reported), m.means);
    some = means-some (Allows can) t has;
  }

-- where the same kinds can stand
pub report-same : {K : Type 0} {P Q : K → Type 0} {ps : List (Phrase K)} {ws : List (List ℕ)} → ((k : K) → P k → Q k)
    → ((k : K) → Q k → P k) → ReportAll P ps ws → ReportAll Q ps ws
report-same {P} {Q} {ps} {ws} onto back h = record {
  each = λ k q. h.each k (back k q);
  some = All-weaker (MeansSome P ps) (MeansSome Q ps) (λ words m. (m.0, m.1, m.2, m.3, m.4, onto m.1 m.5)) ws h.some;
}
