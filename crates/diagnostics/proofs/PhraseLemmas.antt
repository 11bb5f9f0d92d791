-- Phrases that are reported, row by row.
-- Serves: explain_fault, explain_abnf_fault
use Rattle.std.proofs.Common.{◌≡◌, ℕ, suc, ◌+◌, ◌<◌, ◌≤◌, ◌&&◌, not, Bool, true, false, List, [], ◌∷◌, ◌++◌}
use Rattle.std.proofs.Common.{length, get_or, drop, map, refl, sym, ◌∙◌, append_assoc, append-nil, add-one}
use Rattle.std.proofs.Math.Seq.{drop-cons}
use Rattle.std.proofs.lemmas.List.{drop_all}
use Rattle.std.proofs.lemmas.List.Folds.{list_any_at, list_any_none}
use Rattle.std.proofs.lemmas.List.Sums.{AllPass-from_list_all, list_all-from_AllPass}
use Rattle.std.specs.List.{list_all, list_any}
use Rattle.diagnostics.specs.ReportedPhrases.{
  Phrase,
  IsReportedPhrase,
  AreAllReported,
  reported_none,
  reported_more,
  reported_not,
  reports,
}

both-true : (a b : Bool) → (a && b) ≡ true → (a ≡ true) × (b ≡ true)
both-true true b e = (refl, e)
both-true false b e = cc

not-true : (a : Bool) → not a ≡ true → a ≡ false
not-true true e = cc
not-true false e = refl

is-false : (a : Bool) → (a ≡ true → ⊥) → a ≡ false
is-false true h = absurd (h refl)
is-false false h = refl

module _ {K : Type 0} (can : K → Bool) where
  -- the kind passes the test
  abbrev pub Allows : K → Type 0
  Allows k = can k ≡ true

  pub reports-true : (p : Phrase K) → reports can p ≡ true → IsReportedPhrase Allows p
  reports-true p e =
      let h = both-true (list_all can p.kinds) (not (list_any can p.bars)) e in
      let none = not-true (list_any can p.bars) h.1 in
      record {
        stand = AllPass-from_list_all can p.kinds h.0;
        barred = λ k d lt does.
            let any = list_any_at can p.bars k d lt does in
            let other : true ≡ false = sym any ∙ none in
            cc;
      }

  reports-false : (p : Phrase K) → reports can p ≡ false → IsReportedPhrase Allows p → ⊥
  reports-false p e h =
      let all : list_all can p.kinds ≡ true = list_all-from_AllPass can p.kinds h.stand in
      let any : list_any can p.bars ≡ false = list_any_none can p.bars
      (λ k d lt. is-false (can (get_or p.bars k d)) (h.barred k d lt)) in
      let does : reports can p ≡ true = rw (all, any) refl in
      let other : true ≡ false = sym does ∙ e in
      cc

  module _ {R : Type 0} (f : R → Phrase K) where
    -- what reports the rest of the table reports all, after the words so far
    abbrev pub ReportsRest : List R → ℕ → List (List ℕ) → Type 0
    ReportsRest table i reported = (ws : List (List ℕ)) → AreAllReported Allows (map f (drop i table)) ws
        → AreAllReported Allows (map f table) (reported ++ ws)

    rest-first : (table : List R) (i : ℕ) (d : R) (ws : List (List ℕ)) → i < length table
        → AreAllReported Allows (f (get_or table i d) ∷ map f (drop (suc i) table)) ws
        → AreAllReported Allows (map f (drop i table)) ws
    rest-first table i d ws lt h = rw (drop-cons table i d) h

    pub row-reported : (table : List R) (i : ℕ) (d : R) (reported : List (List ℕ)) → i < length table
        → reports can (f (get_or table i d)) ≡ true → ReportsRest table i reported
        → ReportsRest table (i + 1) (reported ++ (f (get_or table i d)).words ∷ [])
    row-reported table i d reported lt does h = λ ws t.
        let more : AreAllReported Allows (map f (drop (suc i) table)) ws = rw add-one at t in
        let all = h ((f (get_or table i d)).words ∷ ws) (rest-first table i d _ lt
        (reported_more (reports-true (f (get_or table i d)) does) more)) in
        rw (append_assoc reported ((f (get_or table i d)).words ∷ []) ws) all

    pub row-barred : (table : List R) (i : ℕ) (d : R) (reported : List (List ℕ)) → i < length table
        → reports can (f (get_or table i d)) ≡ false → ReportsRest table i reported → ReportsRest table (i + 1) reported
    row-barred table i d reported lt other h = λ ws t.
        let more : AreAllReported Allows (map f (drop (suc i) table)) ws = rw add-one at t in
        h ws (rest-first table i d ws lt (reported_not (reports-false (f (get_or table i d)) other) more))

    pub rest-ended : (table : List R) (i : ℕ) (reported : List (List ℕ)) → length table ≤ i
        → ReportsRest table i reported
        → AreAllReported Allows (map f table) reported
    rest-ended table i reported le h =
        let all = h [] (rw (drop_all i table le) reported_none) in
        rw (append-nil reported) at all

-- where the same kinds can stand the same is reported
module _ {K : Type 0} {P Q : K → Type 0} (onto : (k : K) → P k → Q k) (back : (k : K) → Q k → P k) where
  reported-onto : {p : Phrase K} → IsReportedPhrase P p → IsReportedPhrase Q p
  reported-onto h = record {
    stand = λ k d lt. onto _ (h.stand k d lt);
    barred = λ k d lt q. h.barred k d lt (back _ q);
  }

  reported-back : {p : Phrase K} → IsReportedPhrase Q p → IsReportedPhrase P p
  reported-back h = record {
    stand = λ k d lt. back _ (h.stand k d lt);
    barred = λ k d lt q. h.barred k d lt (onto _ q);
  }

  pub reported-same : {ps : List (Phrase K)} {ws : List (List ℕ)} → AreAllReported P ps ws → AreAllReported Q ps ws
  reported-same reported_none = reported_none
  reported-same (reported_more h hs) = reported_more (reported-onto h) (reported-same hs)
  reported-same (reported_not h hs) = reported_not (λ q. h (reported-back q)) (reported-same hs)
