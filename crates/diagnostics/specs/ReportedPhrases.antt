-- Which phrases report what can stand at a position.
use Rattle.std.specs.Prelude.{◌≡◌, List, [], ◌∷◌, ℕ, All, Bool, ◌&&◌, not, Contains}
use Rattle.std.specs.List.{list_all, list_any}

-- a phrase, the kinds that it means, and those that another phrase would mean too
pub record Phrase (K : Type 0) : Type 0 where
  pub words : List ℕ
  pub kinds : List K
  pub bars : List K

-- all that the phrase means can stand, and nothing that bars it
pub record IsReportedPhrase {K : Type 0} (CanStand : K → Type 0) (phrase : Phrase K) : Type 0 where
  pub stand : All CanStand phrase.kinds
  pub barred : All (λ k. CanStand k → ⊥) phrase.bars

-- the words of those that are reported, in the table's order
pub data AreAllReported {K : Type 0} (CanStand : K → Type 0) : List (Phrase K) → List (List ℕ) → Type 0 where
  reported_none : AreAllReported CanStand [] []
  reported_more : {p : Phrase K} {ps : List (Phrase K)} {ws : List (List ℕ)} → IsReportedPhrase CanStand p
      → AreAllReported CanStand ps ws
      → AreAllReported CanStand (p ∷ ps) (p.words ∷ ws)
  reported_not : {p : Phrase K} {ps : List (Phrase K)} {ws : List (List ℕ)} → (IsReportedPhrase CanStand p → ⊥)
      → AreAllReported CanStand ps ws → AreAllReported CanStand (p ∷ ps) ws

-- Each kind that can stand is one that a reported phrase means, and each reported phrase means one that can stand.
pub record ReportAll {K : Type 0} (CanStand : K → Type 0) (phrases : List (Phrase K)) (reported : List (List ℕ)) : Type
    0 where
  pub each : (k : K) → CanStand k → (p : Phrase K) × Contains phrases p × Contains reported p.words × Contains p.kinds k
  pub some : All (λ words. (p : Phrase K) × (k : K) × Contains phrases p × (p.words ≡ words) × Contains p.kinds k
      × CanStand k) reported

-- whether the phrase is reported where those kinds can stand that pass the test
abbrev pub reports : {K : Type 0} → (K → Bool) → Phrase K → Bool
reports can p = list_all can p.kinds && not (list_any can p.bars)
