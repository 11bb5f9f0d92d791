-- The phrases that are reported of a position are one list.
-- Serves: one_explanation, one_explanation_of_abnf
use Rattle.std.proofs.Common.{◌≡◌, ℕ, List, ◌∷◌, refl, ap}
use Rattle.diagnostics.specs.ReportedPhrases.{Phrase, AreAllReported, reported_none, reported_more, reported_not}

pub one-reported : {K : Type 0} {CanStand : K → Type 0} {ps : List (Phrase K)} {a b : List (List ℕ)}
    → AreAllReported CanStand ps a
    → AreAllReported CanStand ps b → a ≡ b
one-reported reported_none reported_none = refl
one-reported (reported_more {p} h t) (reported_more k u) = ap (λ (ws : List (List ℕ)). p.words ∷ ws) (one-reported t u)
one-reported (reported_more h t) (reported_not k u) = absurd (k h)
one-reported (reported_not h t) (reported_more k u) = absurd (h k)
one-reported (reported_not h t) (reported_not k u) = one-reported t u
