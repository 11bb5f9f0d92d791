-- The lines that explain a fault, piece by piece.
-- Serves: explain_fault
use Rattle.std.proofs.Common.{◌≡◌, ◌≢◌, ℕ, ◌≤◌, ◌⊎◌, inl, inr, Bool, true, false, List, [], ◌++◌}
use Rattle.std.proofs.Common.{length, refl, ◌∙◌, arith, append_assoc, All}
use Rattle.std.proofs.lemmas.Option.{slice_get_within, get_or_from_slice_get}
use Rattle.std.specs.Prelude.{codes}
use Rattle.lexer.specs.Pieces.{LiesIn}
use Rattle.lexer.specs.TokenLists.{start_of}
use Rattle.lexer.specs.declared.limits.TheConstants.{MAX_GRAMMAR}
use Rattle.diagnostics.specs.PhraseLists.{listed}
use Rattle.diagnostics.specs.ReportedPhrases.{AreAllReported}
use Rattle.diagnostics.proofs.PhraseLemmas.{reported-same}
use Rattle.pegread.specs.declared.kind.Kind.{Kind}
use Rattle.pegread.specs.Reading.{IsHopeless, IsTooDeep, IsDecidedAt, IsFaultOf}
use Rattle.pegread.specs.Tokens.{Tok, AreTokens}
use Rattle.ruletable.specs.declared.fault.ReadFault.{ReadFault}
use Rattle.ruletable.specs.declared.fault.ReadFault.TheVariants as faults
use Rattle.pegprint.specs.declared.faults.stand.Position.{Position}
use Rattle.pegprint.specs.PegDecisions.{IsTokenOf, ReportsKinds, NoneDecides}
use Rattle.pegprint.specs.PegExpected.{CanStand, phrases}
use Rattle.pegprint.specs.PegExplained.{token_position, Why, hopeless, too_deep}
use Rattle.pegprint.specs.PegMistakes.{mistake_reported}
use Rattle.pegprint.specs.PegStands.{allows}

-- a token of a text lies in it
pub start-within : (text : List ℕ) (t : Tok) (D : List Tok → ℕ → Type 0) →
    ((all : List Tok) → AreTokens (length text) text all → All (LiesIn text) all) → IsTokenOf text t D
    → start_of t ≤ length text
start-within text t D lies h =
    let there = get_or_from_slice_get h.all h.number t t h.there in
    let at = lies h.all h.are_tokens h.number t (slice_get_within h.all h.number t h.there) in
    let here : LiesIn text t = rw there at at in
    let rises = here.rises in
    let within = here.within in
    omega arith

module _ (position : Position) (ts : List Tok) (i : ℕ) (h : ReportsKinds position ts i) where
  by-test : (k : Kind) (b : Bool) → allows position k ≡ b → CanStand ts i k → allows position k ≡ true
  by-test k true e s = e
  by-test k false e s = absurd (h.other k e s)

  -- what the position says can stand there
  pub position-reports : {ws : List (List ℕ)} → AreAllReported (λ k. allows position k ≡ true) phrases ws
      → AreAllReported (CanStand ts i) phrases ws
  position-reports t = reported-same h.stand (λ k s. by-test k (allows position k) refl s) t

module _ (text : List ℕ) (t : Tok) (within : length text ≤ MAX_GRAMMAR) where
  pub hopeless-why : (position : Position) (reported : List (List ℕ)) (why : List ℕ) →
      IsTokenOf text t (λ ts i. IsHopeless ts i × ReportsKinds position ts i)
      → AreAllReported (λ k. allows position k ≡ true) phrases reported
      → ((all : List Tok) → AreTokens (length text) text all → why ≡ token_position text t ++ (codes "expected "
      ++ (listed reported ++ (codes "\n" ++ mistake_reported text all t))))
      → Why text why
  hopeless-why position reported why h reports e = rw (e h.all h.are_tokens)
      (hopeless within h.are_tokens h.there h.holds.0 (position-reports position h.all h.number h.holds.1 reports))

  pub deep-why : (why : List ℕ) → IsTokenOf text t IsTooDeep
      → why ≡ token_position text t ++ codes "200 brackets are open before it\n" → Why text why
  deep-why why h e = rw e (too_deep within h.are_tokens h.there h.holds)

-- a fault of what is not too long is that of a token
at-token : (text : List ℕ) (line : ℕ) (D : List Tok → ℕ → Type 0)
    → ((ts : List Tok) (i : ℕ) → D ts i → IsHopeless ts i ⊎ IsTooDeep ts i) → IsDecidedAt text line D
    → NoneDecides text → ⊥
at-token text line D f h none = none h.all h.are_tokens h.number (f h.all h.number h.decides)

pub fault-decided : (text : List ℕ) (fault : ReadFault) → fault ≢ faults.Memory → fault ≢ faults.TooLong
    → IsFaultOf text fault → (length text ≤ MAX_GRAMMAR) × (NoneDecides text → ⊥)
fault-decided text (faults.Syntax line) m l h = (h.within, at-token text line _ (λ ts i d. inl d.0) h)
fault-decided text (faults.CodePredicate line) m l h = (h.within, at-token text line _ (λ ts i d. inl d.0) h)
fault-decided text (faults.Depth line) m l h = (h.within, at-token text line _ (λ ts i d. inr d) h)
fault-decided text faults.TooLong m l h = absurd (l refl)
fault-decided text faults.Memory m l h = absurd (m refl)
fault-decided text (faults.NumberTooLarge line) m l h = absurd h

-- the pieces, one after the other
pub two-join : (o a b position said : List ℕ) → o ≡ [] → a ≡ o ++ position → b ≡ a ++ said → b ≡ position ++ said
two-join o a b position said z f g = rw (g, f, z) refl

pub five-join : (o a b c d e position said reported end facts : List ℕ) → o ≡ [] → a ≡ o ++ position → b ≡ a ++ said
    → c ≡ b ++ reported → d ≡ c ++ end → e ≡ d ++ facts → e ≡ position ++ (said ++ (reported ++ (end ++ facts)))
five-join o a b c d e position said reported end facts z f g h k l =
    let whole : e ≡ (((position ++ said) ++ reported) ++ end) ++ facts = rw (l, k, h, g, f, z) refl in
    whole ∙ simp append_assoc
