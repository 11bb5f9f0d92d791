-- What a match of two bytes says of the units that begin with the first of them, and what the table keeps of it.
-- Serves: run_peg (right)
use Rattle.std.proofs.Common.{◌≡◌, ℕ, zero, suc, ◌≤◌, true, Option, Some, List, [], ◌∷◌}
use Rattle.std.proofs.Common.{◌++◌, length, take, refl, sym, ◌∙◌, ap, subst, arith, ◌⊎◌, inl, inr}
use Rattle.std.specs.Prelude.{Ok, IfSome, slice_get, set}
use Rattle.pegread.specs.PegViews.{rules_of}
use Rattle.gramcheck.specs.Grammar.{Grammar}
use Rattle.gramcheck.specs.Outcome.{Takes, Event}
use Rattle.gramcheck.proofs.StartRuleLemmas.{rises_of_start}
use Rattle.pegmatch.specs.Answers.{StartGives}
use Rattle.pegmatch.specs.Text.{text_of}
use Rattle.pegmatch.specs.declared.style.PrintStyle.{PrintStyle}
use Rattle.pegrun.specs.Attempts.{IsAttempt}
use Rattle.pegrun.specs.ByteUnits.{AreByteUnits, IsByteUnit, SameTexts, known_text}
use Rattle.pegrun.specs.declared.attempt.Attempt.TheVariants.{Printed}
use Rattle.pegrun.specs.declared.byte_units.ByteUnits.{ByteUnits}
use Rattle.pegrun.specs.declared.byte_units.ByteUnit.{ByteUnit}
use Rattle.pegrun.specs.declared.byte_units.ByteUnit.TheVariants.{Open, Other, Prints}
use Rattle.pegrun.proofs.SameFrontLemmas.{same_front_of_start}
use Rattle.pegrun.proofs.TextOfLemmas.{text_same}

pub set_at : {X : Type 0} (xs : List X) (i j : ℕ) (y : X) → (slice_get (set xs i y) j ≡ slice_get xs j)
    ⊎ ((i ≡ j) × (slice_get (set xs i y) j ≡ Some y))
set_at [] i j y = inl refl
set_at (x ∷ xs) zero zero y = inr (refl, refl)
set_at (x ∷ xs) zero (suc j) y = inl refl
set_at (x ∷ xs) (suc i) zero y = inl refl
set_at (x ∷ xs) (suc i) (suc j) y = elim (set_at xs i j y) [
  | inl e ↦ inl e
  | inr (at, e) ↦ inr (ap suc at, e)
]

-- one more byte of which nothing is known
pub one_open : (xs : List ByteUnit) (b : ℕ) → known_text (slice_get (xs ++ (Open ∷ [])) b) ≡ known_text (slice_get xs b)
one_open [] zero = refl
one_open [] (suc b) = refl
one_open (x ∷ xs) zero = refl
one_open (x ∷ xs) (suc b) = one_open xs b

module _ (g : Grammar) (style : PrintStyle) where
  -- the second byte was not compared, so any rest may follow the first
  one_byte : (b c : ℕ) (cs : List ℕ) (events : List Event) (looked : ℕ) →
      StartGives g (b ∷ c ∷ cs) (Takes 1 events) looked → looked ≤ 1
      → IsByteUnit g style b (text_of style (b ∷ c ∷ cs) events)
  one_byte b c cs events looked d le rest =
      let there : StartGives g (b ∷ rest) (Takes 1 events) looked =
      same_front_of_start (rules_of g.rules) g.start (b ∷ []) c cs rest looked (Takes 1 events) le d in
      let r = rises_of_start (rules_of g.rules) g.start (b ∷ c ∷ cs) 1 looked events d in (
        events,
        looked,
        there,
        le,
        text_same style (b ∷ []) (c ∷ cs) 1 events r.0 (omega arith)
            ∙ sym (text_same style (b ∷ []) rest 1 events r.0 (omega arith)),
      )

  -- the first two bytes of a window, which were matched as one that more bytes follow
  two_bytes : (window text : List ℕ) (b : ℕ) → 2 ≤ length window → slice_get window 0 ≡ Some b →
      IsAttempt g (take 2 window) true style (Some []) (Some text) (Ok (Printed 1)) → IsByteUnit g style b text
  two_bytes [] text b le first attempt = absurd (omega arith)
  two_bytes (a ∷ []) text b le first attempt = absurd (omega arith)
  two_bytes (a ∷ c ∷ rest) text b le first (events, looked, d, enough, wrote) =
      let lt = enough refl in
      let unit = one_byte a c [] events looked d (omega (arith, lt)) in
      let is : a ≡ b = cc first in
      rw (wrote, ← is) unit

  pub asked_bytes : (window text : List ℕ) (b : ℕ) (known : ByteUnit) (old new : Option (List ℕ)) → 2 ≤ length window →
      slice_get window 0 ≡ Some b → old ≡ Some [] → new ≡ Some text →
      IsAttempt g (take 2 window) true style old new (Ok (Printed 1)) →
      IfSome (known_text (Some known)) (λ kept. kept ≡ text) → IfSome (known_text (Some known)) (IsByteUnit g style b)
  asked_bytes window text b Open old new le first was is attempt kept = tt
  asked_bytes window text b Other old new le first was is attempt kept = tt
  asked_bytes window text b (Prints t) old new le first was is attempt kept =
      rw kept (two_bytes window text b le first (rw (was, is) at attempt))

  pub same_units : (old new : ByteUnits) → SameTexts old new → AreByteUnits g style old → AreByteUnits g style new
  same_units old new same are c text e = are c text (sym (same c) ∙ e)

  -- what is kept of a byte
  pub kept_byte : (old mid : ByteUnits) (b : ℕ) (known : ByteUnit) → SameTexts old mid → AreByteUnits g style old
      → IfSome (known_text (Some known)) (IsByteUnit g style b) → (c : ℕ) (text : List ℕ)
      → known_text (slice_get (set mid.known.items b known) c) ≡ Some text → IsByteUnit g style c text
  kept_byte old mid b known same are one c text e = elim (set_at mid.known.items b c known) [
    | inl s ↦ are c text (sym (same c) ∙ ap known_text (sym s) ∙ e)
    | inr (at, s) ↦
        let said : known_text (Some known) ≡ Some text = ap known_text (sym s) ∙ e in
        let unit : IsByteUnit g style b text = subst (λ o. IfSome o (IsByteUnit g style b)) said one in
        subst (λ n. IsByteUnit g style n text) at unit
  ]

  -- nothing is known
  pub none_known : (units : ByteUnits) → units.known.items ≡ [] → AreByteUnits g style units
  none_known units is c text e = absurd (let n = ap (λ items. known_text (slice_get items c)) (sym is) ∙ e in cc n)
