-- What came of the start rule on the first piece of a window comes of it on the window.
-- Serves: run_peg (right)
use Rattle.std.proofs.Common.{◌≡◌, ◌≢◌, ℕ, ◌<◌, Bool, true, Option, List, [], ◌∷◌, ◌++◌, length, refl, sym, ◌∙◌, ap}
use Rattle.std.proofs.Common.{subst, arith, length-append}
use Rattle.std.proofs.lemmas.List.{append-nil}
use Rattle.std.specs.Prelude.{Result, Ok, Err}
use Rattle.std.specs.Io.KnownBytes.{Appends}
use Rattle.ruletable.specs.Writing.{AppendsPart, IsPrefixOf}
use Rattle.ruletable.specs.declared.sink.WriteFault.{WriteFault}
use Rattle.pegread.specs.PegViews.{rules_of}
use Rattle.gramcheck.specs.Grammar.{Grammar}
use Rattle.gramcheck.specs.Outcome.{Outcome, Fails, Takes, Event}
use Rattle.gramcheck.proofs.StartRuleLemmas.{rises_of_start, grows_of_start}
use Rattle.pegmatch.specs.Answers.{StartGives}
use Rattle.pegmatch.specs.Text.{text_of}
use Rattle.pegmatch.specs.declared.style.PrintStyle.{PrintStyle}
use Rattle.pegrun.specs.Attempts.{IsAttempt}
use Rattle.pegrun.specs.declared.attempt.Attempt.{Attempt}
use Rattle.pegrun.specs.declared.attempt.Attempt.TheVariants.{Printed, Failed, TooLong, Costly, NoMemory}
use Rattle.pegrun.proofs.TextOfLemmas.{text_same}

module _ (g : Grammar) (front back : List ℕ) (style : PrintStyle) where
  gives_longer : (o : Outcome) (looked : ℕ) → looked < length front → StartGives g front o looked
      → StartGives g (front ++ back) o looked
  gives_longer o looked lt d = grows_of_start (rules_of g.rules) g.start front back looked o lt d

  within_longer : (looked : ℕ) → looked < length front → looked < length (front ++ back)
  within_longer looked lt = omega (arith, length-append front back)

  text_is : (k looked : ℕ) (events : List Event) → StartGives g front (Takes k events) looked
      → text_of style (front ++ back) events ≡ text_of style front events
  text_is k looked events d = let r = rises_of_start (rules_of g.rules) g.start front k looked events d in
      text_same style front back k events r.0 r.1

  attempt_longer : (old new : Option (List ℕ)) (r : Result Attempt WriteFault) → IsAttempt g front true style old new r
      → r ≢ Ok TooLong →
      (more : Bool) → IsAttempt g (front ++ back) more style old new r
  attempt_longer old new (Ok (Printed k)) (events, looked, d, enough, wrote) other more = (
    events,
    looked,
    gives_longer (Takes k events) looked (enough refl) d,
    λ is. within_longer looked (enough refl),
    subst (λ (t : List ℕ). Appends old new t) (sym (text_is k looked events d)) wrote,
  )
  attempt_longer old new (Ok Failed) (looked, d, enough, kept) other more =
      (looked, gives_longer Fails looked (enough refl) d, λ is. within_longer looked (enough refl), kept)
  attempt_longer old new (Ok TooLong) a other more = absurd (other refl)
  attempt_longer old new (Ok (Costly budget)) a other more = absurd a
  attempt_longer old new (Ok NoMemory) kept other more = kept
  attempt_longer old new (Err fault) (k, events, looked, d, enough, wrote) other more = (
    k,
    events,
    looked,
    gives_longer (Takes k events) looked (enough refl) d,
    λ is. within_longer looked (enough refl),
    subst (λ (t : List ℕ). AppendsPart old new t) (sym (text_is k looked events d)) wrote,
  )

-- of all bytes that begin with a piece
pub attempt_after : (g : Grammar) (front items : List ℕ) (style : PrintStyle) (old new : Option (List ℕ))
    (r : Result Attempt WriteFault) → IsPrefixOf front items →
    IsAttempt g front true style old new r → r ≢ Ok TooLong → (more : Bool) → IsAttempt g items more style old new r
attempt_after g front items style old new r (back, is) a other more =
    rw is (attempt_longer g front back style old new r a other more)

none_after : (back : List ℕ) → length back ≡ 0 → back ≡ []
none_after [] e = refl
none_after (b ∷ back) e = absurd (cc e)

-- a first piece as long as all is all
pub whole_piece : (front items : List ℕ) → IsPrefixOf front items → length front ≡ length items → front ≡ items
whole_piece front items (back, is) e =
    let l = ap length is in
    let none = none_after back (omega (arith, l, length-append front back, e)) in
    sym (is ∙ ap (λ t. front ++ t) none ∙ append-nil front)
