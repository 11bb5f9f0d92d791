-- What came of the start rule at the front of a window is a step of the run.
-- Serves: run_peg (right)
use Rattle.std.proofs.Common.{◌≡◌, ℕ, zero, suc, ◌<◌, ◌≤◌, Bool, true, false, Option, List, [], length, drop, take}
use Rattle.std.proofs.Common.{refl, arith, subst, nat_lt, inl, inr, length-drop, if◌then◌else◌, ◌==◌}
use Rattle.std.specs.Prelude.{Result, Ok, Err}
use Rattle.std.proofs.lemmas.Grind.{common_steps}
use Rattle.std.specs.Io.KnownBytes.{Appends}
use Rattle.ruletable.specs.declared.sink.WriteFault.{WriteFault}
use Rattle.ruletable.proofs.AppendsLemmas.{Appends-none, Appends-same}
use Rattle.pegread.specs.PegViews.{rules_of}
use Rattle.gramcheck.specs.Grammar.{Grammar, IsSoundGrammar}
use Rattle.gramcheck.specs.Outcome.{Outcome, Fails, Takes, Event}
use Rattle.pegmatch.specs.Answers.{StartGives, WasEnough}
use Rattle.pegmatch.specs.Text.{text_of}
use Rattle.pegrun.specs.Attempts.{IsLimited, IsStep, step_after}
use Rattle.toolrun.specs.Input.{Input}
use Rattle.pegrun.specs.Units.{MayRun, GivesAt, IsUnit, Ends, broken, overlong, no_match, finished, empty_before_end}
use Rattle.pegrun.specs.Units.{IsSettled, IsWithin, costly, empty_at_end, is_after_whole, no_unit, runs_at_lines}
use Rattle.pegrun.specs.PegSettings.{PegSettings}
use Rattle.toolrun.specs.declared.status.Status.TheVariants.{Done}
use Rattle.toolrun.specs.declared.stop.Stop.TheVariants.{Quiet, NoMatch, Broken}
use Rattle.pegrun.specs.declared.attempt.Attempt.{Attempt}
use Rattle.pegrun.specs.declared.attempt.Attempt.TheVariants.{Printed, Failed, TooLong, Costly, NoMemory}
use Rattle.pegrun.proofs.WindowLemmas.{window_seen, seen_text, seen_long}

module _ (g : Grammar) (settings : PegSettings) (input : Input) (s : ℕ) (inside : s ≤ length input.bytes) where
  abbrev rest : List ℕ
  rest = drop s input.bytes

  abbrev window : List ℕ
  window = take (suc settings.limit) rest

  abbrev more : Bool
  more = nat_lt settings.limit (length rest)

  -- the reader failed, and too few bytes are left
  pub step_broken : (old : Option (List ℕ)) → input.fault ≡ true → length rest ≤ settings.limit →
      (runs_at_lines settings ≡ true → IsSettled (rules_of g.rules) g.start settings input s → ⊥) →
      (last : List ℕ) × Ends (rules_of g.rules) g.start settings input s last Broken × Appends old old last
  step_broken old fault short never =
      let l = length-drop s input.bytes in
      ([], broken fault (omega arith) never, Appends-same old)

  -- as many bytes are left as a unit may look at
  pub may_run_on : (input.fault ≡ true → settings.limit < length rest)
      → MayRun (rules_of g.rules) g.start settings input s
  may_run_on may f = let l = length-drop s input.bytes in let lt = may f in inl (omega arith)

  module _ (sound : IsSoundGrammar g) (goes : is_after_whole settings s ≡ false)
      (may_run : MayRun (rules_of g.rules) g.start settings input s) where
    gives_at : (o : Outcome) (looked : ℕ) → StartGives g window o looked → WasEnough window more looked
        → GivesAt (rules_of g.rules) g.start settings input s o
    gives_at o looked d enough =
        let seen_here = window_seen g rest settings.limit o looked d enough in
        record {
          goes = goes;
          may_run = may_run;
          looked = seen_here.looked;
          gives = seen_here.gives;
          within = seen_here.within;
        }

    is_unit : (k : ℕ) (events : List Event) (looked : ℕ) → StartGives g window (Takes k events) looked
        → WasEnough window more looked → IsWithin settings.options.budget (text_of settings.options.style window events)
        → IsUnit (rules_of g.rules) g.start settings input s k (text_of settings.options.style window events)
    is_unit k events looked d enough within = record {
      events = events;
      gives = gives_at (Takes k events) looked d enough;
      prints = seen_text g rest settings.limit settings.options.style k events looked d;
      within = within;
    }

    fails_here : (w b : Bool) → settings.options.whole ≡ w → (s == length input.bytes) ≡ b
        → GivesAt (rules_of g.rules) g.start settings input s Fails
        → Ends (rules_of g.rules) g.start settings input s []
        (if w then NoMatch s else (if b then Quiet Done else NoMatch s))
    fails_here true true w e d = no_unit w d (grind (arith, common_steps, e))
    fails_here true false w e d = let h : s < length input.bytes = grind (arith, common_steps, e) in no_match d h
    fails_here false true w e d = finished w d (grind (arith, common_steps, e))
    fails_here false false w e d = let h : s < length input.bytes = grind (arith, common_steps, e) in no_match d h

    empty_here : (b : Bool) (text : List ℕ) → (s == length input.bytes) ≡ b → IsUnit (rules_of g.rules) g.start settings
        input s 0 text →
        Ends (rules_of g.rules) g.start settings input s text (if b then Quiet Done else NoMatch s)
    empty_here true text e d = empty_at_end text d (grind (arith, common_steps, e))
    empty_here false text e d = let h : s < length input.bytes = grind (arith, common_steps, e) in
        empty_before_end text d h

    pub step_is : (old new : Option (List ℕ)) (r : Result Attempt WriteFault)
        → IsLimited g window more settings.options old new r →
        IsStep (rules_of g.rules) g.start settings input s old new (step_after settings s (length input.bytes) r)
    step_is old new (Ok (Printed zero)) (events, looked, d, enough, within, wrote) =
        inr (_, empty_here (s == length input.bytes) _ refl (is_unit zero events looked d enough within), wrote)
    step_is old new (Ok (Printed (suc n))) (events, looked, d, enough, within, wrote) =
        (_, is_unit (suc n) events looked d enough within, wrote, omega arith)
    step_is old new (Ok Failed) (looked, d, enough, kept) =
        inr (
          [],
          fails_here settings.options.whole (s == length input.bytes) refl refl (gives_at Fails looked d enough),
          Appends-none old new kept,
        )
    step_is old new (Ok TooLong) (is, d, kept) =
        let full : settings.limit < length rest = grind (arith, common_steps, is) in
        let long = seen_long g rest settings.limit sound d.0 full d.1 in
        inr ([], overlong long.0 long.1 goes may_run long.2 long.3, Appends-none old new kept)
    step_is old new (Ok (Costly budget)) (k, events, looked, d, enough, is, over, kept) =
        inr (
          [],
          costly k budget events (gives_at (Takes k events) looked d enough) is
              (subst (λ (t : List ℕ). budget < length t)
              (seen_text g rest settings.limit settings.options.style k events looked d) over),
          Appends-none old new kept,
        )
    step_is old new (Ok NoMemory) kept = inl (refl, kept)
    step_is old new (Err fault) (k, events, looked, d, enough, within, wrote) =
        (k, _, is_unit k events looked d enough within, wrote)
