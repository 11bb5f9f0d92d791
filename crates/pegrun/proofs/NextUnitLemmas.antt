-- What a window over a reader says of every input of which so much has been seen.
-- Serves: run_peg (right)
use Rattle.std.proofs.Common.{◌≡◌, ℕ, zero, suc, ◌+◌, ◌<◌, ◌≤◌, ◌==◌, Bool, true, false, Option, List, [], ◌++◌, length}
use Rattle.std.proofs.Common.{drop, take, refl, sym, ◌∙◌, ap, subst, arith, nat_lt, inl, inr, length-append}
use Rattle.std.proofs.Common.{if◌then◌else◌}
use Rattle.std.specs.Prelude.{Result, Ok, Err}
use Rattle.std.proofs.lemmas.Grind.{common_steps}
use Rattle.std.proofs.lemmas.List.{take_all}
use Rattle.ruletable.specs.declared.sink.WriteFault.{WriteFault}
use Rattle.ruletable.proofs.AppendsLemmas.{Appends-same}
use Rattle.feed.specs.Feed.{IsHeld, bytes_of, capacity_of, flow_of}
use Rattle.feed.specs.declared.feed.Feed.{Feed}
use Rattle.feed.specs.declared.held.Flow.{Flow}
use Rattle.feed.specs.declared.held.Flow.TheVariants.{Ended, Broken}
use Rattle.feed.specs.declared.held.Held.{Held}
use Rattle.feed.specs.declared.held.Held.TheVariants as held
use Rattle.pegread.specs.PegViews.{rules_of}
use Rattle.gramcheck.specs.Grammar.{Grammar, IsSoundGrammar}
use Rattle.gramcheck.proofs.StartRuleLemmas.{rises_of_start}
use Rattle.toolrun.specs.Agrees.{Agrees}
use Rattle.pegrun.specs.Attempts.{IsLimited, IsStep, IsStepOn, StaysWithin, failed_at, step_after, step_held, stop_at}
use Rattle.toolrun.specs.Input.{Input}
use Rattle.pegrun.specs.Units.{Ends, IsSettled, MayRun, is_after_whole, over_at_end, over_before_end, runs_at_lines}
use Rattle.pegrun.specs.Units.{taken_at}
use Rattle.pegrun.specs.PegSettings.{PegSettings}
use Rattle.toolrun.specs.declared.status.Status.TheVariants.{Done}
use Rattle.toolrun.specs.declared.stop.Stop.{Stop}
use Rattle.toolrun.specs.declared.stop.Stop.TheVariants as stop
use Rattle.pegrun.specs.declared.attempt.Attempt.{Attempt}
use Rattle.pegrun.specs.declared.attempt.Attempt.TheVariants.{Printed, Failed, TooLong, Costly, NoMemory}
use Rattle.pegrun.specs.declared.unit.UnitStep.{UnitStep}
use Rattle.pegrun.specs.declared.unit.UnitStep.TheVariants.{Stops}
use Rattle.toolrun.proofs.AgreesLemmas.{bytes_len, rest_held, rest_is, taken_end, taken_full, window_is}
use Rattle.pegrun.proofs.StepLemmas.{may_run_on, step_broken, step_is}
use Rattle.pegrun.specs.declared.options.PegOptions.{PegOptions}

-- where the first unit was the only one, none was run at a line feed
over_waits : (settings : PegSettings) (s : ℕ) → is_after_whole settings s ≡ true → runs_at_lines settings ≡ true → ⊥
over_waits settings s over lines = by_whole settings.options.whole refl over lines
  where
    by_whole : (w : Bool) → settings.options.whole ≡ w → is_after_whole settings s ≡ true
        → runs_at_lines settings ≡ true → ⊥
    by_whole true e over lines = grind (arith, common_steps, e, lines)
    by_whole false e over lines = grind (arith, common_steps, e, over)

-- whether a position is the end depends on the lengths
same_stop : (s m n : ℕ) → (s == m) ≡ (s == n) → stop_at s m ≡ stop_at s n
same_stop s m n e = ap (λ b. if b then stop.Quiet Done else stop.NoMatch s) e

same_failed : (settings : PegSettings) (s m n : ℕ) → (s == m) ≡ (s == n) → failed_at settings s m
    ≡ failed_at settings s n
same_failed settings s m n e =
    ap (λ (it : Stop). if settings.options.whole then stop.NoMatch s else it) (same_stop s m n e)

pub same_step : (settings : PegSettings) (s m n : ℕ) (r : Result Attempt WriteFault) → (s == m) ≡ (s == n)
    → step_after settings s m r ≡ step_after settings s n r
same_step settings s m n (Ok (Printed zero)) e = rw (same_stop s m n e) refl
same_step settings s m n (Ok (Printed (suc k))) e = refl
same_step settings s m n (Ok Failed) e = rw (same_failed settings s m n e) refl
same_step settings s m n (Ok TooLong) e = refl
same_step settings s m n (Ok (Costly budget)) e = refl
same_step settings s m n (Ok NoMemory) e = refl
same_step settings s m n (Err fault) e = refl

pub not-equal : (s m : ℕ) → s < m → (s == m) ≡ false
not-equal s m h = grind (arith, common_steps)

-- a unit lies in what is held
fits_of : (g : Grammar) (items : List ℕ) (more : Bool) (options : PegOptions) (settings : PegSettings) (s : ℕ)
    (old new : Option (List ℕ)) (r : Result Attempt WriteFault) → IsLimited g items more options old new r →
    StaysWithin (s + length items) s (step_after settings s (s + length items) r)
fits_of g items more options settings s old new (Ok (Printed zero)) a = tt
fits_of g items more options settings s old new (Ok (Printed (suc n))) (events, looked, d, enough, within, wrote) =
    let r = rises_of_start (rules_of g.rules) g.start items (suc n) looked events d in (omega arith, omega (arith, r.1))
fits_of g items more options settings s old new (Ok Failed) a = tt
fits_of g items more options settings s old new (Ok TooLong) a = tt
fits_of g items more options settings s old new (Ok (Costly budget)) a = tt
fits_of g items more options settings s old new (Ok NoMemory) a = tt
fits_of g items more options settings s old new (Err fault) a = tt

pub step_on_fits : (g : Grammar) (held items : List ℕ) (more : Bool) (settings : PegSettings) (s : ℕ)
    (old new : Option (List ℕ)) (r : Result UnitStep WriteFault) → items ≡ held →
    IsStepOn g held more settings s old new r → StaysWithin (s + length items) s r
step_on_fits g held items more settings s old new r is (attempted, a, e) =
    rw is (subst (λ v. StaysWithin (s + length held) s v) (sym e)
    (fits_of g held more settings.options settings s old new attempted a))

module _ (settings : PegSettings) (start : ℕ) (before items : List ℕ) (flow : Flow) (input : Input)
    (here : length before ≡ start)
    (agrees : Agrees (before ++ items) flow input) where
  abbrev rest : List ℕ
  rest = drop start input.bytes

  start_inside : start ≤ length input.bytes
  start_inside = let l = bytes_len before items here agrees in omega (arith, l)

  -- a full window
  module _ (full : length items ≡ suc settings.limit) where
    rest_long : settings.limit < length rest
    rest_long =
        let l = ap length (rest_is before items here agrees) in
        omega (arith, l, full, length-append items agrees.more)

    full_step : (g : Grammar) → IsSoundGrammar g → is_after_whole settings start ≡ false → (old new : Option (List ℕ))
        (r : Result UnitStep WriteFault) → IsStepOn g items true settings start old new r →
        IsStep (rules_of g.rules) g.start settings input start old new r
        × (length (before ++ items) ≡ taken_at settings input start)
    full_step g sound goes old new r (attempted, a, e) =
        let more : true ≡ nat_lt settings.limit (length rest) = let l = rest_long in grind (arith, common_steps, l) in
        let there : IsLimited g (take (suc settings.limit) rest)
        (nat_lt settings.limit (length rest)) settings.options old new attempted =
        subst (λ (b : Bool). IsLimited g (take (suc settings.limit) rest) b settings.options old new attempted)
        more
        (subst (λ (w : List ℕ). IsLimited g w true settings.options old new attempted)
        (sym (window_is before items here agrees (suc settings.limit) full)) a) in
        let same = same_step settings start (start + length items) (length input.bytes) attempted
        (not-equal start (start + length items) (omega (arith, full))
        ∙ sym (not-equal start (length input.bytes)
        (let l = bytes_len before items here agrees in omega (arith, l, full)))) in (
          subst (λ v. IsStep (rules_of g.rules) g.start settings input start old new v) (sym (e ∙ same))
              (step_is g settings input start start_inside sound goes
              (may_run_on g settings input start start_inside (λ _. rest_long)) old new attempted there),
          taken_full before items here agrees settings.limit (omega (arith, full)),
        )

  -- all that was left
  module _ (none : agrees.more ≡ []) (short : length items ≤ settings.limit) where
    end_len : length input.bytes ≡ start + length items
    end_len = let l = ap length none in let k = bytes_len before items here agrees in omega (arith, l, k)

    short_rest : length rest ≤ settings.limit
    short_rest = rw (rest_held before items here agrees none) short

    pub taken_to_end : length (before ++ items) ≡ taken_at settings input start
    taken_to_end = taken_end before items here agrees settings.limit none (omega (arith, short))

  end_step : flow ≡ Ended → length items ≤ settings.limit → (g : Grammar) → IsSoundGrammar g
      → is_after_whole settings start ≡ false → (old new : Option (List ℕ)) (r : Result UnitStep WriteFault) →
      IsStepOn g items false settings start old new r →
      IsStep (rules_of g.rules) g.start settings input start old new r
      × (length (before ++ items) ≡ taken_at settings input start)
  end_step ended short g sound goes old new r (attempted, a, e) =
      let last = agrees.ended ended in
      let l = short_rest last.0 short in
      let more : false ≡ nat_lt settings.limit (length rest) = grind (arith, common_steps, l) in
      let window : items ≡ take (suc settings.limit) rest = sym (rest_held before items here agrees last.0)
      ∙ sym (take_all (suc settings.limit) rest (omega (arith, l))) in
      let there : IsLimited g (take (suc settings.limit) rest)
      (nat_lt settings.limit (length rest)) settings.options old new attempted =
      subst (λ (b : Bool). IsLimited g (take (suc settings.limit) rest) b settings.options old new attempted) more
      (subst (λ (w : List ℕ). IsLimited g w false settings.options old new attempted) window a) in
      let same = same_step settings start (start + length items) (length input.bytes) attempted
      (ap (λ n. start == n) (sym (end_len last.0 short))) in (
        subst (λ v. IsStep (rules_of g.rules) g.start settings input start old new v) (sym (e ∙ same))
            (step_is g settings input start start_inside sound goes (λ f. absurd (let o = last.1 in cc)) old new
            attempted there),
        taken_to_end last.0 short,
      )

  pub broken_step : flow ≡ Broken → length items ≤ settings.limit → (g : Grammar) →
      (runs_at_lines settings ≡ true → IsSettled (rules_of g.rules) g.start settings input start → ⊥)
      → (old : Option (List ℕ)) → (r : Result UnitStep WriteFault) → r ≡ Ok (Stops stop.Broken) →
      IsStep (rules_of g.rules) g.start settings input start old old r
      × (length (before ++ items) ≡ taken_at settings input start)
  broken_step broken short g never old r is =
      let last = agrees.broken broken in (
        rw is (inr (step_broken g settings input start start_inside old last.1 (short_rest last.0 short) never)),
        taken_to_end last.0 short,
      )

  -- where no unit is tried, a run ends by what is held
  module _ (over : is_after_whole settings start ≡ true) (g : Grammar) (old : Option (List ℕ)) where
    over_there : (b : Bool) → (start == length input.bytes) ≡ b → MayRun (rules_of g.rules) g.start settings input start
        → Ends (rules_of g.rules) g.start settings input start [] (if b then stop.Quiet Done else stop.NoMatch start)
    over_there true e may = over_at_end over may (grind (arith, common_steps, e))
    over_there false e may =
        let inside = start_inside in
        let h : start < length input.bytes = grind (arith, common_steps, e, inside) in
        over_before_end over may h

    stops_over : (n : ℕ) → (start == n) ≡ (start == length input.bytes)
        → MayRun (rules_of g.rules) g.start settings input start
        → IsStep (rules_of g.rules) g.start settings input start old old (Ok (Stops (stop_at start n)))
    stops_over n e may =
        inr (
          [],
          subst (λ (it : Stop). Ends (rules_of g.rules) g.start settings input start [] it)
              (same_stop start (length input.bytes) n (sym e)) (over_there (start == length input.bytes) refl may),
          Appends-same old,
        )

    full_over : length items ≡ suc settings.limit
        → IsStep (rules_of g.rules) g.start settings input start old old
        (Ok (Stops (stop_at start (start + length items))))
        × (length (before ++ items) ≡ taken_at settings input start)
    full_over full =
        let l = bytes_len before items here agrees in (
          stops_over (start + length items)
              (not-equal start (start + length items) (omega (arith, full))
              ∙ sym (not-equal start (length input.bytes) (omega (arith, l, full))))
              (λ _. inl (omega (arith, l, full))),
          taken_full before items here agrees settings.limit (omega (arith, full)),
        )

    end_over : flow ≡ Ended → length items ≤ settings.limit
        → IsStep (rules_of g.rules) g.start settings input start old old
        (Ok (Stops (stop_at start (start + length items))))
        × (length (before ++ items) ≡ taken_at settings input start)
    end_over ended short =
        let last = agrees.ended ended in (
          stops_over (start + length items) (ap (λ n. start == n) (sym (end_len last.0 short)))
              (λ f. absurd (let o = last.1 in cc)),
          taken_to_end last.0 short,
        )

    pub over_step : {R : Type 0} (f : Feed R) (held : Held) → IsHeld f held → bytes_of f ≡ items → flow_of f ≡ flow
        → capacity_of f ≡ settings.limit + 1
        → IsStep (rules_of g.rules) g.start settings input start old old
        (Ok (step_held held start (start + length items)))
        × (length (before ++ items) ≡ taken_at settings input start)
    over_step f held.Full is same flows room = full_over (let l = ap length same in omega (arith, l, is, room))
    over_step f held.End is same flows room =
        end_over (sym flows ∙ is.0) (let l = ap length same in let lt = is.1 in omega (arith, l, lt, room))
    over_step f held.Fault is same flows room =
        broken_step (sym flows ∙ is.0) (let l = ap length same in let lt = is.1 in omega (arith, l, lt, room)) g
        (λ lines. absurd (over_waits settings start over lines)) old _ refl

-- no bytes are taken where no unit is tried
pub over_fits : (held : Held) (s n len : ℕ) → StaysWithin len s (Ok (step_held held s n))
over_fits held.Full s n len = tt
over_fits held.End s n len = tt
over_fits held.Fault s n len = tt

-- what is held stays so as it is looked at
module _ (g : Grammar) (sound : IsSoundGrammar g) (settings : PegSettings) (start : ℕ)
    (goes : is_after_whole settings start ≡ false) (before held items : List ℕ) (flow : Flow) (input : Input)
    (here : length before ≡ start) (agrees : Agrees (before ++ items) flow input) (is : items ≡ held)
    (old new : Option (List ℕ)) (r : Result UnitStep WriteFault) where
  pub full_window : length held ≡ suc settings.limit → IsStepOn g held true settings start old new r →
      IsStep (rules_of g.rules) g.start settings input start old new r
      × (length (before ++ items) ≡ taken_at settings input start)
  full_window full on = rw is (full_step settings start before held flow input here (rw is at agrees) full g sound goes
      old new r on)

  pub last_window : flow ≡ Ended → length held ≤ settings.limit → IsStepOn g held false settings start old new r →
      IsStep (rules_of g.rules) g.start settings input start old new r
      × (length (before ++ items) ≡ taken_at settings input start)
  last_window ended short on = rw is (end_step settings start before held flow input here (rw is at agrees) ended short
      g sound goes old new r on)
