-- What came of the start rule where it looks at no byte after those that are held is a step of the run.
-- Serves: run_peg (right)
use Rattle.std.proofs.Common.{◌≡◌, ◌≢◌, ℕ, suc, ◌+◌, ◌-◌, ◌<◌, ◌≤◌, Bool, true, false, Option, Some, List}
use Rattle.std.proofs.Common.{[], ◌∷◌, ◌++◌, length, drop, take, refl, sym, ◌∙◌, ap, subst, arith, nat_lt, inl, inr}
use Rattle.std.proofs.Common.{append_assoc, length-append, length-take}
use Rattle.std.specs.Prelude.{Result, Ok, Err}
use Rattle.std.proofs.Math.Nat.{le-min}
use Rattle.std.proofs.Math.Seq.{take-append-add}
use Rattle.std.proofs.lemmas.Grind.{common_steps}
use Rattle.std.proofs.lemmas.List.{append-nil}
use Rattle.std.specs.Io.KnownBytes.{Appends}
use Rattle.ruletable.specs.Writing.{AppendsPart}
use Rattle.ruletable.specs.declared.sink.WriteFault.{WriteFault}
use Rattle.feed.specs.Feed.{Grows, IsHeld, bytes_of, capacity_of, flow_of}
use Rattle.feed.specs.declared.feed.Feed.{Feed}
use Rattle.feed.specs.declared.held.Flow.{Flow}
use Rattle.feed.specs.declared.held.Flow.TheVariants.{Broken as broken_flow}
use Rattle.feed.specs.declared.held.Held.{Held}
use Rattle.feed.specs.declared.held.Held.TheVariants as held
use Rattle.pegread.specs.PegViews.{rules_of}
use Rattle.gramcheck.specs.Grammar.{Grammar, IsSoundGrammar}
use Rattle.gramcheck.specs.Outcome.{Outcome, Fails, Takes, Event}
use Rattle.gramcheck.proofs.StartRuleLemmas.{rises_of_start, same_of_start}
use Rattle.pegmatch.specs.Answers.{StartGives, WasEnough}
use Rattle.pegmatch.specs.Text.{text_of}
use Rattle.toolrun.specs.Agrees.{Agrees}
use Rattle.toolrun.specs.Input.{Input}
use Rattle.toolrun.proofs.AgreesLemmas.{agrees_earlier, bytes_len, rest_held, rest_is, taken_end, taken_full}
use Rattle.pegrun.specs.Attempts.{HasTaken, IsLimited, IsSettledStep, IsStep, StaysWithin, step_after}
use Rattle.pegrun.specs.LineReads.{LooksPast}
use Rattle.pegrun.specs.LineTries.{HasRun, IsReadFor}
use Rattle.pegrun.specs.Units.{IsSettled, IsWithin, is_after_whole, runs_at_lines, taken_at}
use Rattle.pegrun.specs.PegSettings.{PegSettings}
use Rattle.pegrun.specs.declared.attempt.Attempt.{Attempt}
use Rattle.pegrun.specs.declared.attempt.Attempt.TheVariants.{Printed, Failed, TooLong, Costly, NoMemory}
use Rattle.pegrun.specs.declared.line_unit.LineTry.TheVariants.{Ran}
use Rattle.pegrun.specs.declared.options.PegOptions.{PegOptions}
use Rattle.pegrun.specs.declared.unit.UnitStep.{UnitStep}
use Rattle.pegrun.specs.declared.unit.UnitStep.TheVariants.{Takes as Goes, Stops}
use Rattle.pegrun.proofs.NextUnitLemmas.{not-equal, same_step, step_on_fits}
use Rattle.pegrun.proofs.SameFrontLemmas.{same_front_of_start}
use Rattle.pegrun.proofs.StepLemmas.{step_is}
use Rattle.pegrun.proofs.TextOfLemmas.{text_same}

-- any bytes may follow those that are looked at
module _ (g : Grammar) (w y : List ℕ) where
  open_le : (looked : ℕ) → looked < length (w ++ 0 ∷ []) → looked ≤ length w
  open_le looked lt = omega (arith, lt, length-append w (0 ∷ []))

  open_gives : (o : Outcome) (looked : ℕ) → looked < length (w ++ 0 ∷ []) → StartGives g (w ++ 0 ∷ []) o looked
      → StartGives g (w ++ y) o looked
  open_gives o looked lt d =
      same_front_of_start (rules_of g.rules) g.start w 0 [] y looked o (open_le looked lt) d

  open_enough : (looked : ℕ) (b : Bool) → looked < length (w ++ 0 ∷ []) → (b ≡ true → length w < length (w ++ y))
      → WasEnough (w ++ y) b looked
  open_enough looked b lt more is = let le = open_le looked lt in let l = more is in omega (arith, le, l)

module _ (g : Grammar) (w y : List ℕ) (options : PegOptions) where
  open_text : (k looked : ℕ) (events : List Event) → looked < length (w ++ 0 ∷ [])
      → StartGives g (w ++ 0 ∷ []) (Takes k events) looked →
      text_of options.style (w ++ 0 ∷ []) events ≡ text_of options.style (w ++ y) events
  open_text k looked events lt d =
      let there = open_gives g w [] (Takes k events) looked lt d in
      let r = rises_of_start (rules_of g.rules) g.start (w ++ []) k looked events there in
      let high : k ≤ length w = omega (arith, r.1, length-append w []) in
      text_same options.style w (0 ∷ []) k events r.0 high ∙ sym (text_same options.style w y k events r.0 high)

  pub limited_open : (old new : Option (List ℕ)) (r : Result Attempt WriteFault)
      → IsLimited g (w ++ 0 ∷ []) true options old new r → r ≢ Ok TooLong → (b : Bool)
      → (b ≡ true → length w < length (w ++ y)) → IsLimited g (w ++ y) b options old new r
  limited_open old new (Ok (Printed k)) (events, looked, d, enough, within, wrote) other b more =
      let lt = enough refl in
      let same = open_text k looked events lt d in (
        events,
        looked,
        open_gives g w y (Takes k events) looked lt d,
        open_enough g w y looked b lt more,
        subst (λ (t : List ℕ). IsWithin options.budget t) same within,
        subst (λ (t : List ℕ). Appends old new t) same wrote,
      )
  limited_open old new (Ok Failed) (looked, d, enough, kept) other b more =
      let lt = enough refl in (looked, open_gives g w y Fails looked lt d, open_enough g w y looked b lt more, kept)
  limited_open old new (Ok TooLong) a other b more = absurd (other refl)
  limited_open old new (Ok (Costly budget)) (k, events, looked, d, enough, is, over, kept) other b more =
      let lt = enough refl in
      let same = open_text k looked events lt d in (
        k,
        events,
        looked,
        open_gives g w y (Takes k events) looked lt d,
        open_enough g w y looked b lt more,
        is,
        subst (λ (t : List ℕ). budget < length t) same over,
        kept,
      )
  limited_open old new (Ok NoMemory) kept other b more = kept
  limited_open old new (Err fault) (k, events, looked, d, enough, within, wrote) other b more =
      let lt = enough refl in
      let same = open_text k looked events lt d in (
        k,
        events,
        looked,
        open_gives g w y (Takes k events) looked lt d,
        open_enough g w y looked b lt more,
        subst (λ (t : List ℕ). IsWithin options.budget t) same within,
        subst (λ (t : List ℕ). AppendsPart old new t) same wrote,
      )

-- as many bytes are taken as a unit may look at, so it is all the same how the run goes on
pub has_taken : (settings : PegSettings) (input : Input) (s n : ℕ) (r : Result UnitStep WriteFault)
    → n ≡ taken_at settings input s → HasTaken settings input s n r
has_taken settings input s n (Ok (Stops why)) e = e
has_taken settings input s n (Ok (Goes k)) e = (omega (arith, e), λ waits. e)
has_taken settings input s n (Err fault) e = (omega (arith, e), λ waits. e)

pub step_has_taken : {Step : Type 0} (settings : PegSettings) (input : Input) (s n : ℕ) (r : Result UnitStep WriteFault)
    → Step × (n ≡ taken_at settings input s) → Step × HasTaken settings input s n r
step_has_taken settings input s n r (step, e) = (step, has_taken settings input s n r e)

not_whole : (settings : PegSettings) (s : ℕ) → runs_at_lines settings ≡ true → is_after_whole settings s ≡ false
not_whole settings s lines = by_whole settings.options.whole refl lines
  where
    by_whole : (w : Bool) → settings.options.whole ≡ w → runs_at_lines settings ≡ true
        → is_after_whole settings s ≡ false
    by_whole true e lines = grind (arith, common_steps, e, lines)
    by_whole false e lines = rw e refl

module _ (g : Grammar) (settings : PegSettings) (start : ℕ) (before items : List ℕ) (flow : Flow) (input : Input)
    (here : length before ≡ start) (agrees : Agrees (before ++ items) flow input) where
  abbrev rest : List ℕ
  rest = drop start input.bytes

  abbrev Settled : Type 0
  Settled = IsSettled (rules_of g.rules) g.start settings input start

  len_is : length input.bytes ≡ start + (length items + length agrees.more)
  len_is = bytes_len before items here agrees

  rest_len : length rest ≡ length items + length agrees.more
  rest_len = ap length (rest_is before items here agrees) ∙ length-append items agrees.more

  -- no more is taken than a unit may look at
  pub taken_within : length items ≤ settings.limit + 1 → length (before ++ items) ≤ taken_at settings input start
  taken_within short =
      let l = length-append before items in
      let m = len_is in
      le-min (omega (arith, l, m, here)) (omega (arith, l, here, short))

  -- where a unit looks past what is held, and no more comes, it is not settled
  pub looks_past : agrees.more ≡ [] → LooksPast g items → Settled → ⊥
  looks_past none (o, d) is =
      let held = rest_held before items here agrees none in
      let there : StartGives g (items ++ 0 ∷ []) is.o is.looked =
      subst (λ (t : List ℕ). StartGives g (t ++ 0 ∷ []) is.o is.looked) held (is.gives (0 ∷ [])) in
      let same = same_of_start (rules_of g.rules) g.start (items ++ 0 ∷ []) is.looked (suc (length items)) is.o o there
      d in
      let l = ap length held in
      let within = is.within in
      omega (arith, same.looked, within, l)

  pub none_there : agrees.more ≡ [] → length items ≡ 0 → Settled → ⊥
  none_there none empty is =
      let some = is.some in
      let l = len_is in
      let m = ap length none in
      omega (arith, some, l, m, empty)

  module _ (sound : IsSoundGrammar g) (lines : runs_at_lines settings ≡ true) (some : 0 < length items)
      (short : length items ≤ settings.limit) where
    settled_by : (o : Outcome) (looked : ℕ) → looked < length (items ++ 0 ∷ [])
        → StartGives g (items ++ 0 ∷ []) o looked → Settled
    settled_by o looked lt d = record {
      some = let l = len_is in omega (arith, l, some);
      o = o;
      looked = looked;
      gives = λ more. rw (rest_is before items here agrees, append_assoc items agrees.more more)
          (open_gives g items (agrees.more ++ more) o looked lt d);
      within = let l = rest_len in let le = open_le g items [] looked lt in omega (arith, l, le);
    }

    abbrev back : List ℕ
    back = take (suc settings.limit - length items) agrees.more

    window_is : take (suc settings.limit) rest ≡ items ++ back
    window_is =
        let e : length items + (suc settings.limit - length items) ≡ suc settings.limit = omega (arith, short) in
        subst (λ (n : ℕ). take n rest ≡ items ++ back) e
        (ap (take (length items + (suc settings.limit - length items))) (rest_is before items here agrees)
        ∙ take-append-add items agrees.more (suc settings.limit - length items))

    more_follow : nat_lt settings.limit (length rest) ≡ true → length items < length (items ++ back)
    more_follow more =
        let over : settings.limit < length rest = grind (arith, common_steps, more) in
        let l = rest_len in
        let m = length-take (suc settings.limit - length items) agrees.more in
        omega (arith, over, l, m, short, length-append items back)

    step_by : (old new : Option (List ℕ)) (r : Result Attempt WriteFault)
        → IsLimited g (items ++ 0 ∷ []) true settings.options old new r → r ≢ Ok TooLong → Settled
        → IsStep (rules_of g.rules) g.start settings input start old new
        (step_after settings start (start + length items) r)
    step_by old new r a other settled =
        let there : IsLimited g (take (suc settings.limit) rest) (nat_lt settings.limit (length rest)) settings.options
        old new r =
        subst (λ (t : List ℕ). IsLimited g t (nat_lt settings.limit (length rest)) settings.options old new r)
        (sym window_is)
        (limited_open g items back settings.options old new r a other (nat_lt settings.limit (length rest))
        more_follow) in
        let l = len_is in
        let same = same_step settings start (start + length items) (length input.bytes) r
        (not-equal start (start + length items) (omega (arith, some))
        ∙ sym (not-equal start (length input.bytes) (omega (arith, l, some)))) in
        subst (λ v. IsStep (rules_of g.rules) g.start settings input start old new v) (sym same)
        (step_is g settings input start (omega (arith, l)) sound (not_whole settings start lines)
        (λ fault. inr (lines, settled)) old new r there)

    pub settled_step : (old new : Option (List ℕ)) (r : Result Attempt WriteFault)
        → IsLimited g (items ++ 0 ∷ []) true settings.options old new r → r ≢ Ok TooLong
        → IsStep (rules_of g.rules) g.start settings input start old new
        (step_after settings start (start + length items) r)
    settled_step old new (Ok (Printed k)) (events, looked, d, enough, within, wrote) other =
        step_by old new (Ok (Printed k)) (events, looked, d, enough, within, wrote) other
        (settled_by (Takes k events) looked (enough refl) d)
    settled_step old new (Ok Failed) (looked, d, enough, kept) other =
        step_by old new (Ok Failed) (looked, d, enough, kept) other (settled_by Fails looked (enough refl) d)
    settled_step old new (Ok TooLong) a other = absurd (other refl)
    settled_step old new (Ok (Costly budget)) (k, events, looked, d, enough, is, over, kept) other =
        step_by old new (Ok (Costly budget)) (k, events, looked, d, enough, is, over, kept) other
        (settled_by (Takes k events) looked (enough refl) d)
    settled_step old new (Ok NoMemory) kept other = inl (refl, kept)
    settled_step old new (Err fault) (k, events, looked, d, enough, within, wrote) other =
        step_by old new (Err fault) (k, events, looked, d, enough, within, wrote) other
        (settled_by (Takes k events) looked (enough refl) d)

    -- after a failed read no more bytes are taken
    pub fault_step : flow ≡ broken_flow → (old new : Option (List ℕ)) (r : Result UnitStep WriteFault)
        → IsSettledStep g items settings start old new (Some r)
        → IsStep (rules_of g.rules) g.start settings input start old new r
        × HasTaken settings input start (length (before ++ items)) r
    fault_step broken old new r (attempted, a, other, e) = (
      subst (λ v. IsStep (rules_of g.rules) g.start settings input start old new v) (sym e)
          (settled_step old new attempted a other),
      has_taken settings input start (length (before ++ items)) r
          (taken_end before items here agrees settings.limit (agrees.broken broken).0 (omega (arith, short))),
    )

-- where no more is read, as many bytes are taken as a unit may look at
pub taken_held : {R : Type 0} (f : Feed R) (held : Held) (settings : PegSettings) (start : ℕ) (before : List ℕ)
    (input : Input) → length before ≡ start → Agrees (before ++ bytes_of f) (flow_of f) input
    → capacity_of f ≡ settings.limit + 1 → IsHeld f held
    → length (before ++ bytes_of f) ≡ taken_at settings input start
taken_held f held.Full settings start before input here agrees room is =
    taken_full before (bytes_of f) here agrees settings.limit (omega (arith, is, room))
taken_held f held.End settings start before input here agrees room is =
    let short = is.1 in
    taken_end before (bytes_of f) here agrees settings.limit (agrees.ended is.0).0 (omega (arith, short, room))
taken_held f held.Fault settings start before input here agrees room is =
    let short = is.1 in
    taken_end before (bytes_of f) here agrees settings.limit (agrees.broken is.0).0 (omega (arith, short, room))

-- a unit that was run lies in what is held
pub settled_fits : (g : Grammar) (items : List ℕ) (settings : PegSettings) (s : ℕ) (old new : Option (List ℕ))
    (r : Result UnitStep WriteFault) → IsSettledStep g items settings s old new (Some r)
    → StaysWithin (s + length items) s r
settled_fits g items settings s old new r (attempted, a, other, e) =
    step_on_fits g items items false settings s old new r refl (
      attempted,
      subst (λ (t : List ℕ). IsLimited g t false settings.options old new attempted) (append-nil items)
          (limited_open g items [] settings.options old new attempted a other false (λ more. absurd (cc more))),
      e,
    )

-- a unit was run on what was held then, and where the run stops more was read
module _ {R : Type 0} (remaining : R → Option (List ℕ)) (g : Grammar) (sound : IsSoundGrammar g)
    (settings : PegSettings) (start : ℕ) (lines : runs_at_lines settings ≡ true) (f1 f2 : Feed R)
    (grows : Grows remaining f1 f2) (room : capacity_of f1 ≡ settings.limit + 1) (some : 0 < length (bytes_of f1))
    (short : length (bytes_of f1) ≤ settings.limit) (old new : Option (List ℕ)) where
  step_then : (r : Result UnitStep WriteFault) → IsSettledStep g (bytes_of f1) settings start old new (Some r)
      → (before : List ℕ) (input : Input) → length before ≡ start
      → Agrees (before ++ bytes_of f2) (flow_of f2) input
      → IsStep (rules_of g.rules) g.start settings input start old new r
  step_then r (attempted, a, other, e) before input here agrees =
      subst (λ v. IsStep (rules_of g.rules) g.start settings input start old new v) (sym e)
      (settled_step g settings start before (bytes_of f1) (flow_of f1) input here
      (agrees_earlier remaining f1 f2 grows before input agrees) sound lines some short old new attempted a other)

  early_taken : f2 ≡ f1 → (before : List ℕ) (input : Input) → length before ≡ start
      → Agrees (before ++ bytes_of f2) (flow_of f2) input
      → length (before ++ bytes_of f2) ≤ taken_at settings input start
  early_taken same before input here agrees =
      let l = ap (λ f. length (bytes_of f)) same in
      taken_within g settings start before (bytes_of f2) (flow_of f2) input here agrees (omega (arith, l, short))

  pub has_run : (r : Result UnitStep WriteFault) → IsReadFor r f1 f2
      → IsSettledStep g (bytes_of f1) settings start old new (Some r) → HasRun g settings start f2 old new (Ran r)
  has_run (Ok (Stops why)) (held, is) settled before input here agrees = (
    step_then (Ok (Stops why)) settled before input here agrees,
    taken_held f2 held settings start before input here agrees (grows.capacity ∙ room) is,
  )
  has_run (Ok (Goes k)) same settled before input here agrees = (
    step_then (Ok (Goes k)) settled before input here agrees,
    (early_taken same before input here agrees, λ waits. absurd (cc (lines, waits))),
  )
  has_run (Err fault) same settled before input here agrees = (
    step_then (Err fault) settled before input here agrees,
    (early_taken same before input here agrees, λ waits. absurd (cc (lines, waits))),
  )

  pub run_fits : (r : Result UnitStep WriteFault) → IsReadFor r f1 f2
      → IsSettledStep g (bytes_of f1) settings start old new (Some r)
      → StaysWithin (start + length (bytes_of f2)) start r
  run_fits (Ok (Stops why)) read settled = tt
  run_fits (Ok (Goes k)) same settled =
      let l = ap (λ f. length (bytes_of f)) same in
      let fits = settled_fits g (bytes_of f1) settings start old new (Ok (Goes k)) settled in
      (fits.0, omega (arith, fits.1, l))
  run_fits (Err fault) same settled = tt
