-- Each input has a reply, and the text of the first units is a prefix of it.
-- Serves: run_peg (right)
use Rattle.std.proofs.Common.{◌≡◌, ℕ, suc, zero, ◌+◌, ◌<◌, ◌≤◌, Bool, true, false, List, [], ◌∷◌, ◌++◌, length, drop}
use Rattle.std.proofs.Common.{refl, sym, arith, inl, inr, ◌⊎◌, length-drop, Option, Some, None}
use Rattle.std.proofs.Math.Nat.{min-le_left, min-le_right, le-min}
use Rattle.std.proofs.lemmas.Bool.{cases_lt, cases_eq}
use Rattle.ruletable.proofs.AppendsLemmas.{IsPrefixOf-same, IsPrefixOf-trans}
use Rattle.pegread.specs.PegViews.{rules_of}
use Rattle.gramcheck.specs.Grammar.{Grammar, IsSoundGrammar}
use Rattle.pegnodes.specs.Nodes.{shapes_of}
use Rattle.gramcheck.specs.Outcome.{Event, Outcome, Fails, Takes}
use Rattle.gramcheck.proofs.SomeOutcomeLemmas.{has_of_start}
use Rattle.gramcheck.proofs.StartRuleLemmas.{rises_of_start, same_of_start}
use Rattle.pegmatch.specs.Text.{text_of}
use Rattle.toolrun.specs.Input.{Input}
use Rattle.pegrun.specs.PegReply.{PlainReplies}
use Rattle.toolrun.specs.Reply.{Reply}
use Rattle.toolrun.specs.RunSteps.{Begins}
use Rattle.toolrun.specs.Status.{code_of}
use Rattle.toolrun.specs.Stop.{message_of, status_of}
use Rattle.pegrun.specs.Units.{taken_at, MayRun, GivesAt, IsUnit, Units, none, one_more, Ends, broken, overlong}
use Rattle.pegrun.specs.Units.{no_match, finished, no_unit, empty_before_end, empty_at_end, is_after_whole}
use Rattle.pegrun.specs.Units.{IsSettled, IsWithin, costly, over_at_end, over_before_end, runs_at_lines}
use Rattle.pegrun.specs.PegSettings.{PegSettings}
use Rattle.toolrun.specs.declared.status.Status.TheVariants.{Done}
use Rattle.toolrun.specs.declared.stop.Stop.{Stop}
use Rattle.toolrun.specs.declared.stop.Stop.TheVariants.{Quiet, NoMatch, LongUnit, CostlyUnit, Broken}
use Rattle.pegrun.proofs.SameFrontLemmas.{same_front_of_start}

-- a reply that begins with the text and takes no less than a unit at s
abbrev pub Goes : Grammar → PegSettings → Input → ℕ → List ℕ → Type 0
Goes g settings input s text = Begins (Units (rules_of g.rules) g.start settings input)
    (Ends (rules_of g.rules) g.start settings input)
    (taken_at settings input) (taken_at settings input s) text

-- a text is within a budget, or longer
within_or_over : (budget : Option ℕ) (text : List ℕ) → (IsWithin budget text)
    ⊎ ((most : ℕ) × (budget ≡ Some most) × (most < length text))
within_or_over None text = inl tt
within_or_over (Some most) text = elim (cases_lt most (length text))
    [ inl over ↦ inr (most, refl, over) | inr le ↦ inl le ]

module _ (g : Grammar) (settings : PegSettings) (input : Input) where
  abbrev rest : ℕ → List ℕ
  rest s = drop s input.bytes

  abbrev UnitsTo : ℕ → List ℕ → Type 0
  UnitsTo s text = Units (rules_of g.rules) g.start settings input s text

  abbrev UnitAt : ℕ → ℕ → List ℕ → Type 0
  UnitAt s k text = IsUnit (rules_of g.rules) g.start settings input s k text

  abbrev EndsAt : ℕ → List ℕ → Stop → Type 0
  EndsAt s last stop = Ends (rules_of g.rules) g.start settings input s last stop

  -- the reply of a run that stops here
  abbrev pub reply_of : ℕ → List ℕ → Stop → Reply
  reply_of s out stop = record {
    out = out;
    err = message_of stop;
    status = code_of (status_of stop);
    taken = taken_at settings input s;
  }

  pub replies_there : (s : ℕ) (text last : List ℕ) (stop : Stop) → UnitsTo s text → EndsAt s last stop →
      PlainReplies (rules_of g.rules) g.start settings input (reply_of s (text ++ last) stop)
  replies_there s text last stop units ends = record {
    point = s;
    before = text;
    last = last;
    stop = stop;
    steps = units;
    ends = ends;
    out = refl;
    err = refl;
    status = refl;
    taken = refl;
  }

  goes_to_stop : (s : ℕ) (text last : List ℕ) (stop : Stop) → UnitsTo s text → EndsAt s last stop
      → Goes g settings input s (text ++ last)
  goes_to_stop s text last stop units ends = record {
    reply = reply_of s (text ++ last) stop;
    replies = replies_there s text last stop units ends;
    front = IsPrefixOf-same (text ++ last);
    taken = omega arith;
  }

  takes_more : (s t n : ℕ) → s ≤ t → taken_at settings input t ≤ n → taken_at settings input s ≤ n
  takes_more s t n le h =
      let a = min-le_left (length input.bytes) (s + settings.limit + 1) in
      let b = min-le_right (length input.bytes) (s + settings.limit + 1) in
      let m : taken_at settings input s ≤ taken_at settings input t = le-min a (omega (arith, b, le)) in
      omega (arith, m, h)

  -- a reply that goes on from the text begins with it
  goes_before : (s t : ℕ) (text more : List ℕ) → s ≤ t → Goes g settings input t (text ++ more)
      → Goes g settings input s text
  goes_before s t text more le h = record {
    reply = h.reply;
    replies = h.replies;
    front = IsPrefixOf-trans text (text ++ more) h.reply.out (more, refl) h.front;
    taken = takes_more s t h.reply.taken le h.taken;
  }

  pub unit_inside : (s k : ℕ) (text : List ℕ) → s ≤ length input.bytes → UnitAt s k text → s + k ≤ length input.bytes
  unit_inside s k text inside unit =
      let r = rises_of_start (rules_of g.rules) g.start (rest s) k unit.gives.looked unit.events unit.gives.gives in
      let l = length-drop s input.bytes in
      omega (arith, r.1)

  pub units_inside : (s : ℕ) (text : List ℕ) → UnitsTo s text → s ≤ length input.bytes
  units_inside s text none = omega arith
  units_inside s text (one_more t k front more units unit some) = unit_inside t k more (units_inside t front units) unit

  goes_at_empty : (s : ℕ) (text last : List ℕ) → UnitsTo s text → s ≤ length input.bytes → UnitAt s 0 last
      → Goes g settings input s (text ++ last)
  goes_at_empty s text last units inside unit = elim (cases_eq s (length input.bytes)) [
    | inl at_end ↦ goes_to_stop s text last (Quiet Done) units (empty_at_end last unit at_end)
    | inr before ↦ goes_to_stop s text last (NoMatch s) units (empty_before_end last unit (omega arith))
  ]

  goes_at_last : (w : Bool) → settings.options.whole ≡ w → (s : ℕ) (text : List ℕ) → UnitsTo s text
      → s ≡ length input.bytes → GivesAt (rules_of g.rules) g.start settings input s Fails
      → Goes g settings input s text
  goes_at_last true w s text units at_end d =
      goes_before s s text [] (omega arith) (goes_to_stop s text [] (NoMatch s) units (no_unit w d at_end))
  goes_at_last false w s text units at_end d =
      goes_before s s text [] (omega arith) (goes_to_stop s text [] (Quiet Done) units (finished w d at_end))

  goes_at_failure : (s : ℕ) (text : List ℕ) → UnitsTo s text → s ≤ length input.bytes
      → GivesAt (rules_of g.rules) g.start settings input s Fails → Goes g settings input s text
  goes_at_failure s text units inside d = elim (cases_eq s (length input.bytes)) [
    | inl at_end ↦ goes_at_last settings.options.whole refl s text units at_end d
    | inr before ↦ goes_before s s text [] (omega arith)
        (goes_to_stop s text [] (NoMatch s) units (no_match d (omega arith)))
  ]

  abbrev MayRunAt : ℕ → Type 0
  MayRunAt s = MayRun (rules_of g.rules) g.start settings input s

  abbrev Settled : ℕ → Type 0
  Settled s = IsSettled (rules_of g.rules) g.start settings input s

  -- where no unit is tried
  goes_over : (s : ℕ) (text : List ℕ) → UnitsTo s text → s ≤ length input.bytes → is_after_whole settings s ≡ true
      → MayRunAt s → Goes g settings input s text
  goes_over s text units inside over may = elim (cases_eq s (length input.bytes)) [
    | inl at_end ↦ goes_before s s text [] (omega arith)
        (goes_to_stop s text [] (Quiet Done) units (over_at_end over may at_end))
    | inr before ↦ goes_before s s text [] (omega arith)
        (goes_to_stop s text [] (NoMatch s) units (over_before_end over may (omega arith)))
  ]

  -- whatever stands at a position within so many bytes of the end, some reply goes on from it
  abbrev GoesFrom : ℕ → Type 0
  GoesFrom fuel = (s : ℕ) (text : List ℕ) → UnitsTo s text → s ≤ length input.bytes → length input.bytes < s + fuel
      → Goes g settings input s text

  abbrev text_at : ℕ → List Event → List ℕ
  text_at s events = text_of settings.options.style (rest s) events

  goes_taken : (fuel s : ℕ) (text : List ℕ) → GoesFrom fuel → UnitsTo s text → s ≤ length input.bytes
      → length input.bytes < s + suc fuel → (k : ℕ) (events : List Event)
      → GivesAt (rules_of g.rules) g.start settings input s (Takes k events)
      → IsWithin settings.options.budget (text_at s events) → Goes g settings input s text
  goes_taken fuel s text later units inside room zero events d within =
      let last : List ℕ = text_at s events in
      goes_before s s text last (omega arith) (goes_at_empty s text last units inside
      (record { events = events; gives = d; prints = refl; within = within }))
  goes_taken fuel s text later units inside room (suc k) events d within =
      let more : List ℕ = text_at s events in
      let unit : UnitAt s (suc k) more = record { events = events; gives = d; prints = refl; within = within } in
      goes_before s (s + suc k) text more (omega arith) (later (s + suc k) (text ++ more)
      (one_more s (suc k) text more units unit (omega arith)) (unit_inside s (suc k) more inside unit)
      (omega arith))

  goes_within : (fuel s : ℕ) (text : List ℕ) → GoesFrom fuel → UnitsTo s text → s ≤ length input.bytes
      → length input.bytes < s + suc fuel →
      (o : Outcome) → GivesAt (rules_of g.rules) g.start settings input s o → Goes g settings input s text
  goes_within fuel s text later units inside room Fails d = goes_at_failure s text units inside d
  goes_within fuel s text later units inside room (Takes k events) d =
      elim (within_or_over settings.options.budget (text_at s events)) [
        | inl within ↦ goes_taken fuel s text later units inside room k events d within
        | inr over ↦ goes_before s s text [] (omega arith)
            (goes_to_stop s text [] (CostlyUnit s over.0) units (costly k over.0 events d over.1 over.2))
      ]

  module _ (sound : IsSoundGrammar g) where
    -- whether the start rule looks at a byte after those that are there
    settled_or : (s : ℕ) → s < length input.bytes → Settled s ⊎ (Settled s → ⊥)
    settled_or s some =
        let longer = has_of_start (rules_of g.rules) g.start (shapes_of g.nodes) g.bodies g.ranks sound
        (rest s ++ (0 ∷ [])) in
        elim (cases_lt (length (rest s)) longer.1) [
          | inl over ↦ inr (λ is.
              let same = same_of_start (rules_of g.rules) g.start (rest s ++ (0 ∷ [])) longer.1 is.looked longer.0 is.o
              longer.2 (is.gives (0 ∷ [])) in
              let within = is.within in
              omega (arith, over, same.looked, within))
          | inr le ↦ inl (record {
            some = some;
            o = longer.0;
            looked = longer.1;
            gives = λ more.
                same_front_of_start (rules_of g.rules) g.start (rest s) 0 [] more longer.1 longer.0 le longer.2;
            within = le;
          })
        ]

    runs_or : (s : ℕ) → (lines : Bool) → runs_at_lines settings ≡ lines → length input.bytes < s + settings.limit + 1
        → input.fault ≡ true → MayRunAt s ⊎ (runs_at_lines settings ≡ true → Settled s → ⊥)
    runs_or s false e short fault = inr (λ lines is. cc (e, lines))
    runs_or s true e short fault = elim (cases_lt s (length input.bytes)) [
      | inl some ↦ elim (settled_or s some) [ inl is ↦ inl (λ f. inr (e, is)) | inr never ↦ inr (λ lines is. never is) ]
      | inr le ↦ inr (λ lines is. let some = is.some in omega (arith, some, le))
    ]

    -- a unit may be run here, or the run ends by a fault
    may_run : (s : ℕ) (b : Bool) → b ≡ input.fault → (MayRunAt s) ⊎ EndsAt s [] Broken
    may_run s false e = inl (λ f. absurd (cc))
    may_run s true e = elim (cases_lt (length input.bytes) (s + settings.limit + 1)) [
      | inl short ↦ elim (runs_or s (runs_at_lines settings) refl short (sym e))
          [ inl may ↦ inl may | inr never ↦ inr (broken (sym e) short never) ]
      | inr long ↦ inl (λ f. inl long)
    ]

    goes_on : (fuel s : ℕ) (text : List ℕ) → GoesFrom fuel → UnitsTo s text → s ≤ length input.bytes
        → length input.bytes < s + suc fuel → is_after_whole settings s ≡ false
        → MayRunAt s → Goes g settings input s text
    goes_on fuel s text later units inside room goes may =
        let some = has_of_start (rules_of g.rules) g.start (shapes_of g.nodes) g.bodies g.ranks sound (rest s) in
        elim (cases_lt settings.limit some.1) [
          | inl over ↦ goes_before s s text [] (omega arith)
              (goes_to_stop s text [] (LongUnit s settings.limit) units (overlong some.0 some.1 goes may some.2 over))
          | inr le ↦ goes_within fuel s text later units inside room some.0
              (record { goes = goes; may_run = may; looked = some.1; gives = some.2; within = le })
        ]

    -- where the bytes of a unit are there
    goes_by : (b : Bool) (fuel s : ℕ) (text : List ℕ) → GoesFrom fuel → UnitsTo s text → s ≤ length input.bytes
        → length input.bytes < s + suc fuel → is_after_whole settings s ≡ b → MayRunAt s
        → Goes g settings input s text
    goes_by true fuel s text later units inside room over may = goes_over s text units inside over may
    goes_by false fuel s text later units inside room goes may = goes_on fuel s text later units inside room goes may

    goes_with_fuel : (fuel : ℕ) → GoesFrom fuel
    goes_with_fuel zero s text units inside room = absurd (omega arith)
    goes_with_fuel (suc fuel) s text units inside room = elim (may_run s input.fault refl) [
      | inr cut ↦ goes_before s s text [] (omega arith) (goes_to_stop s text [] Broken units cut)
      | inl may ↦ goes_by (is_after_whole settings s) fuel s text (goes_with_fuel fuel) units inside room refl may
    ]

    pub units_go_on : (s : ℕ) (text : List ℕ) → UnitsTo s text → Goes g settings input s text
    units_go_on s text units =
        goes_with_fuel (suc (length input.bytes)) s text units (units_inside s text units) (omega arith)

    -- and the text of one more unit, of any length
    pub unit_goes_on : (s k : ℕ) (text last : List ℕ) → UnitsTo s text → UnitAt s k last
        → Goes g settings input s (text ++ last)
    unit_goes_on s zero text last units unit = goes_at_empty s text last units (units_inside s text units) unit
    unit_goes_on s (suc k) text last units unit =
        let goes = units_go_on (s + suc k) (text ++ last) (one_more s (suc k) text last units unit (omega arith)) in
        record {
          reply = goes.reply;
          replies = goes.replies;
          front = goes.front;
          taken = takes_more s (s + suc k) goes.reply.taken (omega arith) goes.taken;
        }
