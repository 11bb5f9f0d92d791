-- The units so far, and the step that follows them.
-- Serves: run_peg (right)
use Rattle.std.proofs.Common.{◌≡◌, ℕ, suc, ◌+◌, Bool, true, false, List, [], ◌++◌, length, take, Option, refl, arith}
use Rattle.std.proofs.Common.{◌≤◌, ◌∙◌, ap, inl, inr, sym, subst, append_assoc}
use Rattle.std.proofs.Math.Seq.{take-append_seam}
use Rattle.std.specs.Prelude.{Result, Ok, Err}
use Rattle.std.proofs.lemmas.List.{append-nil}
use Rattle.std.specs.Io.KnownBytes.{Appends, Consumes}
use Rattle.ruletable.specs.Writing.{Flags}
use Rattle.ruletable.specs.declared.sink.WriteFault.{WriteFault}
use Rattle.ruletable.proofs.AppendsLemmas.{Appends-join, Appends-kept, AppendsPart-join}
use Rattle.feed.specs.Feed.{IsReportedBy, input_limit}
use Rattle.feed.specs.declared.held.Flow.{Flow}
use Rattle.pegread.specs.Pattern.{Rule}
use Rattle.pegread.specs.PegViews.{rules_of}
use Rattle.gramcheck.specs.Grammar.{Grammar, IsSoundGrammar}
use Rattle.pegrun.specs.Attempts.{IsStep}
use Rattle.toolrun.specs.Input.{Input}
use Rattle.pegrun.specs.PegStopped.{IsCut}
use Rattle.pegrun.specs.PegReply.{RunStates}
use Rattle.pegrun.specs.Units.{Units, none, one_more, Ends, taken_at, unit_count}
use Rattle.toolrun.specs.Agrees.{Agrees}
use Rattle.toolrun.specs.RunSteps.{Begins, EndsReported, HasReportedRun}
use Rattle.toolrun.specs.Stopped.{Fulfils}
use Rattle.toolrun.specs.Stream.{Stream, passed}
use Rattle.pegrun.specs.PegSettings.{PegSettings}
use Rattle.toolrun.specs.declared.stop.Stop.{Stop}
use Rattle.toolrun.specs.declared.ending.Ending.{Ending}
use Rattle.toolrun.specs.declared.ending.Ending.TheVariants.{Plain, Explained, Unexplained}
use Rattle.toolrun.specs.declared.stop.Stop.TheVariants.{Quiet, NoMatch, LongUnit, LongLine, Broken, NoMemory, Refused}
use Rattle.toolrun.specs.declared.stop.Stop.TheVariants.{CostlyUnit, CostlyLine, Unreadable}
use Rattle.toolrun.proofs.StopsAsLemmas.{run_reported, did_not_report}
use Rattle.matchfailure.specs.NoMatchLines.{long_unit_lines}
use Rattle.matchfailure.specs.NoMatches.{IsNoMatchReported, unit_before}
use Rattle.pegrun.specs.PastUnits.{EndsAfter, LinesAfter}
use Rattle.pegrun.specs.StopsExplained.{MayLack, StopLines, ReportsNothing, UnitBefore, WhyStopped, one_before}
use Rattle.pegrun.specs.declared.past.Past.{Past}
use Rattle.matchfailure.specs.InputPositions.{position_after}
use Rattle.matchfailure.specs.declared.explain.position.TextPosition.{TextPosition}
use Rattle.pegrun.proofs.FollowsLemmas.{unit_at_byte}
use Rattle.toolrun.proofs.ExplainedIfLemmas.{if_asked, if_not_asked}
use Rattle.pegrun.proofs.WhyStoppedLemmas.{no_lines, some_reported}
use Rattle.pegrun.proofs.SomeReplyLemmas.{units_go_on, unit_goes_on}
use Rattle.pegrun.specs.declared.unit.UnitStep.TheVariants.{Takes, Stops}

module _ (rules : List Rule) (start : ℕ) (settings : PegSettings) (input : Input) (old mid new : Option (List ℕ))
    (position : ℕ) (text : List ℕ) (taken : ℕ)
    (units : Units rules start settings input position text) (wrote : Appends old mid text) where
  pub one_more_unit : (n : ℕ) → IsStep rules start settings input position mid new (Ok (Takes n)) →
      (longer : List ℕ) × (later : Units rules start settings input (position + n) longer) × Appends old new longer ×
      (unit_count rules start settings input later ≡ suc (unit_count rules start settings input units))
  one_more_unit n (unit, is, more, some) = (
    text ++ unit,
    one_more position n text unit units is some,
    Appends-join old mid new text unit wrote more,
    refl,
  )

  -- the unit that was taken is the one before the next, and is kept
  pub unit_kept : (n : ℕ) → IsStep rules start settings input position mid new (Ok (Takes n)) → (past : Past)
      (before items : List ℕ) → length before ≡ position → (next : TextPosition) → next ≡ position_after before
      → past.at ≡ next → past.bytes.items ≡ take n items → n ≤ length items →
      UnitBefore rules start settings input (position + n) (unit_before past.at.byte (length past.bytes.items))
  unit_kept n (unit, is, more, some) past before items here next stands at bytes le =
      rw (unit_at_byte past.at past.bytes.items before items n (at ∙ stands) bytes le some, here)
      (one_before position n text unit units is some)

  pub stops_plain : settings.explain ≡ false → (stop : Stop)
      → IsStep rules start settings input position mid new (Ok (Stops stop)) → taken ≡ taken_at settings input position
      →
      IsCut rules start settings input taken old new (Ok (Plain stop))
  stops_plain plain stop (inl refused) took = (
    position,
    text,
    [],
    units,
    rw append-nil (Appends-kept old mid new text wrote refused.1),
    took,
    (refl, inl (record { refused = refused.0; nothing = refl; unexplained = refl })),
  )
  stops_plain plain stop (inr ended) took = (
    position,
    text,
    ended.0,
    units,
    Appends-join old mid new text ended.0 wrote ended.2,
    took,
    (refl, inr (ended.1, if_not_asked settings.explain (StopLines rules start settings input position stop) plain)),
  )

  -- the bytes before here and those that are held are what is taken, and the last unit before is kept
  module _ (asked : settings.explain ≡ true) (past : Past) (before held more : List ℕ) (here : length before ≡ position)
      (bytes : input.bytes ≡ (before ++ held) ++ more)
      (took : length (before ++ held) ≡ taken_at settings input position)
      (unit : past.lost ≡ false
      → UnitBefore rules start settings input position (unit_before past.at.byte (length past.bytes.items))) where
    taken_is : take (taken_at settings input position) input.bytes ≡ before ++ held
    taken_is = subst (λ (n : ℕ). take n input.bytes ≡ before ++ held) took
        (ap (take (length (before ++ held))) bytes ∙ take-append_seam (before ++ held) more)

    front_is : take position input.bytes ≡ before
    front_is = subst (λ (n : ℕ). take n input.bytes ≡ before) here
        (ap (take (length before)) (bytes ∙ append_assoc before held more) ∙ take-append_seam before (held ++ more))

    lines_are : (stop : Stop) (why : List ℕ) → LinesAfter rules start past before held stop why
        → StopLines rules start settings input position stop why
    lines_are (Quiet status) why lines = absurd lines
    lines_are (NoMatch at) why (kept, reported) = (
      unit_before past.at.byte (length past.bytes.items),
      unit kept,
      subst (λ (t : List ℕ). IsNoMatchReported rules start t
          (unit_before past.at.byte (length past.bytes.items)) position
          why)
          (sym taken_is)
          (subst (λ (n : ℕ). IsNoMatchReported rules start (before ++ held)
          (unit_before past.at.byte (length past.bytes.items)) n why) here reported),
    )
    lines_are (LongUnit at limit) why lines =
        lines ∙ ap (λ (t : List ℕ). long_unit_lines (position_after t)) (sym front_is)
    lines_are (CostlyUnit at budget) why lines = absurd lines
    lines_are (LongLine line limit) why lines = absurd lines
    lines_are (CostlyLine line budget) why lines = absurd lines
    lines_are Broken why lines = absurd lines
    lines_are NoMemory why lines = absurd lines
    lines_are (Refused fault) why lines = absurd lines
    lines_are Unreadable why lines = absurd lines

    ends_so : (stop : Stop) (last : List ℕ) (ending : Ending) → EndsAfter rules start past before held stop ending
        → Ends rules start settings input position last stop →
        EndsReported (Units rules start settings input) (Ends rules start settings input) (taken_at settings input)
        ReportsNothing (WhyStopped rules start settings input) (MayLack rules start settings input) position last ending
    ends_so stop last (Plain is) (same, without) ends =
        rw same (
          refl,
          inr (
            ends,
            if_asked settings.explain (StopLines rules start settings input position stop) [] asked
                (no_lines rules start settings input position stop without),
          ),
        )
    ends_so stop last (Explained reported is why) (alone, same, lines) ends =
        rw same (
          alone,
          inr (
            ends,
            if_asked settings.explain (StopLines rules start settings input position stop) why.items asked
                (lines_are stop why.items lines),
          ),
        )
    ends_so stop last (Unexplained reported is) (alone, same, has) ends = rw same (alone, ends, (asked, has))

    refused_so : (ending : Ending) → EndsAfter rules start past before held NoMemory ending
        → EndsReported (Units rules start settings input) (Ends rules start settings input) (taken_at settings input)
        ReportsNothing (WhyStopped rules start settings input) (MayLack rules start settings input) position [] ending
    refused_so (Plain is) (same, without) =
        (refl, inl (record { refused = same; nothing = refl; unexplained = refl }))
    refused_so (Explained reported is why) (alone, same, lines) = absurd lines
    refused_so (Unexplained reported is) (alone, same, has) = absurd has

    pub stops_explained : (stop : Stop) (ending : Ending)
        → IsStep rules start settings input position mid new (Ok (Stops stop))
        → EndsAfter rules start past before held stop ending → taken ≡ taken_at settings input position →
        IsCut rules start settings input taken old new (Ok ending)
    stops_explained stop ending (inl refused) after at = (
      position,
      text,
      [],
      units,
      rw append-nil (Appends-kept old mid new text wrote refused.1),
      at,
      refused_so ending (subst (λ (s : Stop). EndsAfter rules start past before held s ending) refused.0 after),
    )
    stops_explained stop ending (inr ended) after at = (
      position,
      text,
      ended.0,
      units,
      Appends-join old mid new text ended.0 wrote ended.2,
      at,
      ends_so stop ended.0 ending after ended.1,
    )

  module _ (past : Past) (before held more : List ℕ) (here : length before ≡ position)
      (bytes : input.bytes ≡ (before ++ held) ++ more)
      (took : length (before ++ held) ≡ taken_at settings input position)
      (unit : settings.explain ≡ true → past.lost ≡ false
      → UnitBefore rules start settings input position (unit_before past.at.byte (length past.bytes.items)))
      (stop : Stop) (ending : Ending) (step : IsStep rules start settings input position mid new (Ok (Stops stop)))
      (plain : settings.explain ≡ false → ending ≡ Plain stop)
      (reported : settings.explain ≡ true → EndsAfter rules start past before held stop ending)
      (at : taken ≡ taken_at settings input position) where
    stops_by : (asked : Bool) → settings.explain ≡ asked → IsCut rules start settings input taken old new (Ok ending)
    stops_by true e = stops_explained e past before held more here bytes took (unit e) stop ending step (reported e) at
    stops_by false e = rw (plain e) (stops_plain e stop step at)

    pub stops_at_position : IsCut rules start settings input taken old new (Ok ending)
    stops_at_position = stops_by settings.explain refl

  pub fails_there : (fault : WriteFault) → IsStep rules start settings input position mid new (Err fault)
      → taken ≤ taken_at settings input position →
      IsCut rules start settings input taken old new (Err fault)
  fails_there fault (k, unit, is, part) took = (
    position,
    k,
    text,
    unit,
    units,
    is,
    AppendsPart-join old mid new text unit wrote part,
    took,
  )

-- the units are the steps of a run
pub goes_on : (g : Grammar) → IsSoundGrammar g → (settings : PegSettings) (input : Input) (position : ℕ) (text : List ℕ)
    → Units (rules_of g.rules) g.start settings input position text →
    Begins (Units (rules_of g.rules) g.start settings input) (Ends (rules_of g.rules) g.start settings input)
    (taken_at settings input) (taken_at settings input position) text
goes_on g sound settings input position text units = units_go_on g settings input sound position text units

-- what `cut` says, in the words of all runs
pub cut_has_run : (g : Grammar) → IsSoundGrammar g → (settings : PegSettings) (input : Input) (taken : ℕ)
    (old new : Option (List ℕ)) (r : Result Ending WriteFault) →
    IsCut (rules_of g.rules) g.start settings input taken old new r →
    HasReportedRun (Units (rules_of g.rules) g.start settings input) (Ends (rules_of g.rules) g.start settings input)
    (taken_at settings input) ReportsNothing (WhyStopped (rules_of g.rules) g.start settings input)
    (MayLack (rules_of g.rules) g.start settings input) taken old new r
cut_has_run g sound settings input taken old new (Ok ending) cut = cut
cut_has_run g sound settings input taken old new (Err fault) (position, k, text, last, units, unit, part, took) =
    let goes = unit_goes_on g settings input sound position k text last units unit in
    let reported = some_reported (rules_of g.rules) g.start settings input goes.reply goes.replies in (
      text ++ last,
      record {
        reply = reported.0;
        states = reported.1;
        front = rw reported.2 goes.front;
        taken = omega (arith, took, reported.3, goes.taken);
      },
      part,
    )

-- the reader is given back as it was after the last unit
pub units_were_run : (g : Grammar) → IsSoundGrammar g → (settings : PegSettings)
    → {R : Type 0} (remaining : R → Option (List ℕ)) (failed ended : R → Bool) (old now final : R) (out : Stream)
    (left : ℕ) (flow : Flow) (r : Result Ending WriteFault) → final ≡ now → IsReportedBy (remaining now) (failed now)
    (ended now) left flow →
    ((seen : List ℕ) × Consumes (remaining old) (remaining now) seen × (left + length seen ≡ input_limit) ×
    ((input : Input) → Agrees seen flow input → IsCut (rules_of g.rules) g.start settings input (length seen) out.old
    out.new r)) →
    Flags out.was out.failed r → Fulfils (RunStates (rules_of g.rules) g.start settings)
    (passed remaining failed old final) out r
units_were_run g sound settings remaining failed ended old now final out left flow r is reported
    (seen, gives, count, cut)
    flag =
    run_reported (Units (rules_of g.rules) g.start settings) (Ends (rules_of g.rules) g.start settings)
    (taken_at settings) (goes_on g sound settings) (λ input. ReportsNothing)
    (WhyStopped (rules_of g.rules) g.start settings) (MayLack (rules_of g.rules) g.start settings)
    remaining failed ended old now final out left flow r is reported (
      seen,
      gives,
      count,
      λ input agrees. cut_has_run g sound settings input (length seen) out.old out.new r (cut input
          agrees),
    ) flag

-- an allocation failed before the first unit
pub no_unit_was_run : (g : Grammar) → IsSoundGrammar g → (settings : PegSettings) (r0 s0 : Option (List ℕ))
    (r_was r_failed o_was : Bool) →
    let r : Result Ending WriteFault = Ok (Plain NoMemory) in
    Fulfils (RunStates (rules_of g.rules) g.start settings)
    (record { old = r0; new = r0; was = r_was; failed = r_failed })
    (record { old = s0; new = s0; was = o_was; failed = o_was }) r
no_unit_was_run g sound settings r0 s0 r_was r_failed o_was =
    did_not_report (Units (rules_of g.rules) g.start settings) (Ends (rules_of g.rules) g.start settings)
    (taken_at settings) (goes_on g sound settings) (λ input. ReportsNothing)
    (WhyStopped (rules_of g.rules) g.start settings) (MayLack (rules_of g.rules) g.start settings)
    0 (λ input. none) (λ input. refl) r0 s0 r_was r_failed o_was
