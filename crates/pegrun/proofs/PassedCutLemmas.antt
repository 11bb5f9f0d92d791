-- The units so far, and many of one byte that follow them.
-- Serves: run_peg (right)
use Rattle.std.proofs.Common.{◌≡◌, ℕ, ◌+◌, ◌*◌, ◌≤◌, Bool, true, false, List, [], ◌∷◌, ◌++◌, length, Option, refl, sym}
use Rattle.std.proofs.Common.{◌∙◌, ap, subst}
use Rattle.std.proofs.Common.{arith, drop, inr, append_assoc, length-append, length-drop, take}
use Rattle.std.specs.Prelude.{Result, Ok, Err}
use Rattle.std.proofs.lemmas.List.{append-nil}
use Rattle.std.specs.Io.KnownBytes.{Appends, Consumes}
use Rattle.ruletable.specs.declared.sink.WriteFault.{WriteFault}
use Rattle.ruletable.proofs.AppendsLemmas.{Appends-join, Appends-same, AppendsPart-join, Consumes-join}
use Rattle.ruletable.specs.Writing.{AppendsPart}
use Rattle.feed.specs.Feed.{Grows, SameFeed, allowance_of, bytes_of, flow_of, reader_of}
use Rattle.feed.specs.declared.feed.Feed.{Feed}
use Rattle.feed.specs.declared.held.Flow.{Flow}
use Rattle.gramcheck.specs.Grammar.{Grammar}
use Rattle.pegread.specs.Pattern.{Rule}
use Rattle.pegread.specs.PegViews.{rules_of}
use Rattle.toolrun.proofs.AgreesLemmas.{slides-bytes}
use Rattle.toolrun.specs.Agrees.{Agrees}
use Rattle.toolrun.specs.Input.{Input}
use Rattle.toolrun.specs.declared.ending.Ending.TheVariants.{Plain}
use Rattle.toolrun.specs.declared.stop.Stop.TheVariants as stop
use Rattle.pegrun.specs.ByteUnits.{AreByteUnits}
use Rattle.pegrun.specs.MatchCalls.{matches_for}
use Rattle.pegrun.specs.PassedUnits.{HasPassed, HasComeTo}
use Rattle.pegrun.specs.PegSettings.{PegSettings}
use Rattle.pegrun.specs.PegStopped.{IsCut}
use Rattle.pegrun.specs.Units.{Units, unit_count}
use Rattle.pegrun.specs.declared.byte_units.ByteUnits.{ByteUnits}
use Rattle.pegrun.specs.declared.passed.Passed.{Passed}
use Rattle.pegrun.specs.declared.passed.Passed.TheVariants.{Broken, Units as Passes}
use Rattle.pegrun.proofs.CutLemmas.{stops_plain}
use Rattle.pegrun.proofs.MatchCallsLemmas.{few_with_more}

module _ (rules : List Rule) (start : ℕ) (settings : PegSettings) (input : Input) (old mid new : Option (List ℕ))
    (position : ℕ) (text : List ℕ) (taken : ℕ) (units : Units rules start settings input position text)
    (wrote : Appends old mid text) where
  pub units_passed : (s n : ℕ) → s ≡ position → HasComeTo rules start settings input s taken mid new (Ok (Passes n)) →
      (longer : List ℕ) × (later : Units rules start settings input (position + n) longer) × Appends old new longer
      × (unit_count rules start settings input later ≡ unit_count rules start settings input units + n)
  units_passed s n here passed =
      let is = subst (λ (at : ℕ). HasComeTo rules start settings input at taken mid new (Ok (Passes n))) here passed in
      let later = is.1 text units in
      (text ++ is.0, later.0, Appends-join old mid new text is.0 wrote is.2, later.1)

  -- The same, with what is kept of the unit before, which is asked for only where no unit was run so, and the calls.
  pub written_passed : (s n : ℕ) → s ≡ position → HasComeTo rules start settings input s taken mid new (Ok (Passes n)) →
      (IsKept : ℕ → Type 0) → (settings.explain ≡ true → n ≡ 0) → (settings.explain ≡ true → IsKept position) →
      (was calls : ℕ) → calls ≤ was + matches_for settings * unit_count rules start settings input units →
      (longer : List ℕ) × (later : Units rules start settings input (position + n) longer) × Appends old new longer
      × (settings.explain ≡ true → IsKept (position + n))
      × (calls ≤ was + matches_for settings * unit_count rules start settings input later)
  written_passed s n here passed IsKept none kept was calls few =
      let u = units_passed s n here passed in (
        u.0,
        u.1,
        u.2,
        λ asked. subst IsKept (let e = none asked in omega (arith, e)) (kept asked),
        few_with_more (matches_for settings) was calls (unit_count rules start settings input units)
            (unit_count rules start settings input u.1) n few u.3,
      )

  pub cut_at_fault : (s : ℕ) → s ≡ position → settings.explain ≡ false
      → HasComeTo rules start settings input s taken mid new (Ok Broken)
      → IsCut rules start settings input taken old new (Ok (Plain stop.Broken))
  cut_at_fault s here plain passed = at_position plain
      (subst (λ (at : ℕ). HasComeTo rules start settings input at taken mid new (Ok Broken)) here passed)
    where
      at_position : settings.explain ≡ false → HasComeTo rules start settings input position taken mid new (Ok Broken)
          → IsCut rules start settings input taken old new (Ok (Plain stop.Broken))
      at_position plain (n, more, goes, wrote_more, ends, took) =
          let later = goes text units in
          stops_plain rules start settings input old new new (position + n) (text ++ more) taken later.0
          (Appends-join old mid new text more wrote wrote_more) plain stop.Broken (inr ([], ends, Appends-same new))
          took

  pub cut_at_write_fault : (s : ℕ) → s ≡ position → (fault : WriteFault)
      → HasComeTo rules start settings input s taken mid new (Err fault)
      → IsCut rules start settings input taken old new (Err fault)
  cut_at_write_fault s here fault passed = at_position
      (subst (λ (at : ℕ). HasComeTo rules start settings input at taken mid new (Err fault)) here passed)
    where
      at_position : HasComeTo rules start settings input position taken mid new (Err fault)
          → IsCut rules start settings input taken old new (Err fault)
      at_position (n, more, last, goes, unit, part, took) =
          let later = goes text units in (
            position + n,
            1,
            text ++ more,
            last,
            later.0,
            unit,
            subst (AppendsPart old new) (sym (append_assoc text more last))
                (AppendsPart-join old mid new text (more ++ last) wrote part),
            took,
          )

pub not_asked : (b : Bool) → (b ≡ true → ⊥) → b ≡ false
not_asked true = λ no. absurd (no refl)
not_asked false = λ no. refl

abbrev pub NonePassed : Result Passed WriteFault → Type 0
NonePassed r = r ≡ Ok (Passes 0)

pub none_more : (n : ℕ) (passed : Passed) → passed ≡ Passes n → NonePassed (Ok passed) → n ≡ 0
none_more n passed is none = cc (is, none)

pub not_broken : (passed : Passed) → passed ≡ Broken → NonePassed (Ok passed) → ⊥
not_broken passed is none = cc (is, none)

no_bytes : (gone : List ℕ) → length gone ≡ 0 → gone ≡ []
no_bytes [] e = refl
no_bytes (b ∷ gone) e = absurd (cc e)

pub none_gone : (before gone : List ℕ) (n : ℕ) → length gone ≡ n → n ≡ 0 → before ++ gone ≡ before
none_gone before gone n count none = ap (λ t. before ++ t) (no_bytes gone (count ∙ none)) ∙ append-nil before

module _ {R : Type 0} (remaining : R → Option (List ℕ)) (units : ByteUnits) (settings : PegSettings) (old new : Feed R)
    (was is : Option (List ℕ)) (result : Result Passed WriteFault)
    (p : HasPassed remaining units settings old new was is result) (before : List ℕ) where
  -- what is seen now, with the bytes that were let go before it
  pub seen_now : (before ++ p.gone) ++ bytes_of new ≡ before ++ (bytes_of old ++ p.more)
  seen_now = append_assoc before p.gone (bytes_of new) ∙ ap (λ t. before ++ t) (sym p.bytes)

  pub consumed_now : (first : Option (List ℕ)) → Consumes first (remaining (reader_of old)) (before ++ bytes_of old)
      → Consumes first (remaining (reader_of new)) (before ++ (bytes_of old ++ p.more))
  consumed_now first c =
      subst (λ (t : List ℕ). Consumes first (remaining (reader_of new)) t)
      (append_assoc before (bytes_of old) p.more)
      (Consumes-join first (remaining (reader_of old)) (remaining (reader_of new)) (before ++ bytes_of old) p.more c
      p.gives)

-- what is seen once n bytes were dropped: they stand after those before
module _ {R : Type 0} (grown held skipped : Feed R) (before : List ℕ) (n : ℕ) (same : SameFeed grown held)
    (bytes : bytes_of skipped ≡ drop n (bytes_of held)) where
  bytes_slid : (before ++ take n (bytes_of grown)) ++ bytes_of skipped ≡ before ++ bytes_of grown
  bytes_slid = ap (λ t. (before ++ take n (bytes_of grown)) ++ t) (bytes ∙ ap (drop n) same.bytes)
      ∙ slides-bytes before (bytes_of grown) n

  pub consumed_after : (remaining : R → Option (List ℕ)) (first : Option (List ℕ))
      → reader_of skipped ≡ reader_of held → Consumes first (remaining (reader_of grown)) (before ++ bytes_of grown)
      → Consumes first (remaining (reader_of skipped)) ((before ++ take n (bytes_of grown)) ++ bytes_of skipped)
  consumed_after remaining first reader seen =
      subst (λ (r : R). Consumes first (remaining r) ((before ++ take n (bytes_of grown)) ++ bytes_of skipped))
      (sym (reader ∙ same.reader))
      (subst (λ (t : List ℕ). Consumes first (remaining (reader_of grown)) t) (sym bytes_slid) seen)

  pub agrees_before : (input : Input) → flow_of skipped ≡ flow_of held
      → Agrees ((before ++ take n (bytes_of grown)) ++ bytes_of skipped) (flow_of skipped) input
      → Agrees (before ++ bytes_of grown) (flow_of grown) input
  agrees_before input flow agrees =
      subst (λ (t : List ℕ). Agrees t (flow_of grown) input) bytes_slid
      (subst (λ (f : Flow). Agrees ((before ++ take n (bytes_of grown)) ++ bytes_of skipped) f input)
      (flow ∙ same.flow) agrees)

-- what is held and what may come still, after a feed read more and n bytes were dropped
pub room_after : {R : Type 0} (remaining : R → Option (List ℕ)) (old grown held skipped : Feed R) (limit position n : ℕ)
    → Grows remaining old grown → SameFeed grown held → bytes_of skipped ≡ drop n (bytes_of held)
    → allowance_of skipped ≡ allowance_of held → n ≤ length (bytes_of grown)
    → position + length (bytes_of old) + allowance_of old ≡ limit
    → position + n + length (bytes_of skipped) + allowance_of skipped ≡ limit
room_after remaining old grown held skipped limit position n grew same bytes allowance le within =
    let kept = ap length bytes in
    let held_len = ap length same.bytes in
    let more = ap length grew.bytes in
    let left = same.allowance in
    let left_old = grew.allowance in
    omega (
      arith,
      kept,
      held_len,
      length-drop n (bytes_of held),
      allowance,
      left,
      left_old,
      more,
      length-append (bytes_of old) grew.more,
      within,
      le,
    )

module _ {R : Type 0} (remaining : R → Option (List ℕ)) (units : ByteUnits) (settings : PegSettings) (old new : Feed R)
    (was is : Option (List ℕ)) (result : Result Passed WriteFault)
    (p : HasPassed remaining units settings old new was is result) (limit position : ℕ)
    (within : position + length (bytes_of old) + allowance_of old ≡ limit) where
  -- likewise, after units of m bytes were run
  pub room_passed : (m : ℕ) → length p.gone ≡ m → position + m + length (bytes_of new) + allowance_of new ≡ limit
  room_passed m count =
      let now = ap length p.bytes in
      let left = p.allowance in
      omega (
        arith,
        now,
        left,
        length-append (bytes_of old) p.more,
        length-append p.gone (bytes_of new),
        count,
        within,
      )

  -- all that is seen, where the feed began after these bytes
  pub seen_fits : (before : List ℕ) → length before ≡ position
      → allowance_of new + length (before ++ (bytes_of old ++ p.more)) ≡ limit
  seen_fits before here =
      let left = p.allowance in
      omega (
        arith,
        left,
        length-append (bytes_of old) p.more,
        length-append before (bytes_of old ++ p.more),
        here,
        within,
      )

-- What was written so far of each input that agrees with what is seen: the units up to a position, what is kept of the
-- last of them, and how many matches were asked for.
abbrev pub WrittenTo : {R : Type 0} → (R → Option (List ℕ)) → List Rule → ℕ → PegSettings → Option (List ℕ)
    → Option (List ℕ) → ℕ → (List ℕ → Type 0) → (Input → ℕ → Type 0) → Feed R → ℕ → Option (List ℕ) → ℕ → Type 0
WrittenTo remaining rules start settings first old was IsPast IsKept feed position out calls =
    (before : List ℕ) × (length before ≡ position) × (settings.explain ≡ true → IsPast before)
    × Consumes first (remaining (reader_of feed)) (before ++ bytes_of feed)
    × ((input : Input) → Agrees (before ++ bytes_of feed) (flow_of feed) input → (text : List ℕ)
    × (units : Units rules start settings input position text) × Appends old out text
    × (settings.explain ≡ true → IsKept input position)
    × (calls ≤ was + matches_for settings * unit_count rules start settings input units))

pub written_on : {R : Type 0} (remaining : R → Option (List ℕ)) (g : Grammar) (settings : PegSettings)
    (first old : Option (List ℕ)) (was : ℕ) (IsPast : List ℕ → Type 0) (IsKept : Input → ℕ → Type 0)
    (units : ByteUnits) → AreByteUnits g settings.options.style units → (feed next : Feed R) (position calls n : ℕ)
    (out now : Option (List ℕ)) → HasPassed remaining units settings feed next out now (Ok (Passes n))
    → (settings.explain ≡ true → n ≡ 0)
    → WrittenTo remaining (rules_of g.rules) g.start settings first old was IsPast IsKept feed position out calls
    → WrittenTo remaining (rules_of g.rules) g.start settings first old was IsPast IsKept next (position + n) now calls
written_on remaining g settings first old was IsPast IsKept units are feed next position calls n out now p none
    (before, here, past, seen, written) =
    let p_count = p.count in (
      before ++ p.gone,
      omega (arith, length-append before p.gone, here, p_count),
      λ asked. subst IsPast (sym (none_gone before p.gone n p_count (none asked))) (past asked),
      subst (λ (t : List ℕ). Consumes first (remaining (reader_of next)) t)
          (sym (seen_now remaining units settings feed next out now (Ok (Passes n)) p before))
          (consumed_now remaining units settings feed next out now (Ok (Passes n)) p before first seen),
      λ input b.
          let there = subst (λ (t : List ℕ). Agrees t (flow_of next) input)
          (seen_now remaining units settings feed next out now (Ok (Passes n)) p before) b in
          let front = written input (p.earlier before input there) in
          written_passed (rules_of g.rules) g.start settings input old out now position front.0
          (length (before ++ (bytes_of feed ++ p.more))) front.1 front.2 (length before) n here
          (p.follows g before input are there) (IsKept input) none front.3 was calls front.4,
    )
