-- Units that their first byte alone decides, many at a time.
-- Serves: run_peg (right)
use Rattle.std.proofs.Common.{◌≡◌, ℕ, zero, suc, ◌+◌, ◌-◌, ◌<◌, ◌≤◌, Bool, true, false, Option, Some, None, List}
use Rattle.std.proofs.Common.{[], ◌∷◌, ◌++◌, inl}
use Rattle.std.proofs.Common.{length, take, drop, refl, sym, ◌∙◌, ap, subst, arith, append_assoc, length-append}
use Rattle.std.proofs.Common.{if◌then◌else◌}
use Rattle.std.specs.Prelude.{Ok, Err, is_some, unwrap_or}
use Rattle.std.specs.List.{prefix_len}
use Rattle.std.proofs.lemmas.Grind.{flat_map-append}
use Rattle.std.proofs.Math.Nat.{min-eq_left, min-eq_right}
use Rattle.std.proofs.lemmas.List.{append-nil, length-take-le, take_all, take-append-drop}
use Rattle.std.specs.Io.KnownBytes.{Appends, Consumes}
use Rattle.ruletable.specs.Writing.{AppendsPart, IsPrefixOf}
use Rattle.ruletable.specs.declared.sink.WriteFault.{WriteFault}
use Rattle.feed.specs.Feed.{Grows, IsHeld, allowance_of, bytes_of, capacity_of, flow_of, reader_of}
use Rattle.feed.specs.declared.feed.Feed.{Feed}
use Rattle.feed.specs.declared.held.Flow.{Flow}
use Rattle.feed.specs.declared.held.Held.{Held}
use Rattle.feed.specs.declared.held.Held.TheVariants.{Full, End, Fault}
use Rattle.feed.proofs.GrowsLemmas.{Consumes-same}
use Rattle.pegread.specs.Pattern.{Rule}
use Rattle.pegread.specs.PegViews.{rules_of}
use Rattle.ruletable.proofs.AppendsLemmas.{Appends-same, IsPrefixOf-take, IsPrefixOf-trans}
use Rattle.gramcheck.specs.Grammar.{Grammar}
use Rattle.pegmatch.specs.Text.{text_of}
use Rattle.toolrun.specs.Agrees.{Agrees}
use Rattle.toolrun.specs.Input.{Input}
use Rattle.toolrun.proofs.AgreesLemmas.{agrees_earlier, bytes_len, rest_is, slides-bytes}
use Rattle.toolrun.specs.declared.stop.Stop.TheVariants as stop
use Rattle.pegrun.specs.ByteUnits.{AreByteUnits, is_known, text_by, texts_of}
use Rattle.pegrun.specs.PassedUnits.{GoesOn, HasPassed, HasComeTo, can_run}
use Rattle.pegrun.specs.PegSettings.{PegSettings}
use Rattle.pegrun.specs.Units.{Ends, IsUnit, Units, broken, one_more, runs_at_lines, taken_at, unit_count}
use Rattle.pegrun.specs.declared.byte_units.ByteUnits.{ByteUnits}
use Rattle.pegrun.specs.declared.passed.Passed.TheVariants.{Broken, Units as Passes}

-- the text of each byte is known
abbrev pub AllKnown : ByteUnits → List ℕ → Type 0
AllKnown units [] = Unit {0}
AllKnown units (b ∷ bytes) = ((text : List ℕ) × (text_by units b ≡ Some text)) × AllKnown units bytes

known_first : (units : ByteUnits) (b n m : ℕ) (o : Option (List ℕ)) → text_by units b ≡ o
    → suc n ≤ (if is_some (text_by units b) then 1 + m else 0)
    → ((text : List ℕ) × (text_by units b ≡ Some text)) × (n ≤ m)
known_first units b n m None e h = absurd (let g = rw e at h in omega (arith, g))
known_first units b n m (Some text) e h = ((text, e), let g = rw e at h in omega (arith, g))

known_front : (units : ByteUnits) (bytes : List ℕ) (n : ℕ) → n ≤ prefix_len (is_known units) bytes
    → AllKnown units (take n bytes)
known_front units [] zero le = tt
known_front units [] (suc n) le = tt
known_front units (b ∷ bytes) zero le = tt
known_front units (b ∷ bytes) (suc n) le =
    let one = known_first units b n (prefix_len (is_known units) bytes) (text_by units b) refl le in
    (one.0, known_front units bytes n one.1)

known_part : (units : ByteUnits) (bytes : List ℕ) (n : ℕ) → AllKnown units bytes → AllKnown units (take n bytes)
known_part units [] zero known = tt
known_part units [] (suc n) known = tt
known_part units (b ∷ bytes) zero known = tt
known_part units (b ∷ bytes) (suc n) (one, known) = (one, known_part units bytes n known)

known_before : (units : ByteUnits) (xs ys : List ℕ) → AllKnown units (xs ++ ys) → AllKnown units xs
known_before units [] ys known = tt
known_before units (b ∷ xs) ys (one, known) = (one, known_before units xs ys known)

known_after : (units : ByteUnits) (xs ys : List ℕ) → AllKnown units (xs ++ ys) → AllKnown units ys
known_after units [] ys known = known
known_after units (b ∷ xs) ys (one, known) = known_after units xs ys known

last_of : (bytes : List ℕ) → 0 < length bytes → (front : List ℕ) × (b : ℕ) × (bytes ≡ front ++ (b ∷ []))
last_of [] h = absurd (omega arith)
last_of (b ∷ []) h = ([], b, refl)
last_of (b ∷ c ∷ bytes) h = let l = last_of (c ∷ bytes) (omega arith) in (b ∷ l.0, l.1, ap (λ t. b ∷ t) l.2)

drop_next : (s : ℕ) (xs : List ℕ) (b : ℕ) (ys : List ℕ) → drop s xs ≡ b ∷ ys → drop (suc s) xs ≡ ys
drop_next zero xs b ys h = ap (drop 1) h
drop_next (suc s) [] b ys h = absurd (cc h)
drop_next (suc s) (x ∷ xs) b ys h = drop_next s xs b ys h

drop_one : (s : ℕ) (xs : List ℕ) (b : ℕ) (ys : List ℕ) → drop s xs ≡ b ∷ ys → drop (s + 1) xs ≡ ys
drop_one s xs b ys h =
    let same : suc s ≡ s + 1 = omega arith in
    subst (λ (n : ℕ). drop n xs ≡ ys) same (drop_next s xs b ys h)

drop_more : (s : ℕ) (xs fs ys : List ℕ) → drop s xs ≡ fs ++ ys → drop (s + length fs) xs ≡ ys
drop_more s xs [] ys h =
    let same : s ≡ s + 0 = omega arith in
    subst (λ (n : ℕ). drop n xs ≡ ys) same h
drop_more s xs (f ∷ fs) ys h =
    let same : (s + 1) + length fs ≡ s + length (f ∷ fs) = omega arith in
    subst (λ (n : ℕ). drop n xs ≡ ys) same (drop_more (s + 1) xs fs ys (drop_one s xs f (fs ++ ys) h))

-- units may be passed: they may look at a byte, print any text, and each may be followed by another one
abbrev MayPass : PegSettings → Type 0
MayPass settings = (0 < settings.limit) × (settings.options.whole ≡ false) × (settings.options.budget ≡ None)

module _ (g : Grammar) (settings : PegSettings) (input : Input) (units : ByteUnits)
    (are : AreByteUnits g settings.options.style units) (room : MayPass settings) where
  abbrev UnitsTo : ℕ → List ℕ → Type 0
  UnitsTo s text = Units (rules_of g.rules) g.start settings input s text

  abbrev count_of : {s : ℕ} {text : List ℕ} → UnitsTo s text → ℕ
  count_of it = unit_count (rules_of g.rules) g.start settings input it

  unit_is : (s b : ℕ) (rest text : List ℕ) → drop s input.bytes ≡ b ∷ rest → text_by units b ≡ Some text
      → (input.fault ≡ true → s + settings.limit + 1 ≤ length input.bytes)
      → IsUnit (rules_of g.rules) g.start settings input s 1 text
  unit_is s b rest text here known may =
      let unit = are b text known rest in
      record {
        events = unit.0;
        gives = record {
          goes = rw room.1 refl;
          may_run = λ f. inl (may f);
          looked = unit.1;
          gives = rw here unit.2;
          within = omega (arith, unit.3, room.0);
        };
        prints = unit.4 ∙ ap (λ x. text_of settings.options.style x unit.0) (sym here);
        within = rw room.2 tt;
      }

  record More (s n : ℕ) (before text : List ℕ) (units0 : UnitsTo s before) : Type 0 where
    position : ℕ
    whole : List ℕ
    later : UnitsTo position whole
    at : position ≡ s + n
    is : whole ≡ before ++ text
    count : count_of later ≡ count_of units0 + n

  more_units : (bytes : List ℕ) (s : ℕ) (tail : List ℕ) → drop s input.bytes ≡ bytes ++ tail → AllKnown units bytes →
      (input.fault ≡ true → 0 < length bytes → s + length bytes + settings.limit ≤ length input.bytes) →
      (before : List ℕ) (units0 : UnitsTo s before) → More s (length bytes) before (texts_of units bytes) units0
  more_units [] s tail here known may before units0 = record {
    position = s;
    whole = before;
    later = units0;
    at = omega arith;
    is = sym (append-nil before);
    count = omega arith;
  }
  more_units (b ∷ bytes) s tail here (one, known) may before units0 =
      let unit = unit_is s b (bytes ++ tail) one.0 here one.1 (λ f. let m = may f (omega arith) in omega (arith, m)) in
      let later : UnitsTo (s + 1) (before ++ one.0) = one_more s 1 before one.0 units0 unit (omega arith) in
      let next = more_units bytes (s + 1) tail (drop_one s input.bytes b (bytes ++ tail) here) known
      (λ f some. let m = may f (omega arith) in omega (arith, m)) (before ++ one.0) later in
      record {
        position = next.position;
        whole = next.whole;
        later = next.later;
        at = omega (arith, next.at);
        is = next.is ∙ append_assoc before one.0 (texts_of units bytes)
            ∙ ap (λ o. before ++ (unwrap_or o [] ++ texts_of units bytes)) (sym one.1);
        count = let c = next.count in omega (arith, c);
      }

  moved_to : (position s : ℕ) (whole text : List ℕ) (later : UnitsTo position whole) (n : ℕ) → position ≡ s → whole
      ≡ text
      → count_of later ≡ n → (l : UnitsTo s text) × (count_of l ≡ n)
  moved_to position s whole text later n at is c =
      subst (λ (p : ℕ). (l : UnitsTo p text) × (count_of l ≡ n)) at
      (subst (λ (w : List ℕ). (l : UnitsTo position w) × (count_of l ≡ n)) is (later, c))

  goes_on : (bytes : List ℕ) (s : ℕ) (tail : List ℕ) → drop s input.bytes ≡ bytes ++ tail → AllKnown units bytes →
      (input.fault ≡ true → 0 < length bytes → s + length bytes + settings.limit ≤ length input.bytes) →
      GoesOn (rules_of g.rules) g.start settings input s (length bytes) (texts_of units bytes)
  goes_on bytes s tail here known may before units0 =
      let m = more_units bytes s tail here known may before units0 in
      moved_to m.position (s + length bytes) m.whole (before ++ texts_of units bytes) m.later _ m.at m.is m.count

  -- the first bytes that are held are such units, and enough bytes follow them
  module _ (before held : List ℕ) {flow : Flow} (agrees : Agrees (before ++ held) flow input) (bytes tail : List ℕ)
      (are_first : held ≡ bytes ++ tail) (known : AllKnown units bytes)
      (may : input.fault ≡ true → 0 < length bytes → length bytes + settings.limit ≤ length held) where
    at_position : drop (length before) input.bytes ≡ bytes ++ (tail ++ agrees.more)
    at_position = rest_is before held refl agrees ∙ ap (λ t. t ++ agrees.more) are_first
        ∙ append_assoc bytes tail agrees.more

    may_there : input.fault ≡ true → 0 < length bytes
        → length before + length bytes + settings.limit ≤ length input.bytes
    may_there f some =
        let m = may f some in let l = bytes_len before held refl agrees in omega (arith, m, l)

    pub units_pass : GoesOn (rules_of g.rules) g.start settings input (length before) (length bytes)
        (texts_of units bytes)
    units_pass = goes_on bytes (length before) (tail ++ agrees.more) at_position known may_there

    -- the writer failed: the last of them is not written whole, for all that is known
    pub pass_fails : (old new : Option (List ℕ)) (fault : WriteFault) → AppendsPart old new (texts_of units bytes) →
        ((n : ℕ) → length bytes ≡ suc n
        → length (before ++ held) ≤ taken_at settings input (length before + n)) →
        HasComeTo (rules_of g.rules) g.start settings input (length before) (length (before ++ held)) old new
        (Err fault)
    pass_fails old new fault part taken =
        let last = last_of bytes (some_text bytes refl) in
        let front = last.0 in
        let b = last.1 in
        let l : length bytes ≡ suc (length front) =
        ap length last.2 ∙ length-append front (b ∷ []) ∙ omega arith in
        let all = (rw last.2 at known) in
        let one = (known_after units front (b ∷ []) all).0 in
        let here = at_position ∙ ap (λ t. t ++ (tail ++ agrees.more)) last.2
        ∙ append_assoc front (b ∷ []) (tail ++ agrees.more) in (
          length front,
          texts_of units front,
          one.0,
          goes_on front (length before) ((b ∷ []) ++ (tail ++ agrees.more)) here (known_before units front (b ∷ []) all)
              (λ f some. let m = may_there f (omega (arith, l)) in omega (arith, m, l)),
          unit_is (length before + length front) b (tail ++ agrees.more) one.0
              (drop_more (length before) input.bytes front (b ∷ (tail ++ agrees.more)) here) one.1
              (λ f. let m = may_there f (omega (arith, l)) in omega (arith, m, l)),
          subst (AppendsPart old new) (texts_split front b one.0 last.2 one.1) part,
          taken (length front) l,
        )
      where
        some_text : (xs : List ℕ) → xs ≡ bytes → 0 < length bytes
        some_text [] e = absurd (let p = (rw (sym e) at part) in no_part p)
          where
            no_part : AppendsPart old new [] → ⊥
            no_part p = omega (arith, p.1.1)
        some_text (x ∷ xs) e = let k = ap length e in omega (arith, k)

        texts_split : (front : List ℕ) (b : ℕ) (text : List ℕ) → bytes ≡ front ++ (b ∷ []) → text_by units b ≡ Some text
            → texts_of units bytes ≡ texts_of units front ++ text
        texts_split front b text is e =
            ap (texts_of units) is
            ∙ flat_map-append (λ c. unwrap_or (text_by units c) []) front (b ∷ [])
            ∙ ap (λ o. texts_of units front ++ (unwrap_or o [] ++ [])) e
            ∙ ap (λ t. texts_of units front ++ t) (append-nil text)

moved_units : (rules : List Rule) (start : ℕ) (settings : PegSettings) (input : Input) (s : ℕ) (text : List ℕ)
    (it : Units rules start settings input s text) → (later : Units rules start settings input (s + 0) (text ++ []))
    × (unit_count rules start settings input later ≡ unit_count rules start settings input it + 0)
moved_units rules start settings input s text it =
    let same : s ≡ s + 0 = omega arith in
    subst (λ (n : ℕ). (l : Units rules start settings input n (text ++ []))
    × (unit_count rules start settings input l ≡ unit_count rules start settings input it + 0)) same
    (subst (λ (w : List ℕ). (l : Units rules start settings input s w)
    × (unit_count rules start settings input l ≡ unit_count rules start settings input it + 0)) (sym (append-nil text))
    (it, omega arith))

-- what the feed is after so many bytes were let go, and after it was filled
module _ {R : Type 0} (remaining : R → Option (List ℕ)) (units : ByteUnits) (settings : PegSettings) (f0 f1 f2 : Feed R)
    (bytes : List ℕ) (some : 0 < length bytes) (first : IsPrefixOf bytes (bytes_of f0))
    (are_known : prefix_len (is_known units) bytes ≡ length bytes) (count : ℕ) (is_count : count ≡ length bytes)
    (room : MayPass settings) (waits : runs_at_lines settings ≡ false) (capacity : capacity_of f0 ≡ settings.limit + 1)
    (skip_bytes : bytes_of f1 ≡ drop (count - 1) (bytes_of f0)) (skip_reader : reader_of f1 ≡ reader_of f0)
    (skip_flow : flow_of f1 ≡ flow_of f0) (skip_allowance : allowance_of f1 ≡ allowance_of f0)
    (skip_capacity : capacity_of f1 ≡ capacity_of f0) (grows : Grows remaining f1 f2) (why : Held)
    (is_held : IsHeld f2 why) where
  abbrev m : ℕ
  m = count - 1

  len_is : length bytes ≡ suc m
  len_is = omega (arith, some, is_count)

  all_known : AllKnown units bytes
  all_known = subst (AllKnown units) (take_all (length bytes) bytes (omega arith))
      (known_front units bytes (length bytes) (omega (arith, are_known)))

  abbrev run : ℕ
  run = can_run why count (length (bytes_of f2)) settings.limit

  abbrev all : List ℕ
  all = bytes_of f0 ++ grows.more

  abbrev tail : List ℕ
  tail = drop run bytes ++ (first.0 ++ grows.more)

  many_held : suc m ≤ length (bytes_of f0)
  many_held = let l = ap length first.1 in omega (arith, l, length-append bytes first.0, len_is)

  now_held : bytes_of f2 ≡ drop m (bytes_of f0) ++ grows.more
  now_held = grows.bytes ∙ ap (λ t. t ++ grows.more) skip_bytes

  all_is : all ≡ take m (bytes_of f0) ++ bytes_of f2
  all_is =
      ap (λ t. t ++ grows.more) (sym (take-append-drop m (bytes_of f0)))
      ∙ append_assoc (take m (bytes_of f0)) (drop m (bytes_of f0)) grows.more
      ∙ ap (λ t. take m (bytes_of f0) ++ t) (sym now_held)

  gone_len : length (take m (bytes_of f0)) ≡ m
  gone_len = length-take-le m (bytes_of f0) (omega (arith, many_held))

  all_len : length all ≡ m + length (bytes_of f2)
  all_len = ap length all_is ∙ length-append (take m (bytes_of f0)) (bytes_of f2)
      ∙ ap (λ n. n + length (bytes_of f2)) gone_len

  some_held : 0 < length (bytes_of f2)
  some_held = omega (arith, all_len, many_held, length-append (bytes_of f0) grows.more)

  full_is : capacity_of f2 ≡ settings.limit + 1
  full_is = grows.capacity ∙ skip_capacity ∙ capacity

  run_within : (h : Held) → IsHeld f2 h → can_run h count (length (bytes_of f2)) settings.limit ≤ count
  run_within Full held = omega arith
  run_within End held = omega arith
  run_within Fault held = let l = held.1 in omega (arith, l, full_is, some, is_count)

  run_len : length (take run bytes) ≡ run
  run_len = length-take-le run bytes (omega (arith, run_within why is_held, is_count))

  all_first : all ≡ take run bytes ++ tail
  all_first =
      ap (λ t. t ++ grows.more) (first.1 ∙ ap (λ t. t ++ first.0) (sym (take-append-drop run bytes)))
      ∙ append_assoc (take run bytes ++ drop run bytes) first.0 grows.more
      ∙ append_assoc (take run bytes) (drop run bytes) (first.0 ++ grows.more)

  agrees_before : (before : List ℕ) (input : Input) → Agrees (before ++ all) (flow_of f2) input
      → Agrees (before ++ bytes_of f0) (flow_of f0) input
  agrees_before before input agrees =
      let there : (before ++ take m (bytes_of f0)) ++ bytes_of f2 ≡ before ++ all =
      append_assoc before (take m (bytes_of f0)) (bytes_of f2) ∙ ap (λ t. before ++ t) (sym all_is) in
      let was : (before ++ take m (bytes_of f0)) ++ bytes_of f1 ≡ before ++ bytes_of f0 =
      ap (λ t. (before ++ take m (bytes_of f0)) ++ t) skip_bytes ∙ slides-bytes before (bytes_of f0) m in
      let a = agrees_earlier remaining f1 f2 grows (before ++ take m (bytes_of f0)) input
      (subst (λ t. Agrees t (flow_of f2) input) (sym there) agrees) in
      subst (λ f. Agrees (before ++ bytes_of f0) f input) skip_flow
      (subst (λ t. Agrees t (flow_of f1) input) was a)

  module _ (g : Grammar) (before : List ℕ) (input : Input) (are : AreByteUnits g settings.options.style units)
      (agrees : Agrees (before ++ all) (flow_of f2) input) where
    whole_len : length input.bytes ≡ length before + (length all + length agrees.more)
    whole_len = bytes_len before all refl agrees

    seen_len : length (before ++ all) ≡ length before + (m + length (bytes_of f2))
    seen_len = length-append before all ∙ ap (λ n. length before + n) all_len

    enough_follow : (h : Held) → IsHeld f2 h → input.fault ≡ true → (n : ℕ) → 0 < n
        → n ≤ can_run h count (length (bytes_of f2)) settings.limit → n + settings.limit ≤ length all
    enough_follow Full held fault n some le = omega (arith, le, held, full_is, all_len)
    enough_follow End held fault n some le = absurd (let no = (agrees.ended held.0).1 in cc (no, fault))
    enough_follow Fault held fault n some le = omega (arith, le, some, all_len)

    may_run : input.fault ≡ true → 0 < length (take run bytes)
        → length (take run bytes) + settings.limit ≤ length all
    may_run fault some = enough_follow why is_held fault (length (take run bytes)) some (omega (arith, run_len))

    run_goes_on : GoesOn (rules_of g.rules) g.start settings input (length before) run
        (texts_of units (take run bytes))
    run_goes_on = subst
        (λ n. GoesOn (rules_of g.rules) g.start settings input (length before) n (texts_of units (take run bytes)))
        run_len (units_pass g settings input units are room before all agrees (take run bytes) tail all_first
        (known_part units bytes run all_known) may_run)

    taken_by : (h : Held) → IsHeld f2 h → (k : ℕ) → can_run h count (length (bytes_of f2)) settings.limit ≡ suc k →
        length (before ++ all) ≡ taken_at settings input (length before + k)
    taken_by Full held k is =
        let e : length (before ++ all) ≡ length before + k + settings.limit + 1 =
        omega (arith, seen_len, held, full_is, is) in
        e ∙ sym (min-eq_right (omega (arith, e, seen_len, whole_len, all_len)))
    taken_by End held k is =
        let none = ap length (agrees.ended held.0).0 in
        let l = held.1 in
        let e : length (before ++ all) ≡ length input.bytes = omega (arith, seen_len, whole_len, all_len, none) in
        e ∙ sym (min-eq_left (omega (arith, e, seen_len, is, l, full_is)))
    taken_by Fault held k is =
        let none = ap length (agrees.broken held.0).0 in
        let e : length (before ++ all) ≡ length input.bytes = omega (arith, seen_len, whole_len, all_len, none) in
        e ∙ sym (min-eq_left (omega (arith, e, seen_len, is)))

    fails_so : (was is : Option (List ℕ)) (fault : WriteFault) → AppendsPart was is (texts_of units (take run bytes)) →
        HasComeTo (rules_of g.rules) g.start settings input (length before) (length (before ++ all)) was is (Err fault)
    fails_so was is fault part =
        pass_fails g settings input units are room before all agrees (take run bytes) tail all_first
        (known_part units bytes run all_known) may_run was is fault part
        (λ k e. let took = taken_by why is_held k (sym run_len ∙ e) in omega (arith, took))

    ends_so : (h : Held) → IsHeld f2 h → can_run h count (length (bytes_of f2)) settings.limit < count
        → Ends (rules_of g.rules) g.start settings input
        (length before + can_run h count (length (bytes_of f2)) settings.limit) [] stop.Broken
        × (length (before ++ all)
        ≡ taken_at settings input (length before + can_run h count (length (bytes_of f2)) settings.limit))
    ends_so Full held few = absurd (omega (arith, few))
    ends_so End held few = absurd (omega (arith, few))
    ends_so Fault held few =
        let last = agrees.broken held.0 in
        let none = ap length last.0 in
        let e : length (before ++ all) ≡ length input.bytes = omega (arith, seen_len, whole_len, all_len, none) in (
          broken last.1 (omega (arith, e, seen_len)) (λ lines is. cc (waits, lines)),
          e ∙ sym (min-eq_left (omega (arith, e, seen_len))),
        )

  -- the writer failed
  pub passed_to_write_fault : (was is : Option (List ℕ)) (fault : WriteFault) (n : ℕ) → n ≡ run
      → AppendsPart was is (texts_of units (take n bytes)) → HasPassed remaining units settings f0 f2 was is (Err fault)
  passed_to_write_fault was is fault n e part = record {
    gone = take m (bytes_of f0);
    more = grows.more;
    bytes = all_is;
    gives = subst (λ r. Consumes (remaining r) (remaining (reader_of f2)) grows.more) skip_reader grows.gives;
    allowance = grows.allowance ∙ skip_allowance;
    capacity = grows.capacity ∙ skip_capacity;
    count = tt;
    earlier = agrees_before;
    follows = λ g before input are agrees. fails_so g before input are agrees was is fault
        (subst (λ k. AppendsPart was is (texts_of units (take k bytes))) e part);
  }

  -- the reader failed
  pub passed_to_fault : (was is : Option (List ℕ)) (n : ℕ) → n ≡ run → n < count
      → Appends was is (texts_of units (take n bytes)) → HasPassed remaining units settings f0 f2 was is (Ok Broken)
  passed_to_fault was is n e few wrote = record {
    gone = take m (bytes_of f0);
    more = grows.more;
    bytes = all_is;
    gives = subst (λ r. Consumes (remaining r) (remaining (reader_of f2)) grows.more) skip_reader grows.gives;
    allowance = grows.allowance ∙ skip_allowance;
    capacity = grows.capacity ∙ skip_capacity;
    count = tt;
    earlier = agrees_before;
    follows = λ g before input are agrees.
        let ends = ends_so g before input are agrees why is_held (omega (arith, e, few)) in (
          run,
          texts_of units (take run bytes),
          run_goes_on g before input are agrees,
          subst (λ k. Appends was is (texts_of units (take k bytes))) e wrote,
          ends.0,
          ends.1,
        );
  }

  -- all were run, and the last of them is let go too
  pub passed_all : (f3 : Feed R) → bytes_of f3 ≡ drop 1 (bytes_of f2) → reader_of f3 ≡ reader_of f2
      → flow_of f3 ≡ flow_of f2 → allowance_of f3 ≡ allowance_of f2 → capacity_of f3 ≡ capacity_of f2
      → (was is : Option (List ℕ)) (n : ℕ) → n ≡ run → count ≤ n
      → Appends was is (texts_of units (take n bytes)) →
      HasPassed remaining units settings f0 f3 was is (Ok (Passes count))
  passed_all f3 last_bytes last_reader last_flow last_allowance last_capacity was is n e whole wrote =
      let run_is : run ≡ count = omega (arith, whole, e, run_within why is_held) in
      record {
        gone = take m (bytes_of f0) ++ take 1 (bytes_of f2);
        more = grows.more;
        bytes = all_is
            ∙ ap (λ t. take m (bytes_of f0) ++ t) (sym (take-append-drop 1 (bytes_of f2)))
            ∙ sym (append_assoc (take m (bytes_of f0)) (take 1 (bytes_of f2)) (drop 1 (bytes_of f2)))
            ∙ ap (λ t. (take m (bytes_of f0) ++ take 1 (bytes_of f2)) ++ t) (sym last_bytes);
        gives = subst (λ r. Consumes (remaining (reader_of f0)) (remaining r) grows.more) (sym last_reader)
            (subst (λ r. Consumes (remaining r) (remaining (reader_of f2)) grows.more) skip_reader grows.gives);
        allowance = ap (λ n. n + length grows.more) last_allowance ∙ grows.allowance ∙ skip_allowance;
        capacity = last_capacity ∙ grows.capacity ∙ skip_capacity;
        count = omega (
          arith,
          length-append (take m (bytes_of f0)) (take 1 (bytes_of f2)),
          gone_len,
          length-take-le 1 (bytes_of f2) (omega (arith, some_held)),
          len_is,
          is_count,
        );
        earlier = λ before input agrees.
            agrees_before before input (subst (λ f. Agrees (before ++ all) f input) last_flow agrees);
        follows = λ g before input are agrees. (
          texts_of units (take run bytes),
          subst
              (λ n. GoesOn (rules_of g.rules) g.start settings input (length before) n
              (texts_of units (take run bytes))) run_is
              (run_goes_on g before input are (subst (λ f. Agrees (before ++ all) f input) last_flow agrees)),
          subst (λ k. Appends was is (texts_of units (take k bytes))) e wrote,
        );
      }

-- no unit was run
pub nothing_passed : {R : Type 0} (remaining : R → Option (List ℕ)) (units : ByteUnits) (settings : PegSettings)
    (f : Feed R) (out : Option (List ℕ)) → HasPassed remaining units settings f f out out (Ok (Passes 0))
nothing_passed remaining units settings f out = record {
  gone = [];
  more = [];
  bytes = append-nil (bytes_of f);
  gives = Consumes-same (remaining (reader_of f));
  allowance = omega arith;
  capacity = refl;
  count = refl;
  earlier = λ before input agrees.
      subst (λ t. Agrees (before ++ t) (flow_of f) input) (append-nil (bytes_of f)) agrees;
  follows = λ g before input are agrees. (
    [],
    λ text it. moved_units (rules_of g.rules) g.start settings input (length before) text it,
    Appends-same out,
  );
}

-- the first of the bytes of a first piece
pub kept_first : (bytes piece held : List ℕ) (k n : ℕ) → bytes ≡ take k (take n piece) → IsPrefixOf piece held
    → IsPrefixOf bytes held
kept_first bytes piece held k n is first =
    rw is (IsPrefixOf-trans (take k (take n piece)) (take n piece) held (IsPrefixOf-take k (take n piece))
    (IsPrefixOf-trans (take n piece) piece held (IsPrefixOf-take n piece) first))

prefix_take : (p : ℕ → Bool) (xs : List ℕ) (n : ℕ) → n ≤ prefix_len p xs → prefix_len p (take n xs) ≡ n
prefix_take p [] zero le = refl
prefix_take p [] (suc n) le = absurd (omega (arith, le))
prefix_take p (x ∷ xs) zero le = refl
prefix_take p (x ∷ xs) (suc n) le = by_first (p x) refl (λ less. prefix_take p xs n less)
  where
    by_first : (b : Bool) → p x ≡ b → (n ≤ prefix_len p xs → prefix_len p (take n xs) ≡ n)
        → prefix_len p (x ∷ take n xs) ≡ suc n
    by_first false e ih = absurd (let no : suc n ≤ 0 = (rw e at le) in omega (arith, no))
    by_first true e ih =
        let less : suc n ≤ 1 + prefix_len p xs = (rw e at le) in
        let rest = ih (omega (arith, less)) in
        rw e (omega (arith, rest))

-- they are all known
pub kept_known : (units : ByteUnits) (front : List ℕ) (count : ℕ) (bytes : List ℕ)
    → count ≡ prefix_len (is_known units) front → count ≤ length front → bytes ≡ take count front
    → prefix_len (is_known units) bytes ≡ length bytes
kept_known units front count bytes is within taken =
    rw taken (prefix_take (is_known units) front count (omega (arith, is)) ∙ sym (length-take-le count front within))
