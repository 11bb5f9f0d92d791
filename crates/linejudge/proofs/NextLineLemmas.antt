-- What was found in a window stands in every input of which so much has been seen.
-- Serves: next_line (follows, still, filled, fits, short), run_lines
use Rattle.std.proofs.Common.{◌≡◌, ◌≢◌, ℕ, suc, ◌+◌, ◌<◌, ◌≤◌, ◌==◌, Bool, true, false, Some, None, List, [], ◌∷◌, ◌++◌}
use Rattle.std.proofs.Common.{length, drop, take, refl, sym, ◌∙◌, ap, arith, append_assoc, length-append, length-take}
use Rattle.std.proofs.Common.{Option, append-nil, inl, inr, get_or, drop-cons, if◌then◌else◌}
use Rattle.std.proofs.Math.Seq.{drop-append_seam}
use Rattle.std.proofs.lemmas.Bool.{eqb-true, eq-eqb}
use Rattle.std.proofs.lemmas.Bool.Decides.{nat_tests}
use Rattle.std.proofs.lemmas.Grind.{common_steps}
use Rattle.std.proofs.lemmas.List.{get_or-take, take-append-drop, take-append-le}
use Rattle.std.proofs.lemmas.List.Elements.{All-from_get_or, All-get_or}
use Rattle.memchr.specs.Find.{IsFirstByte, Nowhere, NoneBefore, is_byte, Passes}
use Rattle.ruletable.proofs.AppendsLemmas.{Consumes-join}
use Rattle.feed.proofs.GrowsLemmas.{Consumes-same}
use Rattle.feed.specs.Feed.{Grows, IsHeld, SameFeed, bytes_of, capacity_of, flow_of}
use Rattle.feed.specs.declared.feed.Feed.{Feed}
use Rattle.feed.specs.declared.held.Flow.TheVariants.{Ended}
use Rattle.feed.specs.declared.held.Held.{Held}
use Rattle.feed.specs.declared.held.Held.TheVariants as held
use Rattle.toolrun.specs.Agrees.{Agrees}
use Rattle.toolrun.specs.Input.{Input}
use Rattle.toolrun.proofs.AgreesLemmas.{rest_held, rest_is, taken_end, taken_full, window_is}
use Rattle.linejudge.specs.InputLines.{HasNoEnd, IsNext, IsShort, LiesWithin, line_without, taken_at}
use Rattle.linejudge.specs.declared.line.Line.TheVariants as line
use Rattle.linejudge.specs.declared.line.LineForm.{LineForm}

nil_of : (xs : List ℕ) → length xs ≡ 0 → xs ≡ []
nil_of [] e = refl
nil_of (x ∷ xs) e = absurd (omega arith)

-- a feed that stays as it was
pub grows_none : {R : Type 0} {remaining : R → Option (List ℕ)} (f : Feed R) → Grows remaining f f
grows_none f = record {
  more = [];
  bytes = sym (append-nil (bytes_of f));
  gives = Consumes-same _;
  allowance = omega arith;
  capacity = refl;
  stays = inr (refl, refl, refl);
}

-- a feed that grew twice
pub grows_twice : {R : Type 0} {remaining : R → Option (List ℕ)} (f g h : Feed R) → Grows remaining f g
    → Grows remaining g h → Grows remaining f h
grows_twice f g h first then_ = record {
  more = first.more ++ then_.more;
  bytes = then_.bytes ∙ ap (λ t. t ++ then_.more) first.bytes ∙ append_assoc (bytes_of f) first.more then_.more;
  gives = Consumes-join _ _ _ first.more then_.more first.gives then_.gives;
  allowance = omega (arith, first.allowance, then_.allowance, length-append first.more then_.more);
  capacity = then_.capacity ∙ first.capacity;
  stays = elim first.stays [
    | inl may ↦ inl may
    | inr same ↦ elim then_.stays [
      | inl may ↦ inl (sym same.0 ∙ may)
      | inr still ↦ inr (still.0 ∙ same.0, rw (same.1, still.1) refl, still.2 ∙ same.2)
    ]
  ];
}

pub same_feed : {R : Type 0} (f : Feed R) → SameFeed f f
same_feed f = record {
  bytes = refl;
  capacity = refl;
  flow = refl;
  allowance = refl;
  reader = refl;
  loan = refl;
}

-- where no end was found
pub none_found : (end : ℕ) (xs : List ℕ) → Nowhere (Passes (is_byte end) xs) 0 (length xs) → HasNoEnd end xs
none_found end xs h = All-from_get_or (λ b. b ≢ end) xs 0
    (λ i lt is. h i (omega arith) lt (rw is (eq-eqb end end refl)))

-- where the first one was found
pub first_found : (end n : ℕ) (xs : List ℕ) → NoneBefore (Passes (is_byte end) xs) 0 (length xs) n
    → Passes (is_byte end) xs n →
    (xs ≡ take n xs ++ end ∷ drop (suc n) xs) × HasNoEnd end (take n xs) × (length (take n xs) ≡ n)
first_found end n xs before found =
    let l = length-take n xs in
    let inside : n < length xs = omega (arith, before.high) in
    let here : get_or xs n 0 ≡ end = grind (arith, nat_tests, found) in (
      sym (take-append-drop n xs) ∙ ap (λ t. take n xs ++ t)
          (drop-cons xs n 0 inside ∙ ap (λ b. b ∷ drop (suc n) xs) here),
      All-from_get_or (λ b. b ≢ end) (take n xs) 0 (λ i lt eq.
          let low : i < n = omega arith in
          let same : get_or xs i 0 ≡ end = sym (get_or-take n xs i 0 low) ∙ eq in
          before.before i (omega arith) low (rw same (eq-eqb end end refl))),
      omega arith,
    )

-- where one was found, there is one
pub found_has_end : (end k : ℕ) (xs : List ℕ) → IsFirstByte (is_byte end) xs (Some k) → HasNoEnd end xs → ⊥
found_has_end end k xs (before, found) none =
    let here : get_or xs k 0 ≡ end = grind (arith, nat_tests, found) in
    All-get_or (λ b. b ≢ end) xs k 0 (omega (arith, before.high)) none here

-- what is held is a prefix of the rest
pub held_front : (before items : List ℕ) (more bytes : List ℕ) (k start : ℕ) → bytes ≡ (before ++ items) ++ more
    → length before ≡ start → k ≤ length items →
    take k items ≡ take k (drop start bytes)
held_front before items more bytes k start is here le =
    rw (is, append_assoc before items more, ← here, drop-append_seam before (items ++ more))
    (sym (take-append-le k items more le))

module _ {R : Type 0} (f : Feed R) (form : LineForm) (before : List ℕ) (input : Input)
    (room : capacity_of f ≡ form.limit + 1) (fits : length (bytes_of f) ≤ capacity_of f)
    (agrees : Agrees (before ++ bytes_of f) (flow_of f) input) where
  abbrev items : List ℕ
  items = bytes_of f

  abbrev rest : List ℕ
  rest = drop (length before) input.bytes

  abbrev Taken : Type 0
  Taken = length (before ++ items) ≡ taken_at form.limit input (length before)

  -- no more than that is held
  pub held_within : length (before ++ items) ≤ taken_at form.limit input (length before)
  held_within =
      let all = ap length agrees.bytes in
      omega (arith, all, length-append (before ++ items) agrees.more, length-append before items, fits, room)

  taken_all : agrees.more ≡ [] → Taken
  taken_all none = taken_end before items refl agrees form.limit none (omega (arith, fits, room))

  pub held_taken : (held : Held) → IsHeld f held → Taken
  held_taken held.Full full = taken_full before items refl agrees form.limit (omega (arith, full, room))
  held_taken held.End ended = taken_all (agrees.ended ended.0).0
  held_taken held.Fault broken = taken_all (agrees.broken broken.0).0

  -- an end was found
  pub line_found : (k : ℕ) → IsFirstByte (is_byte form.end) items (Some k)
      → IsNext form input (length before) (line.Whole k)
  line_found k (first, here) =
      let high : k < length items = omega (arith, first.high) in
      let is = first_found form.end k items first here in
      let front : take k rest ≡ take k items = rw (rest_is before items refl agrees)
      (take-append-le k items agrees.more (omega (arith, high))) in
      rw front (
        record {
          after = drop (suc k) items ++ agrees.more;
          cut = rest_is before items refl agrees ∙ ap (λ t. t ++ agrees.more) is.0
              ∙ append_assoc (take k items) (form.end ∷ drop (suc k) items) agrees.more;
          one = is.1;
          within = omega (arith, is.2, high, fits, room);
        },
        is.2,
      )

  -- none was
  module _ (none : IsFirstByte (is_byte form.end) items None) where
    last_piece : (b : Bool) → (length items == 0) ≡ b → flow_of f ≡ Ended → length items ≤ form.limit →
        IsNext form input (length before) (if b then line.End else line.Last (length items))
    last_piece true e ended short =
        let a = agrees.ended ended in
        (rest_held before items refl agrees a.0 ∙ nil_of items (eqb-true (length items) 0 e), a.1)
    last_piece false e ended short =
        let a = agrees.ended ended in
        let same = rest_held before items refl agrees a.0 in
        let some : 0 < length items = grind (arith, common_steps, e) in
        (rw same (none_found form.end items none, some, short, a.1), ap length same)

    pub not_found : (held : Held) → IsHeld f held → IsNext form input (length before)
        (line_without held (length items))
    not_found held.Full full =
        let e : length items ≡ suc form.limit = omega (arith, full, room) in
        let window : take (suc form.limit) rest ≡ items = window_is before items refl agrees (suc form.limit) e in
        let l = ap length (rest_is before items refl agrees) in
        (rw window (none_found form.end items none), omega (arith, e, l, length-append items agrees.more))
    not_found held.End ended = last_piece (length items == 0) refl ended.0 (let lt = ended.1 in omega (arith, lt, room))
    not_found held.Fault broken =
        let a = agrees.broken broken.0 in
        let same = rest_held before items refl agrees a.0 in
        let lt = broken.1 in
        (rw same (none_found form.end items none), rw same (omega (arith, lt, room)), a.1)

-- a last piece is all that is held
last_fits : (len : ℕ) (b : Bool) → (len == 0) ≡ b → LiesWithin len (if b then line.End else line.Last len)
last_fits len true e = tt
last_fits len false e =
    let some : 0 < len = grind (arith, common_steps, e) in
    (some, omega arith)

pub without_fits : (held : Held) (len : ℕ) → LiesWithin len (line_without held len)
without_fits held.Full len = tt
without_fits held.End len = last_fits len (len == 0) refl
without_fits held.Fault len = tt

-- a last piece leaves room for a byte
last_short : (room len : ℕ) (b : Bool) → len < room → IsShort room (if b then line.End else line.Last len)
last_short room len true lt = tt
last_short room len false lt = lt

pub without_short : {R : Type 0} (f : Feed R) (held : Held) → IsHeld f held →
    IsShort (capacity_of f) (line_without held (length (bytes_of f)))
without_short f held.Full full = tt
without_short f held.End ended = last_short (capacity_of f) (length (bytes_of f)) (length (bytes_of f) == 0) ended.1
without_short f held.Fault broken = tt
