-- How inputs agree with what was seen, as more is seen and as a window slides.
-- Serves: run_peg (right)
use Rattle.std.proofs.Common.{◌≡◌, ℕ, ◌+◌, ◌<◌, ◌≤◌, min, Bool, true, false, Option, Some, None, List, [], ◌++◌}
use Rattle.std.proofs.Common.{length, take, drop, refl, sym, ◌∙◌, ap, subst, arith, inl, inr, nat_lt, append_assoc}
use Rattle.std.proofs.Common.{length-append, length-take, if◌then◌else◌}
use Rattle.std.proofs.Math.Nat.{min-eq_left, min-eq_right}
use Rattle.std.proofs.Math.Seq.{take-append-add, take-append_seam, drop-append_seam}
use Rattle.std.proofs.lemmas.Bool.{cases_lt}
use Rattle.std.proofs.lemmas.Grind.{common_steps}
use Rattle.std.proofs.lemmas.List.{append-nil, take-append-drop}
use Rattle.std.specs.Io.KnownBytes.{Consumes}
use Rattle.ruletable.proofs.AppendsLemmas.{Consumes-join}
use Rattle.feed.specs.Feed.{Grows, IsReportedBy, bytes_of, flow_of, input_limit, reader_of}
use Rattle.feed.specs.declared.feed.Feed.{Feed}
use Rattle.feed.specs.declared.held.Flow.{Flow}
use Rattle.feed.specs.declared.held.Flow.TheVariants.{Open, Ended, Broken}
use Rattle.toolrun.specs.Agrees.{Agrees}
use Rattle.toolrun.specs.Input.{Input, input_from, bounded}

-- what is seen when more was read
module _ {R : Type 0} (remaining : R → Option (List ℕ)) (old new : Feed R) (grows : Grows remaining old new)
    (before : List ℕ) where
  bytes_longer : (before ++ bytes_of old) ++ grows.more ≡ before ++ bytes_of new
  bytes_longer = append_assoc before (bytes_of old) grows.more ∙ ap (λ t. before ++ t) (sym grows.bytes)

  pub agrees_earlier : (input : Input) → Agrees (before ++ bytes_of new) (flow_of new) input
      → Agrees (before ++ bytes_of old) (flow_of old) input
  agrees_earlier input agrees = record {
    more = grows.more ++ agrees.more;
    bytes = agrees.bytes ∙ ap (λ t. t ++ agrees.more) (sym bytes_longer)
        ∙ append_assoc (before ++ bytes_of old) grows.more
        agrees.more;
    ended = λ e. elim grows.stays [
      | inl was ↦ absurd (cc)
      | inr same ↦ let a = agrees.ended (same.0 ∙ e) in (rw (same.1, a.0) refl, a.1)
    ];
    broken = λ e. elim grows.stays [
      | inl was ↦ absurd (cc)
      | inr same ↦ let a = agrees.broken (same.0 ∙ e) in (rw (same.1, a.0) refl, a.1)
    ];
  }

  pub seen_more : (first : Option (List ℕ)) → Consumes first (remaining (reader_of old)) (before ++ bytes_of old)
      → Consumes first (remaining (reader_of new)) (before ++ bytes_of new)
  seen_more first c =
      subst (λ (t : List ℕ). Consumes first (remaining (reader_of new)) t) bytes_longer
      (Consumes-join first (remaining (reader_of old)) (remaining (reader_of new)) (before ++ bytes_of old) grows.more c
      grows.gives)

-- what is seen when the window slides
pub slides-bytes : (before items : List ℕ) (n : ℕ) → (before ++ take n items) ++ drop n items ≡ before ++ items
slides-bytes before items n = append_assoc before (take n items) (drop n items)
    ∙ ap (λ t. before ++ t) (take-append-drop n items)

pub slides-len : (before items : List ℕ) (n start : ℕ) → length before ≡ start → n ≤ length items
    → length (before ++ take n items) ≡ start + n
slides-len before items n start e h = simp (length-append, length-take) (omega arith)

-- what is held at a position, and what an input has from there on
module _ {start : ℕ} (before items : List ℕ) {flow : Flow} {input : Input} (here : length before ≡ start)
    (agrees : Agrees (before ++ items) flow input) where
  bytes_are : input.bytes ≡ before ++ (items ++ agrees.more)
  bytes_are = agrees.bytes ∙ append_assoc before items agrees.more

  pub rest_is : drop start input.bytes ≡ items ++ agrees.more
  rest_is = rw (bytes_are, ← here) (drop-append_seam before (items ++ agrees.more))

  pub rest_held : agrees.more ≡ [] → drop start input.bytes ≡ items
  rest_held none = rest_is ∙ ap (λ t. items ++ t) none ∙ append-nil items

  pub window_is : (n : ℕ) → length items ≡ n → take n (drop start input.bytes) ≡ items
  window_is n full = rw (rest_is, ← full) (take-append_seam items agrees.more)

  pub bytes_len : length input.bytes ≡ start + (length items + length agrees.more)
  bytes_len =
      let l = ap length bytes_are in
      omega (arith, l, here, length-append before (items ++ agrees.more), length-append items agrees.more)

  -- as many bytes were taken as a limit of n asks for
  pub taken_full : (n : ℕ) → length items ≡ n + 1 → length (before ++ items) ≡ min (length input.bytes) (start + n + 1)
  taken_full n full =
      let le : start + n + 1 ≤ length input.bytes = omega (arith, bytes_len, full) in
      let l : length (before ++ items) ≡ start + n + 1 = omega (arith, length-append before items, here, full) in
      l ∙ sym (min-eq_right le)

  pub taken_end : (n : ℕ) → agrees.more ≡ [] → length items ≤ n + 1
      → length (before ++ items) ≡ min (length input.bytes) (start + n + 1)
  taken_end n none short =
      let m = ap length none in
      let le : length input.bytes ≤ start + n + 1 = omega (arith, bytes_len, m, short) in
      let l : length (before ++ items) ≡ length input.bytes =
      omega (arith, length-append before items, here, bytes_len, m) in
      l ∙ sym (min-eq_left le)

below_limit : (given : List ℕ) → length given < input_limit → bounded given ≡ record { bytes = given; fault = false }
below_limit given h =
    let e : nat_lt (length given) input_limit ≡ true = grind (arith, common_steps) in
    ap (λ b. if b then record { bytes = given; fault = false } else
    record { bytes = take input_limit given; fault = true }) e

at_limit : (given : List ℕ) → input_limit ≤ length given
    → bounded given ≡ record { bytes = take input_limit given; fault = true }
at_limit given h =
    let e : nat_lt (length given) input_limit ≡ false = grind (arith, common_steps) in
    ap (λ b. if b then record { bytes = given; fault = false } else
    record { bytes = take input_limit given; fault = true }) e

module _ (xs seen rest : List ℕ) (left : ℕ) (flow : Flow) (is : xs ≡ seen ++ rest)
    (count : left + length seen ≡ input_limit)
    (ended : flow ≡ Ended → (rest ≡ []) × (0 < left)) (broken : flow ≡ Broken → left ≡ 0) where
  length_whole : length xs ≡ length seen + length rest
  length_whole = ap length is ∙ length-append seen rest

  all_agrees : length xs < input_limit → Agrees seen flow (record { bytes = xs; fault = false })
  all_agrees below = record {
    more = rest;
    bytes = is;
    ended = λ e. ((ended e).0, refl);
    broken = λ e. absurd (let zero = broken e in omega (arith, zero, count, length_whole, below));
  }

  cut_is : take input_limit xs ≡ seen ++ take left rest
  cut_is =
      let e : length seen + left ≡ input_limit = omega (arith, count) in
      subst (λ (n : ℕ). take n xs ≡ seen ++ take left rest) e
      (ap (take (length seen + left)) is ∙ take-append-add seen rest left)

  cut_agrees : input_limit ≤ length xs → Agrees seen flow (record { bytes = take input_limit xs; fault = true })
  cut_agrees above = record {
    more = take left rest;
    bytes = cut_is;
    ended = λ e. absurd
        (let end = ended e in let l = ap length end.0 in omega (arith, l, end.1, count, length_whole, above));
    broken = λ e. (rw (broken e) refl, refl);
  }

  given_agrees : Agrees seen flow (bounded xs)
  given_agrees = elim (cases_lt (length xs) input_limit) [
    | inl below ↦ subst (Agrees seen flow) (sym (below_limit xs below)) (all_agrees below)
    | inr above ↦ subst (Agrees seen flow) (sym (at_limit xs above)) (cut_agrees above)
  ]

-- the input of a run agrees with what was seen of it
pub agrees_of : (xs seen : List ℕ) (new : Option (List ℕ)) (failed ended : Bool) (left : ℕ) (flow : Flow)
    → Consumes (Some xs) new seen → left + length seen ≡ input_limit →
    IsReportedBy new failed ended left flow → Agrees seen flow (input_from xs seen failed)
agrees_of xs seen None failed ended left flow c count fed = absurd c
agrees_of xs seen (Some rest) false ended left Open c count fed = given_agrees xs seen rest left Open c count
    (λ e. absurd (cc)) (λ e. absurd (cc))
agrees_of xs seen (Some rest) true ended left Open c count fed = absurd (cc)
agrees_of xs seen (Some rest) false ended left Ended c count (fine, reported, end, some) =
    given_agrees xs seen rest left Ended c count (λ e. (end, some)) (λ e. absurd (cc))
agrees_of xs seen (Some rest) true ended left Ended c count (fine, reported, end, some) = absurd (cc)
agrees_of xs seen (Some rest) false ended left Broken c count (inl bad) = absurd (cc)
agrees_of xs seen (Some rest) false ended left Broken c count (inr (fine, zero)) =
    given_agrees xs seen rest left Broken c count (λ e. absurd (cc)) (λ e. zero)
agrees_of xs seen (Some rest) true ended left Broken c count fed =
    record { more = []; bytes = sym (append-nil seen); ended = λ e. absurd (cc); broken = λ e. (refl, refl) }
