-- What a sink over a buffer leaves in it.
-- Serves: peg_into_buffers, abnf_into_buffers, run_opened_into
use Rattle.std.proofs.Common.{◌≡◌, ◌∙◌, ◌+◌, ℕ, Bool, true, false, List, [], ◌∷◌, ◌++◌, length, take, drop}
use Rattle.std.proofs.Common.{ap, refl, sym, arith, append_assoc, length-append}
use Rattle.std.proofs.lemmas.Slice.Eq.{bytes_eq-Decides}
use Rattle.std.specs.Io.KnownBytes.{Appends}
use Rattle.std.specs.Prelude.{Option, Some, None, IsSome, bytes_eq, if◌then◌else◌}
use Rattle.memoryrun.specs.BufferContents.{buffer_contents, buffer_holds}
use Rattle.memoryrun.specs.Filled.{IsLaid, laid}

abbrev head_of : List ℕ → ℕ
head_of [] = 0
head_of (x ∷ xs) = x

abbrev rest_of : List ℕ → List ℕ
rest_of [] = []
rest_of (x ∷ xs) = xs

abbrev text_of : Option (List ℕ) → List ℕ
text_of None = []
text_of (Some xs) = xs

laid_nil : (room : List ℕ) → laid [] room ≡ room
laid_nil [] = refl
laid_nil (x ∷ room) = refl

laid_nowhere : (text : List ℕ) → laid text [] ≡ []
laid_nowhere [] = refl
laid_nowhere (x ∷ text) = refl

-- a text after another
laid_more : (taken more before : List ℕ) → laid (taken ++ more) before
    ≡ take (length taken) (laid taken before) ++ laid more (drop (length taken) (laid taken before))
laid_more [] more before = ap (λ w. laid more w) (sym (laid_nil before))
laid_more (t ∷ taken) more [] = sym (laid_nowhere more)
laid_more (t ∷ taken) more (x ∷ before) = ap (λ w. t ∷ w) (laid_more taken more before)

same_parts : (a b c d : List ℕ) → length a ≡ length b → a ++ c ≡ b ++ d → (a ≡ b) × (c ≡ d)
same_parts [] [] c d len e = (refl, e)
same_parts [] (y ∷ b) c d len e = absurd (omega (arith, len))
same_parts (x ∷ a) [] c d len e = absurd (omega (arith, len))
same_parts (x ∷ a) (y ∷ b) c d len e =
    let rest = same_parts a b c d (omega (arith, len)) (ap rest_of e) in
    (rw (ap head_of e, rest.0) refl, rest.1)

module _ (name len : ℕ) (room before taken : List ℕ) where
  parts_by : (is : Bool) (xs : List ℕ) → bytes_eq (len ∷ room) (length taken ∷ laid taken before) ≡ is
      → (if is then buffer_holds name before taken else None) ≡ Some xs
      → (len ≡ length taken) × (room ≡ laid taken before) × (name ∷ length before ∷ before ++ taken ≡ xs)
  parts_by true xs same e =
      let both = (bytes_eq-Decides (len ∷ room) (length taken ∷ laid taken before)).0 same in
      (ap head_of both, ap rest_of both, ap text_of e)
  parts_by false xs same e = absurd (cc)

  -- what is known of a sink whose contents are known
  known_parts : (xs : List ℕ) → buffer_contents name room len before taken ≡ Some xs
      → (len ≡ length taken) × (room ≡ laid taken before) × (name ∷ length before ∷ before ++ taken ≡ xs)
  unfolding buffer_contents
  known_parts xs e = parts_by (bytes_eq (len ∷ room) (length taken ∷ laid taken before)) xs refl e

  known_by : (is : Bool) → bytes_eq (len ∷ room) (length taken ∷ laid taken before) ≡ is → is ≡ true
      → (if is then buffer_holds name before taken else None) ≡ buffer_holds name before taken
  known_by true same is = refl
  known_by false same is = absurd (cc)

  -- the contents of a sink, where they are known
  pub buffer_known : len ≡ length taken → room ≡ laid taken before
      → buffer_contents name room len before taken ≡ buffer_holds name before taken
  unfolding buffer_contents
  buffer_known counted is =
      let both : len ∷ room ≡ length taken ∷ laid taken before = rw (counted, is) refl in
      known_by (bytes_eq (len ∷ room) (length taken ∷ laid taken before)) refl
      ((bytes_eq-Decides (len ∷ room) (length taken ∷ laid taken before)).1 both)

take_whole : (xs : List ℕ) → take (length xs) xs ≡ xs
take_whole [] = refl
take_whole (x ∷ xs) = ap (λ w. x ∷ w) (take_whole xs)

-- a sink that takes more
module _ (name len len' : ℕ) (room room' before taken taken' more : List ℕ)
    (is : room' ≡ take len room ++ laid more (drop len room)) (counted : len' ≡ len + length more)
    (took : taken' ≡ taken ++ more) where
  more_by : (old : Option (List ℕ)) → buffer_contents name room len before taken ≡ old
      → Appends old (buffer_contents name room' len' before taken') more
  more_by None e = tt
  more_by (Some xs) e =
      let t = known_parts name len room before taken xs e in
      let laid_is : room' ≡ laid taken' before =
      rw took (rw (t.0, t.1) at is ∙ sym (laid_more taken more before)) in
      let len_is : len' ≡ length taken' = rw took (counted ∙ ap (λ n. n + length more) t.0
      ∙ sym (length-append taken more)) in
      rw (buffer_known name len' room' before taken' len_is laid_is, sym t.2, took)
      (ap (λ w. name ∷ length before ∷ w) (sym (append_assoc before taken more)))

  pub more_taken : Appends (buffer_contents name room len before taken)
      (buffer_contents name room' len' before taken') (take (length more) more)
  more_taken = rw (take_whole more) (more_by (buffer_contents name room len before taken) refl)

-- After a run the sink has the same buffer, and all that it took is laid over the bytes before. The buffer ends as new.
module _ (name name' len : ℕ) (room before before' taken first text : List ℕ) where
  left_by : (new : Option (List ℕ)) → buffer_contents name' room len before' taken ≡ new
      → Appends (buffer_holds name before first) new text
      → (name ≡ name') × (room ≡ laid (first ++ text) before) × (len ≡ length (first ++ text))
  left_by None e appended = absurd appended
  left_by (Some ys) e appended =
      let t = known_parts name' len room before' taken ys e in
      let both = t.2 ∙ appended in
      let rest : before' ++ taken ≡ before ++ (first ++ text) =
      ap (λ w. rest_of (rest_of w)) both ∙ append_assoc before first text in
      let parts = same_parts before' before taken (first ++ text) (ap (λ w. head_of (rest_of w)) both) rest in
      (sym (ap head_of both), rw (sym parts.0, sym parts.1) t.1, rw (sym parts.1) t.0)

  pub left_in_buffer : (old : Option (List ℕ)) (new : List ℕ) → old ≡ buffer_holds name before first
      → Appends old (buffer_contents name' room len before' taken) text → (name ≡ name' → new ≡ room)
      → IsLaid (first ++ text) (record { old = before; new = new; len = len })
  left_in_buffer old new is appended same =
      let left = left_by (buffer_contents name' room len before' taken) refl (rw is at appended) in
      (same left.0 ∙ left.1, left.2)

-- what a run counts
module _ (name len : ℕ) (room before taken : List ℕ) (name' len' : ℕ) (room' before' taken' text : List ℕ) where
  counted_by : (old : Option (List ℕ)) → buffer_contents name room len before taken ≡ old → IsSome old
      → Appends old (buffer_contents name' room' len' before' taken') text → len' ≡ len + length text
  counted_by None e some appended = absurd (cc)
  counted_by (Some xs) e some appended =
      let t = known_parts name len room before taken xs e in
      let appends : Appends (buffer_holds name before taken) (buffer_contents name' room' len' before' taken') text =
      rw t.2 appended in
      (left_by name name' len' room' before before' taken' taken text (buffer_contents name' room' len' before' taken')
      refl appends).2
      ∙ length-append taken text ∙ ap (λ n. n + length text) (sym t.0)

  pub run_counts : IsSome (buffer_contents name room len before taken)
      → Appends (buffer_contents name room len before taken) (buffer_contents name' room' len' before' taken') text
      → len' ≡ len + length text
  run_counts = counted_by (buffer_contents name room len before taken) refl

-- bytes that are appended to known ones are known
pub appended_known : (old new : Option (List ℕ)) (text : List ℕ) → IsSome old → Appends old new text → IsSome new
appended_known None new text some appended = absurd (cc)
appended_known (Some xs) None text some appended = absurd appended
appended_known (Some xs) (Some ys) text some appended = search
