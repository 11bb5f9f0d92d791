-- A run of lines goes on from each position, as each line has an answer.
-- Serves: run_lines
use Rattle.std.proofs.Common.{◌≡◌, ◌≢◌, ℕ, suc, zero, ◌+◌, ◌<◌, ◌≤◌, Bool, true, false, List, [], ◌∷◌, ◌++◌}
use Rattle.std.proofs.Common.{length, drop, refl, ap, arith, inl, inr, ◌⊎◌, length-drop, length-append}
use Rattle.std.proofs.Math.Nat.{min-le_left, min-le_right, le-min}
use Rattle.std.proofs.lemmas.Bool.{cases_lt, cases_eq}
use Rattle.std.proofs.lemmas.List.{drop_all, take-append-le}
use Rattle.std.proofs.lemmas.List.Elements.{All-nil, All-cons, All-take}
use Rattle.ruletable.proofs.AppendsLemmas.{IsPrefixOf-same, IsPrefixOf-trans}
use Rattle.toolrun.specs.Input.{Input}
use Rattle.toolrun.specs.RunSteps.{Begins}
use Rattle.toolrun.specs.Status.{code_of}
use Rattle.toolrun.specs.Stop.{message_of, status_of}
use Rattle.toolrun.specs.declared.stop.Stop.{Stop}
use Rattle.toolrun.specs.declared.stop.Stop.TheVariants.{Quiet, LongLine, Broken}
use Rattle.linejudge.specs.InputLines.{HasNoEnd, IsEndAt, kept_line, printed_line, printed_last, refused_by}
use Rattle.linejudge.specs.InputLines.{status_after}
use Rattle.linejudge.specs.InputLines.{position_taken, taken_at, with_end, without_end, Lines, one_more, LinesEnd}
use Rattle.linejudge.specs.InputLines.{broken}
use Rattle.linejudge.specs.InputLines.{next_position, overlong, finished, is_over, rejected}
use Rattle.linejudge.specs.declared.answers.Answer.{Answer}
use Rattle.linejudge.specs.declared.answers.Answer.TheVariants.{Yes, No, NoAfter}
use Rattle.linejudge.specs.declared.line.LineForm.{LineForm}
use Rattle.linejudge.specs.declared.reached.LinePosition.{LinePosition}

-- a line and its end stand in front, or there is no end
split_line : (end : ℕ) (xs : List ℕ) → ((line after : List ℕ) × (xs ≡ line ++ end ∷ after) × HasNoEnd end line)
    ⊎ HasNoEnd end xs
split_line end [] = inr (All-nil (λ b. b ≢ end))
split_line end (x ∷ xs) = elim (cases_eq x end) [
  | inl is ↦ inl ([], xs, ap (λ b. b ∷ xs) is, All-nil (λ b. b ≢ end))
  | inr other ↦ elim (split_line end xs) [
    | inl (line, after, cut, one) ↦ inl (
      x ∷ line,
      after,
      ap (λ t. x ∷ t) cut,
      All-cons (λ b. b ≢ end) x line other one,
    )
    | inr free ↦ inr (All-cons (λ b. b ≢ end) x xs other free)
  ]
]

-- an answer rejects one line at most
pub refused_by-one : (said : Answer) → refused_by said ≤ 1
refused_by-one Yes = omega arith
refused_by-one No = omega arith
refused_by-one (NoAfter n) = omega arith

-- at the end of the input a run ends so, whether it was over before or not
pub ends_quietly : (NeedsMore : List ℕ → ℕ → Type 0) (form : LineForm) (input : Input) (at : LinePosition) (b : Bool)
    → is_over form at ≡ b → IsEndAt form input at.position
    → LinesEnd NeedsMore form input at (printed_last form.name form.printed at) (Quiet (status_after at.refused))
ends_quietly NeedsMore form input at true over is = rejected over
ends_quietly NeedsMore form input at false goes is = finished goes is

module _ (Reported : List ℕ → Answer → Type 0) (NeedsMore : List ℕ → ℕ → Type 0) (form : LineForm)
    (input : Input) where
  abbrev rest : ℕ → List ℕ
  rest s = drop s input.bytes

  abbrev pub Goes : ℕ → List ℕ → Type 0
  Goes s text = Begins (Lines Reported form input) (LinesEnd NeedsMore form input) (position_taken form.limit input)
      (taken_at form.limit input s) text

  takes_more : (s t n : ℕ) → s ≤ t → taken_at form.limit input t ≤ n → taken_at form.limit input s ≤ n
  takes_more s t n le h =
      let a = min-le_left (length input.bytes) (s + form.limit + 1) in
      let b = min-le_right (length input.bytes) (s + form.limit + 1) in
      let m : taken_at form.limit input s ≤ taken_at form.limit input t = le-min a (omega (arith, b, le)) in
      omega (arith, m, h)

  pub goes_to_stop : (at : LinePosition) (text last : List ℕ) (stop : Stop) → Lines Reported form input at text
      → LinesEnd NeedsMore form input at last stop → Goes at.position (text ++ last)
  goes_to_stop at text last stop lines ends = record {
    reply = record {
      out = text ++ last;
      err = message_of stop;
      status = code_of (status_of stop);
      taken = taken_at form.limit input at.position;
    };
    replies = record {
      point = at;
      before = text;
      last = last;
      stop = stop;
      steps = lines;
      ends = ends;
      out = refl;
      err = refl;
      status = refl;
      taken = refl;
    };
    front = IsPrefixOf-same (text ++ last);
    taken = omega arith;
  }

  goes_from : (s t : ℕ) (text more : List ℕ) → s ≤ t → Goes t (text ++ more) → Goes s text
  goes_from s t text more le h = record {
    reply = h.reply;
    replies = h.replies;
    front = IsPrefixOf-trans text (text ++ more) h.reply.out (more, refl) h.front;
    taken = takes_more s t h.reply.taken le h.taken;
  }

  module _ (decided : (line : List ℕ) → (said : Answer) × Reported line said) where
    -- the input ends there
    goes_at_end : (at : LinePosition) (text : List ℕ) → Lines Reported form input at text → rest at.position ≡ []
        → input.fault ≡ false
        → Goes at.position text
    goes_at_end at text lines empty fine =
        let last = printed_last form.name form.printed at in
        goes_from at.position at.position text last (omega arith)
        (goes_to_stop at text last (Quiet (status_after at.refused)) lines
        (ends_quietly NeedsMore form input at (is_over form at) refl (empty, fine)))

    -- after the last line it does
    goes_after_last : (at : LinePosition) (text : List ℕ) → Lines Reported form input at text → is_over form at ≡ false
        → HasNoEnd form.end (rest at.position) → 0 < length (rest at.position) → length (rest at.position) ≤ form.limit
        → input.fault ≡ false → Goes at.position text
    goes_after_last at text lines goes free some le fine =
        let d = decided (rest at.position) in
        let n : ℕ = length (rest at.position) in
        let l = length-drop at.position input.bytes in
        let more = printed_line form (at.count + 1) (rest at.position) d.0 in
        goes_from at.position (at.position + n) text more (omega arith)
        (goes_at_end (next_position at n d.0) (text ++ more)
        (one_more at text (rest at.position) n d.0 lines
        (record { goes = goes; stands = without_end (free, some, le, fine) }) d.1)
        (drop_all (at.position + n) input.bytes (omega (arith, l))) fine)

    goes_ended : (at : LinePosition) (text : List ℕ) → Lines Reported form input at text → is_over form at ≡ false
        → HasNoEnd form.end (rest at.position) → length (rest at.position) ≤ form.limit → (fault : Bool)
        → input.fault ≡ fault →
        (bytes : List ℕ) → rest at.position ≡ bytes → Goes at.position text
    goes_ended at text lines goes free le true is bytes same = goes_from at.position at.position text [] (omega arith)
        (goes_to_stop at text [] Broken lines (broken goes (free, le, is)))
    goes_ended at text lines goes free le false is [] same = goes_at_end at text lines same is
    goes_ended at text lines goes free le false is (b ∷ bytes) same =
        goes_after_last at text lines goes free (let l = ap length same in omega (arith, l)) le is

    lines_go : (fuel : ℕ) (b : Bool) (at : LinePosition) (text : List ℕ) → Lines Reported form input at text
        → is_over form at ≡ b
        → length (rest at.position) < fuel → Goes at.position text
    lines_go zero b at text lines is room = absurd (omega (arith, room))
    lines_go (suc fuel) true at text lines over room =
        let last = printed_last form.name form.printed at in
        goes_from at.position at.position text last (omega arith)
        (goes_to_stop at text last (Quiet (status_after at.refused)) lines (rejected over))
    lines_go (suc fuel) false at text lines goes room = elim (split_line form.end (rest at.position)) [
      | inl (line, after, cut, one) ↦ elim (cases_lt form.limit (length line)) [
        | inl over ↦
            let l = ap length cut in
            goes_from at.position at.position text [] (omega arith)
            (goes_to_stop at text [] (LongLine (at.count + 1) form.limit) lines (overlong goes (
              rw (cut, take-append-le (suc form.limit) line (form.end ∷ after) (omega arith))
                  (All-take (λ b. b ≢ form.end) (suc form.limit) line one),
              omega (arith, l, length-append line (form.end ∷ after)),
            )))
        | inr le ↦
            let judged = kept_line form line in
            let d = decided judged in
            let n : ℕ = length line + 1 in
            let l = ap length cut in
            let more = printed_line form (at.count + 1) judged d.0 in
            goes_from at.position (at.position + n) text more (omega arith)
            (lines_go fuel (is_over form (next_position at n d.0)) (next_position at n d.0) (text ++ more)
            (one_more at text judged n d.0 lines (record {
              goes = goes;
              stands = with_end line (record { after = after; cut = cut; one = one; within = omega arith });
            }) d.1) refl
            (omega (
              arith,
              room,
              l,
              length-append line (form.end ∷ after),
              length-drop at.position input.bytes,
              length-drop (at.position + n) input.bytes,
            )))
      ]
      | inr free ↦ elim (cases_lt form.limit (length (rest at.position))) [
        | inl over ↦ goes_from at.position at.position text [] (omega arith)
            (goes_to_stop at text [] (LongLine (at.count + 1) form.limit) lines
            (overlong goes (All-take (λ b. b ≢ form.end) (suc form.limit) (rest at.position) free, over)))
        | inr le ↦ goes_ended at text lines goes free (omega arith) input.fault refl (rest at.position) refl
      ]
    ]

    pub lines_go_on : (at : LinePosition) (text : List ℕ) → Lines Reported form input at text → Goes at.position text
    lines_go_on at text lines =
        lines_go (suc (length (rest at.position))) (is_over form at) at text lines refl (omega arith)

    -- after more lines no fewer bytes are taken
    pub goes_further : (s : ℕ) (at : LinePosition) (text : List ℕ) → s ≤ at.position → Lines Reported form input at text
        → Goes s text
    goes_further s at text le lines =
        let goes = lines_go_on at text lines in record {
          reply = goes.reply;
          replies = goes.replies;
          front = goes.front;
          taken = takes_more s at.position goes.reply.taken le goes.taken;
        }
