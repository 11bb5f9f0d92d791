-- What the tokens of reversed ranges and repetitions are made of.
-- Serves: abnf_hints
use Rattle.std.proofs.Common.{◌≡◌, ◌↔◌, ℕ, ◌<◌, ◌≤◌, ◌-◌, ◌==◌, Bool, false, List, [], ◌∷◌, ◌++◌, length, take, refl}
use Rattle.std.proofs.Common.{sym, ◌∙◌, ap, subst, arith, Option, Some}
use Rattle.std.specs.Char.{digit_value}
use Rattle.std.specs.Prelude.{IsTrue}
use Rattle.std.specs.Str.Parse.{AllDigits, digits_value}
use Rattle.std.proofs.lemmas.Bool.{eqb-true, ltb-true}
use Rattle.std.proofs.lemmas.List.{append_cancel_right, nil_from_length}
use Rattle.lexer.specs.SliceEnds.{Lacks}
use Rattle.lexer.proofs.TokenListLemmas.{cut-front}
use Rattle.abnfread.specs.AbnfSlices.{Run, Stops, Digits, none, more, digits}
use Rattle.abnfread.specs.AbnfWords.{Said, Range}
use Rattle.abnfread.specs.BaseDigits.{is_digit, NamesBase}
use Rattle.abnfread.specs.Numerals.{SaysNum, SaysRepeat, most, says_between, says_exactly, says_values, says_range}
use Rattle.abnfread.proofs.AbnfFirstLemmas.{reports-one}
use Rattle.abnfread.proofs.AbnfSliceLemmas.{run-end}
use Rattle.abnfread.proofs.ByteRunLemmas.{run-to, no-digit}
use Rattle.abnfread.proofs.NumeralLemmas.{digits-run, heads-equal, run-before, run-front, tails-equal}
use Rattle.abnfhints.specs.AbnfHints.{IsReversed, IsReversedRepeat}

-- a text of digits
all_run : (base : ℕ) {t : List ℕ} → Run (is_digit base) t [] → AllDigits base t
all_run base none = tt
all_run base (more {b} is run) = (ltb-true (digit_value b) base is, all_run base run)

pub all_digits : (base : ℕ) {t : List ℕ} → Digits base t [] → AllDigits base t
all_digits base (digits {b} is run) = (ltb-true (digit_value b) base is, all_run base run)

run_digits : (base b : ℕ) (bs : List ℕ) → Run (is_digit base) (b ∷ bs) [] → Digits base (b ∷ bs) []
run_digits base b bs (more is rest) = digits is rest

pub reported_digits : (base : ℕ) (t rest : List ℕ) (empty ends : Bool) → empty ≡ (length t == 0) → empty ≡ false
    → ends ≡ (length rest == 0) → Run (is_digit base) t rest → Stops (is_digit base) rest
    → (IsTrue ends) ↔ Digits base t []
reported_digits base [] rest empty ends e off f run stop = absurd (cc (e, off))
reported_digits base (b ∷ bs) rest empty ends e off f run stop = (
  (λ on. let nil = nil_from_length rest (eqb-true (length rest) 0 (sym f ∙ on)) in
      run_digits base b bs (subst (λ v. Run (is_digit base) (b ∷ bs) v) nil run)),
  (λ d. let nil = run-to run stop (digits-run d) tt in
      f ∙ ap (λ (v : List ℕ). length v == 0) (sym nil)),
)

-- the digits before a mark
same-ends : {f : ℕ → Bool} {c : ℕ} {t ds rest es r : List ℕ} → f c ≡ false → t ≡ ds ++ rest → Run f ds []
    → Stops f rest → t ≡ es ++ c ∷ r → Run f es [] → (es ≡ ds) × (c ∷ r ≡ rest)
same-ends {f} {c} {t} {ds} {rest} {es} {r} p e h stop k g =
    let same : c ∷ r ≡ rest =
    run-to (rw (sym e) at (run-before rest h)) stop (rw (sym k) at (run-before (c ∷ r) g)) p in
    (append_cancel_right es ds rest (ap (λ (x : List ℕ). es ++ x) (sym same) ∙ sym k ∙ e), same)

-- they are the first ones
module _ (base mark : ℕ) (t rest : List ℕ) (w : is_digit base mark ≡ false) (run : Run (is_digit base) t rest)
    (stop : Stops (is_digit base) rest) where
  abbrev pub first_digits : List ℕ
  first_digits = take (length t - length rest) t

  pub first_cut : t ≡ first_digits ++ rest
  first_cut = cut-front (run-end run)

  both_ends : (ds es : List ℕ) → t ≡ ds ++ mark ∷ es → Digits base ds [] → (ds ≡ first_digits) × (mark ∷ es ≡ rest)
  both_ends ds es e d = same-ends w first_cut (run-front run) stop e (digits-run d)

  pub no_mark : Lacks mark rest → (ds es : List ℕ) → t ≡ ds ++ mark ∷ es → Digits base ds [] → Digits base es [] → ⊥
  no_mark l ds es e d f = let ends = both_ends ds es e d in let k = rw (sym ends.1) at l in k refl

  pub not_digits : (high : List ℕ) → rest ≡ mark ∷ high → (Digits base first_digits [] → Digits base high [] → ⊥)
      → (ds es : List ℕ) → t ≡ ds ++ mark ∷ es → Digits base ds [] → Digits base es [] → ⊥
  not_digits high is no_digits ds es e d f =
      let ends = both_ends ds es e d in
      let same : es ≡ high = tails-equal (ends.1 ∙ is) in
      no_digits (subst (λ v. Digits base v []) ends.0 d) (subst (λ v. Digits base v []) same f)

-- the parts of a range
record RangeIn (z : List ℕ) (a b : ℕ) : Type 0 where
  pub base : ℕ
  pub letter : ℕ
  pub low : List ℕ
  pub high : List ℕ
  pub is : z ≡ 37 ∷ letter ∷ (low ++ 45 ∷ high)
  pub reports : NamesBase letter base
  pub low_digits : Digits base low []
  pub high_digits : Digits base high []
  pub low_is : a ≡ digits_value base low
  pub high_is : b ≡ digits_value base high

range_in : {z : List ℕ} {s : Said} (a b : ℕ) → SaysNum z s → s ≡ Range a b → RangeIn z a b
range_in a b (says_values reports k) is = absurd (cc is)
range_in a b (says_range {base = base} {c = c} {t = t} {ds = ds} {es = es} reports cut d f) is = record {
  base = base;
  letter = c;
  low = ds;
  high = es;
  is = ap (λ (v : List ℕ). 37 ∷ c ∷ v) cut;
  reports = reports;
  low_digits = d;
  high_digits = f;
  low_is = sym (cc is);
  high_is = sym (cc is);
}

module _ (z t : List ℕ) (base c : ℕ) (is : z ≡ 37 ∷ c ∷ t) (reports : NamesBase c base) where
  -- the same parts
  record SameRange (a b : ℕ) : Type 0 where
    pub low : List ℕ
    pub high : List ℕ
    pub cut : t ≡ low ++ 45 ∷ high
    pub low_digits : Digits base low []
    pub high_digits : Digits base high []
    pub low_is : a ≡ digits_value base low
    pub high_is : b ≡ digits_value base high

  same_range : (a b : ℕ) → RangeIn z a b → SameRange a b
  same_range a b r =
      let whole : 37 ∷ c ∷ t ≡ 37 ∷ r.letter ∷ (r.low ++ 45 ∷ r.high) = sym is ∙ r.is in
      let letter : c ≡ r.letter = heads-equal (tails-equal whole) in
      let same : r.base ≡ base = reports-one (rw (sym letter) at r.reports) reports in
      record {
        low = r.low;
        high = r.high;
        cut = tails-equal (tails-equal whole);
        low_digits = subst (λ v. Digits v r.low []) same r.low_digits;
        high_digits = subst (λ v. Digits v r.high []) same r.high_digits;
        low_is = r.low_is ∙ ap (λ v. digits_value v r.low) same;
        high_is = r.high_is ∙ ap (λ v. digits_value v r.high) same;
      }

  pub no_reversed : ((ds es : List ℕ) → t ≡ ds ++ 45 ∷ es → Digits base ds [] → Digits base es [] → ⊥)
      → IsReversed z → ⊥
  no_reversed never r =
      let s = same_range r.low r.high (range_in r.low r.high r.says refl) in
      never s.low s.high s.cut s.low_digits s.high_digits

  pub reversed_as : (low high : List ℕ) (reported : Bool) → base ≤ 36 → t ≡ low ++ 45 ∷ high → Digits base low []
      → Digits base high [] → (IsTrue reported ↔ (digits_value base high < digits_value base low))
      → IsTrue reported ↔ IsReversed z
  reversed_as low high reported w cut d f report = (
    (λ on. record {
      low = digits_value base low;
      high = digits_value base high;
      says = subst (λ v. SaysNum v (Range (digits_value base low) (digits_value base high))) (sym is)
          (says_range reports cut d f);
      less = report.0 on;
    }),
    (λ r.
        let s = same_range r.low r.high (range_in r.low r.high r.says refl) in
        let ends = same-ends (no-digit base 45 36 refl w) cut (digits-run d) (no-digit base 45 36 refl w) s.cut
        (digits-run s.low_digits) in
        let low_is : r.low ≡ digits_value base low = s.low_is ∙ ap (digits_value base) ends.0 in
        let high_is : r.high ≡ digits_value base high = s.high_is ∙ ap (digits_value base) (tails-equal ends.1) in
        report.1 (rw (sym low_is, sym high_is) r.less)),
  )

-- the parts of a repetition
record RepeatIn (z : List ℕ) (a n : ℕ) : Type 0 where
  pub low : List ℕ
  pub high : List ℕ
  pub cut : z ≡ low ++ 42 ∷ high
  pub low_digits : Digits 10 low []
  pub high_digits : Digits 10 high []
  pub low_is : a ≡ digits_value 10 low
  pub high_is : n ≡ digits_value 10 high

repeat_between : (z ds es : List ℕ) (n : ℕ) → z ≡ ds ++ 42 ∷ es → Run (is_digit 10) ds [] → Run (is_digit 10) es []
    → most es ≡ Some n → n < digits_value 10 ds → RepeatIn z (digits_value 10 ds) n
repeat_between z [] es n cut run end is lt = absurd (omega arith)
repeat_between z (d ∷ ds) [] n cut run end is lt = absurd (cc is)
repeat_between z (d ∷ ds) (e ∷ es) n cut run end is lt = record {
  low = d ∷ ds;
  high = e ∷ es;
  cut = cut;
  low_digits = run_digits 10 d ds run;
  high_digits = run_digits 10 e es end;
  low_is = refl;
  high_is = sym (cc is);
}

repeat_in : {z : List ℕ} {a : ℕ} {b : Option ℕ} (n : ℕ) → SaysRepeat z a b → b ≡ Some n → n < a → RepeatIn z a n
repeat_in {z} n (says_exactly d) is lt =
    let same : digits_value 10 z ≡ n = cc is in
    absurd (omega (arith, same, lt))
repeat_in {z} n (says_between {ds = ds} {es = es} cut run end) is lt = repeat_between z ds es n cut run end is lt

most_some : {es : List ℕ} → Digits 10 es [] → most es ≡ Some (digits_value 10 es)
most_some (digits e h) = refl

module _ (z : List ℕ) where
  pub no_reversed_repeat : ((ds es : List ℕ) → z ≡ ds ++ 42 ∷ es → Digits 10 ds [] → Digits 10 es [] → ⊥)
      → IsReversedRepeat z → ⊥
  no_reversed_repeat never r =
      let s = repeat_in r.most r.says refl r.less in never s.low s.high s.cut s.low_digits s.high_digits

  pub reversed_repeat_as : (low high : List ℕ) (reported : Bool) → z ≡ low ++ 42 ∷ high → Digits 10 low []
      → Digits 10 high [] → (IsTrue reported ↔ (digits_value 10 high < digits_value 10 low))
      → IsTrue reported ↔ IsReversedRepeat z
  reversed_repeat_as low high reported cut d f report = (
    (λ on. record {
      least = digits_value 10 low;
      most = digits_value 10 high;
      says = subst (λ v. SaysRepeat z (digits_value 10 low) v) (most_some f)
          (says_between cut (digits-run d) (digits-run f));
      less = report.0 on;
    }),
    (λ r.
        let s = repeat_in r.most r.says refl r.less in
        let ends = same-ends refl cut (digits-run d) refl s.cut (digits-run s.low_digits) in
        let low_is : r.least ≡ digits_value 10 low = s.low_is ∙ ap (digits_value 10) ends.0 in
        let high_is : r.most ≡ digits_value 10 high = s.high_is ∙ ap (digits_value 10) (tails-equal ends.1) in
        report.1 (rw (sym low_is, sym high_is) r.less)),
  )
