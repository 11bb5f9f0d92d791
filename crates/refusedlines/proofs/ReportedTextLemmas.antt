-- Texts of letters: digits, and texts with slashes between.
-- Serves: push_expected
use Rattle.std.proofs.Common.{◌≡◌, ◌∙◌, ℕ, zero, suc, ◌+◌, ◌/◌, ◌%◌, ◌<◌, ◌==◌, Bool, true, false, eqb-true}
use Rattle.std.proofs.Common.{if◌then◌else◌, List, [], ◌∷◌, ◌++◌}
use Rattle.std.proofs.Common.{map, length, take, get_or, refl, sym, ap, arith, append_assoc, codes}
use Rattle.std.specs.Fmt.{digit_glyph}
use Rattle.std.specs.List.{flat_map}
use Rattle.std.proofs.Common.{◌-◌, ◌≤◌, ◌⊎◌, inl, inr, min}
use Rattle.std.proofs.lemmas.Bool.{cases_lt}
use Rattle.std.proofs.lemmas.List.{append-nil, length-map, length-take-le, map-append, take_all, take_more}
use Rattle.std.proofs.lemmas.List.Concat.{flat_map-append}
use Rattle.abnfprint.proofs.PrintedNumberLemmas.{upper-one, upper-more}
use Rattle.abnfprint.specs.CanonicalAbnf.{upper_digits}
use Rattle.refusedlines.specs.RefusedText.{more_text, pieces_text, slashed}
use Rattle.refusedlines.specs.ReportedLetters.{reported_text}
use Rattle.refusedlines.specs.declared.letterruns.reported.ReportedLetters.{ReportedLetters}

pub digit_more : (v : ℕ) → 0 < v → (old mid new : List ℕ) (d : ℕ) → mid ≡ old ++ upper_digits (v / 16)
    → d ≡ digit_glyph true (v % 16) → new ≡ mid ++ d ∷ [] → new ≡ old ++ upper_digits v
digit_more v some old mid new d is digit put =
    put ∙ rw (is, digit, upper-more v some) (append_assoc old (upper_digits (v / 16)) (digit_glyph true (v % 16) ∷ []))

pub digit_one : (v : ℕ) → 0 < v → v < 16 → (old mid new : List ℕ) (d : ℕ) → mid ≡ old
    → d ≡ digit_glyph true (v % 16) → new ≡ mid ++ d ∷ [] → new ≡ old ++ upper_digits v
digit_one v some lt old mid new d is digit put =
    let low : v % 16 ≡ v = omega arith in
    put ∙ rw (is, digit, upper-one v some lt, low) refl

abbrev slash_at : ℕ → List ℕ
slash_at i = if i == 0 then [] else codes " / "

slash_later : (i : ℕ) → 0 < i → slash_at i ≡ codes " / "
slash_later i lt = by (i == 0) refl
  where
    by : (b : Bool) → (i == 0) ≡ b → (if b then [] else codes " / ") ≡ codes " / "
    by true is = absurd (let zero_is = eqb-true i 0 is in omega arith)
    by false is = refl

slashed_push : (ts : List (List ℕ)) (t : List ℕ) (i : ℕ) → length ts ≡ i
    → slashed (ts ++ t ∷ []) ≡ (slashed ts ++ slash_at i) ++ t
slashed_push [] t i is = rw (sym is) (append-nil t)
slashed_push (u ∷ ts) t zero is = absurd (omega arith)
slashed_push (u ∷ ts) t (suc i) is =
    let mark = codes " / " in
    ap (λ v. u ++ v) (flat_map-append (λ v. mark ++ v) ts (t ∷ [])
    ∙ ap (λ v. flat_map (λ v. mark ++ v) ts ++ v) (append-nil (mark ++ t))
    ∙ sym (append_assoc (flat_map (λ v. mark ++ v) ts) mark t)
    ∙ ap (λ v. (flat_map (λ v. mark ++ v) ts ++ v) ++ t) (sym (slash_later (suc i) (omega arith))))
    ∙ sym (append_assoc u (flat_map (λ v. mark ++ v) ts ++ slash_at (suc i)) t)
    ∙ ap (λ v. v ++ t) (sym (append_assoc u (flat_map (λ v. mark ++ v) ts) (slash_at (suc i))))

pub slashed_next : (reported : List ReportedLetters) (i : ℕ) (d : ReportedLetters) (old before marked new : List ℕ)
    → i < length reported → before ≡ old ++ slashed (map reported_text (take i reported)) → marked ≡ before
    ++ slash_at i
    → new ≡ marked ++ reported_text (get_or reported i d)
    → new ≡ old ++ slashed (map reported_text (take (i + 1) reported))
slashed_next reported i d old before marked new lt is mark put =
    let texts = map reported_text (take i reported) in
    let one = reported_text (get_or reported i d) in
    let size : length texts ≡ i = length-map (take i reported) reported_text
    ∙ length-take-le i reported (omega arith) in
    let more : map reported_text (take (i + 1) reported) ≡ texts ++ one ∷ [] =
    ap (map reported_text) (take_more reported i d lt) ∙ map-append reported_text (take i reported)
    (get_or reported i d ∷ []) in
    put ∙ ap (λ v. v ++ one) (mark ∙ ap (λ v. v ++ slash_at i) is)
    ∙ ap (λ v. v ++ one) (append_assoc old (slashed texts) (slash_at i))
    ∙ append_assoc old (slashed texts ++ slash_at i) one
    ∙ ap (λ v. old ++ v) (sym (slashed_push texts one i size) ∙ ap slashed (sym more))

pub first_shown : (all : List ReportedLetters) (n shown : ℕ) → shown ≡ min (length all) n → take shown all ≡ take n all
first_shown all n shown is = by (cases_lt n (length all))
  where
    by : (n < length all) ⊎ (length all ≤ n) → take shown all ≡ take n all
    by (inl lt) = ap (λ v. take v all) (let same : shown ≡ n = omega (arith, is, lt) in same)
    by (inr le) = take_all shown all (omega (arith, is, le)) ∙ sym (take_all n all le)

pub pieces_pushed : (all : List ReportedLetters) (shown : ℕ) (count : ℕ) (old mid new : List ℕ)
    → shown ≡ min (length all) 16 → mid ≡ old ++ slashed (map reported_text (take shown all)) → count ≡ length all - 16
    → new ≡ mid ++ more_text count → new ≡ old ++ pieces_text all
pieces_pushed all shown count old mid new is first left put =
    let shown_text = slashed (map reported_text (take 16 all)) in
    put
    ∙ ap (λ v. v ++ more_text count)
    (first ∙ ap (λ v. old ++ slashed (map reported_text v)) (first_shown all 16 shown is))
    ∙ ap (λ v. (old ++ shown_text) ++ more_text v) left ∙ append_assoc old shown_text (more_text (length all - 16))
