-- What texts, values and ranges derive of what is asked for.
-- Serves: nullable_rules, productive, lower_viable
use Rattle.std.proofs.Common.{◌≡◌, ◌↔◌, ℕ, zero, suc, ◌+◌, ◌<◌, ◌==◌, Bool, true, false, List, [], ◌∷◌, length, take}
use Rattle.std.proofs.Common.{get_or, add-one, refl, sym, ◌∙◌, ap, subst, arith, lt-ltb}
use Rattle.std.specs.Prelude.{IsTrue}
use Rattle.std.proofs.lemmas.Bool.{both_ways, eqb-true}
use Rattle.std.proofs.lemmas.List.{nil_from_length}
use Rattle.ruletable.specs.Letters.{has as in_alphabet, HasLetter}
use Rattle.ruletable.specs.declared.alphabet.Alphabet.{Alphabet}
use Rattle.ruletable.specs.declared.alphabet.Alphabet.TheVariants.{Bytes, Utf8}
use Rattle.abnfread.specs.Element as e
use Rattle.abnfread.specs.Element.{Rule}
use Rattle.abnfcheck.specs.Derivable as der
use Rattle.abnfcheck.specs.Derivable.{AreLetters, Derives, Spelled, StandsFor}
use Rattle.abnfcheck.specs.declared.aim.Aim.{Aim}
use Rattle.abnfcheck.specs.declared.aim.Aim.TheVariants.{Empty, Letters}
use Rattle.abnfcheck.specs.RuleMarks.{IsTestOf, Yields}

-- the empty list
module _ (has : ℕ → Bool) (rules : List Rule) where
  empty_text : (folds : Bool) (t : List ℕ) → t ≡ [] → Yields has rules Empty (e.Text folds t)
  empty_text folds t is = record {
    word = [];
    asked = refl;
    derives = subst (λ v. Derives has rules (e.Text folds v) []) (sym is) (der.text der.end);
  }

  text_empty : (folds : Bool) (t : List ℕ) → Yields has rules Empty (e.Text folds t) → t ≡ []
  text_empty folds t y = by y.derives y.asked
    where
      none_left : {t w : List ℕ} → Spelled folds t w → w ≡ [] → t ≡ []
      none_left der.end is = refl
      none_left (der.next s d) is = absurd (cc is)

      by : {w : List ℕ} → Derives has rules (e.Text folds t) w → w ≡ [] → t ≡ []
      by (der.text s) is = none_left s is

  empty_values : (vs : List ℕ) → vs ≡ [] → Yields has rules Empty (e.Values vs)
  empty_values vs is = record {
    word = [];
    asked = refl;
    derives = subst (λ v. Derives has rules (e.Values v) []) (sym is) (der.values tt);
  }

  values_empty : (vs : List ℕ) → Yields has rules Empty (e.Values vs) → vs ≡ []
  values_empty vs y = by y.derives y.asked
    where
      by : {w : List ℕ} → Derives has rules (e.Values vs) w → w ≡ [] → vs ≡ []
      by (der.values letters) is = is

  range_not_empty : (low high : ℕ) → Yields has rules Empty (e.Range low high) → ⊥
  range_not_empty low high y = by y.derives y.asked
    where
      by : {w : List ℕ} → Derives has rules (e.Range low high) w → w ≡ [] → ⊥
      by (der.range from to letter) is = absurd (cc is)

-- a text is one of its spellings
stands_for_itself : (folds : Bool) (c : ℕ) → StandsFor folds c c
stands_for_itself true c = refl
stands_for_itself false c = refl

pub spelled_itself : (folds : Bool) (t : List ℕ) → Spelled folds t t
spelled_itself folds [] = der.end
spelled_itself folds (c ∷ t) = der.next (stands_for_itself folds c) (spelled_itself folds t)

-- bytes are letters of each alphabet
byte_is_letter : (alphabet : Alphabet) (b : ℕ) → b < 256 → in_alphabet alphabet b ≡ true
byte_is_letter Bytes b lt = lt-ltb b 256 lt
byte_is_letter Utf8 b lt = rw (lt-ltb b 0xD800 (omega (arith, lt))) refl

pub bytes_are_letters : (alphabet : Alphabet) (t : List ℕ) → ((i : ℕ) → get_or t i 0 < 256)
    → AreLetters (in_alphabet alphabet) t
bytes_are_letters alphabet [] bytes = tt
bytes_are_letters alphabet (b ∷ t) bytes = (
  byte_is_letter alphabet b (bytes 0),
  bytes_are_letters alphabet t (λ i. bytes (suc i)),
)

-- some list of letters
module _ (alphabet : Alphabet) (has : ℕ → Bool) (test : has ≡ in_alphabet alphabet) (rules : List Rule) where
  text_yields : (folds : Bool) (t : List ℕ) → ((i : ℕ) → get_or t i 0 < 256)
      → Yields has rules (Letters alphabet) (e.Text folds t)
  text_yields folds t bytes = record {
    word = t;
    asked = bytes_are_letters alphabet t bytes;
    derives = der.text (spelled_itself folds t);
  }

  values_yield : (vs : List ℕ) → AreLetters (in_alphabet alphabet) vs
      ↔ Yields has rules (Letters alphabet) (e.Values vs)
  values_yield vs = (
    (λ letters. record {
      word = vs;
      asked = letters;
      derives = der.values (subst (λ h. AreLetters h vs) (sym test) letters);
    }),
    (λ y. by y.derives),
  )
    where
      by : {w : List ℕ} → Derives has rules (e.Values vs) w → AreLetters (in_alphabet alphabet) vs
      by (der.values letters) = subst (λ h. AreLetters h vs) test letters

  range_yields : (low high : ℕ) → HasLetter (in_alphabet alphabet) low high
      ↔ Yields has rules (Letters alphabet) (e.Range low high)
  range_yields low high = (
    (λ l. record {
      word = l.letter ∷ [];
      asked = (l.is, tt);
      derives = der.range l.from l.to (subst (λ h. h l.letter ≡ true) (sym test) l.is);
    }),
    (λ y. by y.derives),
  )
    where
      by : {w : List ℕ} → Derives has rules (e.Range low high) w → HasLetter (in_alphabet alphabet) low high
      by (der.range {c = c} from to letter) = record {
        letter = c;
        from = from;
        to = to;
        is = subst (λ h. h c ≡ true) test letter;
      }

-- what the code returns for them, by the aim
length_zero_is_empty : (t : List ℕ) → (length t == 0) ≡ true → t ≡ []
length_zero_is_empty t e = nil_from_length t (eqb-true (length t) 0 e)

module _ (aim : Aim) (is : aim ≡ Empty) (has : ℕ → Bool) (rules : List Rule) where
  pub empty_text_reported : (folds : Bool) (t : List ℕ) (met : Bool) → met ≡ (length t == 0) → IsTrue met
      ↔ Yields has rules aim (e.Text folds t)
  empty_text_reported folds t met e =
      rw is (
        (λ on. empty_text has rules folds t (length_zero_is_empty t (sym e ∙ on))),
        (λ y. e ∙ ap (λ (l : List ℕ). length l == 0) (text_empty has rules folds t y)),
      )

  pub empty_values_reported : (vs : List ℕ) (met : Bool) → met ≡ (length vs == 0) → IsTrue met
      ↔ Yields has rules aim (e.Values vs)
  empty_values_reported vs met e =
      rw is (
        (λ on. empty_values has rules vs (length_zero_is_empty vs (sym e ∙ on))),
        (λ y. e ∙ ap (λ (l : List ℕ). length l == 0) (values_empty has rules vs y)),
      )

  pub empty_range_reported : (low high : ℕ) → IsTrue false ↔ Yields has rules aim (e.Range low high)
  empty_range_reported low high = rw is (
    (λ on. absurd (both_ways false refl on)),
    (λ y. absurd (range_not_empty has rules low high y)),
  )

module _ (aim : Aim) (alphabet : Alphabet) (is : aim ≡ Letters alphabet) (has : ℕ → Bool) (rules : List Rule)
    (asked : IsTestOf aim has) where
  test_of_alphabet : has ≡ in_alphabet alphabet
  test_of_alphabet = subst (λ v. IsTestOf v has) is asked

  pub text_reported : (folds : Bool) (t : List ℕ) → ((i : ℕ) → get_or t i 0 < 256) → IsTrue true
      ↔ Yields has rules aim (e.Text folds t)
  text_reported folds t bytes = rw is (
    (λ on. text_yields alphabet has test_of_alphabet rules folds t bytes),
    (λ y. refl),
  )

  pub values_reported : (vs : List ℕ) (met : Bool) → (IsTrue met ↔ AreLetters (in_alphabet alphabet) vs) → IsTrue met
      ↔ Yields has rules aim (e.Values vs)
  values_reported vs met reports = rw is (let y = values_yield alphabet has test_of_alphabet rules vs in
      ((λ on. y.0 (reports.0 on)), (λ d. reports.1 (y.1 d))))

  pub range_reported : (low high : ℕ) (met : Bool) → (IsTrue met ↔ HasLetter (in_alphabet alphabet) low high)
      → IsTrue met
      ↔ Yields has rules aim (e.Range low high)
  range_reported low high met reports = rw is (let y = range_yields alphabet has test_of_alphabet rules low high in
      ((λ on. y.0 (reports.0 on)), (λ d. reports.1 (y.1 d))))

-- values, one after another
module _ (has : ℕ → Bool) where
  next_of : (xs : List ℕ) (i d : ℕ) → i < length xs → AreLetters has (take i xs) → has (get_or xs i d) ≡ true
      → AreLetters has (take (suc i) xs)
  next_of [] i d lt all is = absurd (omega (arith, lt))
  next_of (x ∷ xs) zero d lt all is = (is, tt)
  next_of (x ∷ xs) (suc i) d lt all is = (all.0, next_of xs i d (omega (arith, lt)) all.1 is)

  pub next_value : (xs : List ℕ) (i d : ℕ) → i < length xs → AreLetters has (take i xs) → has (get_or xs i d) ≡ true
      → AreLetters has (take (i + 1) xs)
  next_value xs i d lt all is = rw (add-one i) (next_of xs i d lt all is)

  pub letter_in : (xs : List ℕ) (i d : ℕ) → i < length xs → AreLetters has xs → has (get_or xs i d) ≡ true
  letter_in [] i d lt all = absurd (omega (arith, lt))
  letter_in (x ∷ xs) zero d lt all = all.0
  letter_in (x ∷ xs) (suc i) d lt all = letter_in xs i d (omega (arith, lt)) all.1
