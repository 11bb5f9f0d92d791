-- The answer to a line: what it is by the answer to its letters, and that there is exactly one.
-- Serves: run_abnf (right), one_reply_of_abnf, one_statement_of_abnf
use Rattle.std.proofs.Common.{◌≡◌, ℕ, suc, zero, ◌<◌, ◌≤◌, ◌⊎◌, inl, inr, Bool, true, false, List, [], length, take}
use Rattle.std.proofs.Common.{refl, sym, ◌∙◌, ap, subst, arith, Option}
use Rattle.std.proofs.lemmas.Bool.{cases_lt, false≢true}
use Rattle.std.proofs.lemmas.List.{take_all}
use Rattle.abnfread.specs.Element.{Rule}
use Rattle.abnfcheck.specs.Prefixes.{IsFurthest}
use Rattle.abnfcheck.specs.Derivable.{RuleDerives}
use Rattle.abnfrun.specs.AbnfReply.{AreLettersOf, HaveMoreThan, IsAnswerTo, IsMember, NeedsMoreItems, Reaches}
use Rattle.abnfrun.specs.LetterAnswers.{IsAnswerOn, torn}
use Rattle.abnfrun.proofs.IsAnswerOnLemmas.{DerivationIsDecided, FurthestIsFound, FurthestIsOne, letters_answered}
use Rattle.ruletable.specs.Letters.{has}
use Rattle.ruletable.specs.Utf8Text.{IsLongestText, IsText, Spells, end}
use Rattle.ruletable.specs.declared.alphabet.Alphabet.{Alphabet}
use Rattle.refusedlines.proofs.CanFollowLemmas.{derived_is_furthest}
use Rattle.ruletable.specs.declared.alphabet.Alphabet.TheVariants.{Bytes, Utf8}
use Rattle.linejudge.specs.declared.answers.Answer.{Answer}
use Rattle.linejudge.specs.declared.answers.Answer.TheVariants.{Yes, No, NoAfter}
use Rattle.linejudge.specs.InputLines.{IsNoAnswer}
use Rattle.linejudge.specs.declared.answers.NoAnswer.{NoAnswer}
use Rattle.linejudge.specs.declared.answers.NoAnswer.TheVariants.{Memory, Costly}

-- the laws of UTF-8
abbrev pub TextIsDecided : Type 0
TextIsDecided = (line : List ℕ) → IsText line ⊎ (IsText line → ⊥)

abbrev pub TextIsOne : Type 0
TextIsOne = (line points others : List ℕ) → Spells points line → Spells others line → points ≡ others

-- what is decoded of a text
pub decoded_as : (Spelled Empty Text : Type 0) (is : Bool) → Text → (is ≡ true → Spelled)
    → (is ≡ false → Empty × (Text → ⊥)) → Spelled
decoded_as Spelled Empty Text true text spelled none = spelled refl
decoded_as Spelled Empty Text false text spelled none = absurd ((none refl).1 text)

-- where no longer prefix than that of m bytes is UTF-8
longest_within : TextIsDecided → (line : List ℕ) (m : ℕ) → m ≤ length line
    → ((k : ℕ) → m < k → k ≤ length line → IsText (take k line) → ⊥) →
    (k : ℕ) × IsLongestText line k
longest_within text line zero le none = (
  0,
  record {
    within = le;
    text = record { points = []; spelled = end };
    longest = none;
  },
)
longest_within text line (suc m) le none = elim (text (take (suc m) line)) [
  | inl is ↦ (suc m, record { within = le; text = is; longest = none })
  | inr bad ↦ longest_within text line m (omega (arith, le)) (λ k lt high is. elim (cases_lt (suc m) k) [
    | inl past ↦ none k past high is
    | inr low ↦ let same : k ≡ suc m = omega (arith, lt, low) in bad (subst (λ (v : ℕ). IsText (take v line)) same is)
  ])
]

-- one longest prefix that is UTF-8
longest_text : TextIsDecided → (line : List ℕ) → (k : ℕ) × IsLongestText line k
longest_text text line = longest_within text line (length line) (omega arith)
    (λ k past high. absurd (omega (arith, past, high)))

one_longest : (line : List ℕ) (a b : ℕ) → IsLongestText line a → IsLongestText line b → a ≡ b
one_longest line a b f g = elim (cases_lt a b) [
  | inl lt ↦ absurd (f.longest b lt g.within g.text)
  | inr ge ↦ elim (cases_lt b a) [
    | inl lt ↦ absurd (g.longest a lt f.within f.text)
    | inr le ↦ omega (arith, ge, le)
  ]
]

-- the letters of a line that is UTF-8
whole_front : (line points : List ℕ) → Spells points line → Spells points (take (length line) line)
whole_front line points spelled = subst (λ (l : List ℕ). Spells points l)
    (sym (take_all (length line) line (omega arith))) spelled

pub text_letters : (line points : List ℕ) → Spells points line → AreLettersOf Utf8 line points
text_letters line points spelled = (
  length line,
  record {
    within = omega arith;
    text = record { points = points; spelled = whole_front line points spelled };
    longest = λ m past le is. absurd (omega (arith, past, le));
  },
  whole_front line points spelled,
)

module _ (viable : Bool) (rules : List Rule) (judged : ℕ) (line : List ℕ) where
  abbrev On : Alphabet → List ℕ → Answer → Type 0
  On letters x said = IsAnswerOn (has letters) viable rules judged x said

  abbrev To : Alphabet → Answer → Type 0
  To letters said = IsAnswerTo letters viable rules judged line said

  -- why a line has no answer, by its letters
  pub line_costly : (budget : Option ℕ) (letters : Alphabet) (x : List ℕ) → AreLettersOf letters line x
      → (none : NoAnswer) → IsNoAnswer (HaveMoreThan budget letters viable rules judged x) none
      → IsNoAnswer (NeedsMoreItems budget letters viable rules judged line) none
  line_costly budget letters x are Memory is = tt
  line_costly budget letters x are (Costly n) more = record { of_line = x; are = are; more = more }

  -- a line of bytes
  pub bytes_answer : (said : Answer) → On Bytes line said → To Bytes said
  bytes_answer Yes p = p
  bytes_answer No h = h
  bytes_answer (NoAfter n) h = (h.0, h.1, record { of_line = line; are = refl; furthest = h.2 })

  -- a line that is UTF-8
  no_member : TextIsOne → (points : List ℕ) → Spells points line → (RuleDerives (has Utf8) rules judged points → ⊥)
      → IsMember Utf8 rules judged line → ⊥
  no_member one points spelled none m = none (subst (λ (v : List ℕ). RuleDerives (has Utf8) rules judged v)
      (one line m.0 points m.1 spelled) m.2)

  pub text_answer : TextIsOne → (points : List ℕ) → Spells points line → (said : Answer) → On Utf8 points said
      → To Utf8 said
  text_answer one points spelled Yes p = (points, spelled, p)
  text_answer one points spelled No h = (h.0, no_member one points spelled h.1)
  text_answer one points spelled (NoAfter n) h = (
    h.0,
    no_member one points spelled h.1,
    record {
      of_line = points;
      are = text_letters line points spelled;
      furthest = h.2;
    },
  )

  -- a line that is not UTF-8, by the code points of its longest prefix that is
  pub no_text : (IsText line → ⊥) → IsMember Utf8 rules judged line → ⊥
  no_text bad m = bad (record { points = m.0; spelled = m.1 })

  pub torn_answer : (IsText line → ⊥) → viable ≡ true → (k : ℕ) (points : List ℕ) → IsLongestText line k
      → Spells points (take k line) → (said : Answer) →
      On Utf8 points said → To Utf8 (torn (length points) said)
  torn_answer bad asked k points longest spelled Yes p = (
    asked,
    no_text bad,
    record {
      of_line = points;
      are = (k, longest, spelled);
      furthest = derived_is_furthest (has Utf8) rules judged points p;
    },
  )
  torn_answer bad asked k points longest spelled No h = absurd (false≢true (sym h.0 ∙ asked))
  torn_answer bad asked k points longest spelled (NoAfter n) h =
      (asked, no_text bad, record { of_line = points; are = (k, longest, spelled); furthest = h.2 })

-- each line has an answer
pub line_answered : DerivationIsDecided → FurthestIsFound → TextIsDecided → TextIsOne →
    (letters : Alphabet) (viable : Bool) (rules : List Rule) (judged : ℕ) (line : List ℕ) → (said : Answer)
    × IsAnswerTo letters viable rules judged line said
line_answered law found text one Bytes viable rules judged line =
    let d = letters_answered law found (has Bytes) viable rules judged line in
    (d.0, bytes_answer viable rules judged line d.0 d.1)
line_answered law found text one Utf8 viable rules judged line = by viable (text line)
  where
    by : (viable : Bool) → IsText line ⊎ (IsText line → ⊥) → (said : Answer) × IsAnswerTo Utf8 viable rules judged line
        said
    by viable (inl t) =
        let d = letters_answered law found (has Utf8) viable rules judged t.points in
        (d.0, text_answer viable rules judged line one t.points t.spelled d.0 d.1)
    by false (inr bad) = (No, (refl, no_text false rules judged line bad))
    by true (inr bad) =
        let k = longest_text text line in
        let t = k.1.text in
        let d = letters_answered law found (has Utf8) true rules judged t.points in
        (torn (length t.points) d.0, torn_answer true rules judged line bad refl k.0 t.points k.1 t.spelled d.0 d.1)

-- and one alone
module _ (one : TextIsOne) (furthest : FurthestIsOne) (letters : Alphabet) (rules : List Rule) (judged : ℕ)
    (line : List ℕ) where
  one_letters : (letters : Alphabet) (x y : List ℕ) → AreLettersOf letters line x → AreLettersOf letters line y → x ≡ y
  one_letters Bytes x y e f = e ∙ sym f
  one_letters Utf8 x y e f = one (take e.0 line) x y e.2
      (subst (λ (k : ℕ). Spells y (take k line)) (one_longest line f.0 e.0 f.1 e.1) f.2)

  one_reach : (n m : ℕ) → Reaches letters rules judged line n → Reaches letters rules judged line m → n ≡ m
  one_reach n m r q =
      let same = one_letters letters r.of_line q.of_line r.are q.are in
      furthest (has letters) rules judged q.of_line n m
      (subst (λ (v : List ℕ). IsFurthest (has letters) rules judged v n) same r.furthest) q.furthest

  pub one_answer : (viable : Bool) (a b : Answer) → IsAnswerTo letters viable rules judged line a
      → IsAnswerTo letters viable rules judged line b → a ≡ b
  one_answer viable Yes Yes g h = refl
  one_answer viable Yes No g h = absurd (h.1 g)
  one_answer viable Yes (NoAfter m) g h = absurd (h.1 g)
  one_answer viable No Yes g h = absurd (g.1 h)
  one_answer viable No No g h = refl
  one_answer viable No (NoAfter m) g h = absurd (false≢true (sym g.0 ∙ h.0))
  one_answer viable (NoAfter n) Yes g h = absurd (g.1 h)
  one_answer viable (NoAfter n) No g h = absurd (false≢true (sym h.0 ∙ g.0))
  one_answer viable (NoAfter n) (NoAfter m) g h = ap NoAfter (one_reach n m g.2 h.2)
