-- The answer to a list of symbols: that there is one, and that it is the answer of the flat grammar.
-- Serves: run_abnf (right)
use Rattle.std.proofs.Common.{◌≡◌, ◌↔◌, ℕ, ◌≤◌, Bool, true, false, List, length, refl, subst, arith, inl, inr, Option}
use Rattle.std.proofs.Common.{Some}
use Rattle.std.specs.Prelude.{IsTrue}
use Rattle.std.proofs.lemmas.Bool.{both_ways, cases_lt}
use mathlib.Core.HLevel.{⊥_prop}
use mathlib.Core.Logic.{∥∥₁_elim}
use Rattle.abnfread.specs.Element.{Rule}
use Rattle.abnfcheck.specs.Prefixes.{IsFurthest}
use Rattle.abnfcheck.specs.Decided.{Says}
use Rattle.abnfcheck.specs.Derivable.{AreLetters, RuleDerives}
use Rattle.abnfrun.specs.AbnfReply.{AnswersBy, HaveMoreThan}
use Rattle.abnfrun.specs.LetterAnswers.{IsAnswerOn}
use Rattle.earleyitems.specs.ChartSets.{HaveMoreItems}
use Rattle.ruletable.specs.Letters.{has}
use Rattle.ruletable.specs.declared.alphabet.Alphabet.{Alphabet}
use Rattle.lowering.specs.Verdicts.{IsVerdict}
use Rattle.flatgrammar.specs.declared.verdict.Verdict.{Verdict}
use Rattle.flatgrammar.specs.declared.verdict.Verdict.TheVariants as verdict
use Rattle.flatgrammar.specs.Flat.{Flat}
use Rattle.flatgrammar.specs.FlatVerdicts.{DerivesLine, IsFlatVerdict}
use Rattle.lowering.specs.Lowered.{IsLowered}
use Rattle.lowering.specs.GivenPrefixes.{GivesPrefixes}
use Rattle.linejudge.specs.declared.answers.Answer.{Answer}
use Rattle.linejudge.specs.declared.answers.Answer.TheVariants.{Yes, No, NoAfter}
use Rattle.linejudge.specs.InputLines.{IsNoAnswer}
use Rattle.linejudge.specs.declared.answers.NoAnswer.{NoAnswer}
use Rattle.linejudge.specs.declared.answers.NoAnswer.TheVariants.{Memory, Costly}

-- the laws of derivation and of viable prefixes
abbrev pub DerivationIsDecided : Type 0
DerivationIsDecided = (has : ℕ → Bool) (rules : List Rule) (id : ℕ) (x : List ℕ) → (yes : Bool)
    × Says (RuleDerives has rules id x) yes

abbrev pub FurthestIsFound : Type 0
FurthestIsFound = (has : ℕ → Bool) (rules : List Rule) (id : ℕ) (x : List ℕ) → (n : ℕ) × IsFurthest has rules id x n

abbrev pub FurthestIsOne : Type 0
FurthestIsOne = (has : ℕ → Bool) (rules : List Rule) (id : ℕ) (x : List ℕ) (a b : ℕ) → IsFurthest has rules id x a
    → IsFurthest has rules id x b → a ≡ b

-- the laws of flat grammars and rules
abbrev pub FlatDerives : Type 0
FlatDerives = (has : ℕ → Bool) (rules : List Rule) (judged : ℕ) (flat : Flat) (x : List ℕ)
    → IsLowered rules judged flat → length x ≤ flat.limit → AreLetters has x
    → DerivesLine flat x ↔ RuleDerives has rules judged x

abbrev pub FlatJudges : Type 0
FlatJudges = (has : ℕ → Bool) (rules : List Rule) (judged : ℕ) (flat : Flat) (x : List ℕ) (said : Verdict)
    → GivesPrefixes has rules judged flat → length x ≤ flat.limit → AreLetters has x → IsFlatVerdict flat x said
    → IsVerdict has rules judged x said

module _ (has : ℕ → Bool) (rules : List Rule) (judged : ℕ) (x : List ℕ) where
  abbrev Derived : Type 0
  Derived = RuleDerives has rules judged x

  abbrev FurthestAt : ℕ → Type 0
  FurthestAt n = IsFurthest has rules judged x n

  -- what follows of a grammar that is only known to be there
  reported_yes : (Known : Type 0) → ∥ Known ∥₁ → (Known → Derived) → (said : Bool) × Says Derived said → Derived
  reported_yes Known known reports (true, p) = p
  reported_yes Known known reports (false, none) = absurd (∥∥₁_elim known ⊥_prop (λ k. none (reports k)))

  reported_no : (Known : Type 0) → ∥ Known ∥₁ → (Known → Derived → ⊥) → Derived → ⊥
  reported_no Known known reports p = ∥∥₁_elim known ⊥_prop (λ k. reports k p)

  reported_furthest : FurthestIsOne → (Known : Type 0) → ∥ Known ∥₁ → (n : ℕ) → (Known → FurthestAt n) → (m : ℕ)
      × FurthestAt m → FurthestAt n
  reported_furthest one Known known n reports (m, found) = elim (cases_lt m n) [
    | inl lt ↦ absurd (∥∥₁_elim known ⊥_prop (λ k. let e = one has rules judged x m n found (reports k) in
        omega (arith, e, lt)))
    | inr ge ↦ elim (cases_lt n m) [
      | inl lt ↦ absurd (∥∥₁_elim known ⊥_prop (λ k. let e = one has rules judged x m n found (reports k) in
          omega (arith, e, lt)))
      | inr le ↦ let same : m ≡ n = omega (arith, ge, le) in subst (λ (v : ℕ). FurthestAt v) same found
    ]
  ]

  -- the answers of flat grammars
  module _ (flat : Flat) (short : length x ≤ flat.limit) (letters : AreLetters has x) where
    pub judge_says : DerivationIsDecided → FlatDerives → (said : Bool) → ∥ IsLowered rules judged flat ∥₁
        → (IsTrue said ↔ DerivesLine flat x) → Says Derived said
    judge_says law items true lowered answer = reported_yes (IsLowered rules judged flat) lowered
        (λ l. (items has rules judged flat x l short letters).0 (answer.0 refl)) (law has rules judged x)
    judge_says law items false lowered answer = reported_no (IsLowered rules judged flat) lowered
        (λ l p. both_ways false refl (answer.1 ((items has rules judged flat x l short letters).1 p)))

    pub verdict_says : DerivationIsDecided → FurthestIsFound → FurthestIsOne → FlatJudges → (said : Verdict)
        → ∥ GivesPrefixes has rules judged flat ∥₁ → IsFlatVerdict flat x said → IsVerdict has rules judged x said
    verdict_says law found one items verdict.Yes pruned is = reported_yes (GivesPrefixes has rules judged flat) pruned
        (λ t. items has rules judged flat x verdict.Yes t short letters is) (law has rules judged x)
    verdict_says law found one items (verdict.No n) pruned is = (
      reported_no (GivesPrefixes has rules judged flat) pruned
          (λ t. (items has rules judged flat x (verdict.No n) t short letters is).0),
      reported_furthest one (GivesPrefixes has rules judged flat) pruned n
          (λ t. (items has rules judged flat x (verdict.No n) t short letters is).1) (found has rules judged x),
    )

-- each list of letters has an answer
pub letters_answered : DerivationIsDecided → FurthestIsFound → (has : ℕ → Bool) (viable : Bool) (rules : List Rule)
    (judged : ℕ) (x : List ℕ) →
    (said : Answer) × IsAnswerOn has viable rules judged x said
letters_answered law found has viable rules judged x = by viable (law has rules judged x)
  where
    by : (viable : Bool) → (yes : Bool) × Says (RuleDerives has rules judged x) yes → (said : Answer)
        × IsAnswerOn has viable rules judged x said
    by viable (true, p) = (Yes, p)
    by false (false, none) = (No, (refl, none))
    by true (false, none) = let f = found has rules judged x in (NoAfter f.0, (refl, none, f.1))

-- why the judges of a flat grammar have no answer to the letters
module _ (budget : Option ℕ) (letters : Alphabet) (viable : Bool) (rules : List Rule) (judged : ℕ) (flat : Flat)
    (x : List ℕ) where
  answers_by : (asked : Bool) → (asked ≡ false → ∥ IsLowered rules judged flat ∥₁)
      → (asked ≡ true → ∥ GivesPrefixes (has letters) rules judged flat ∥₁)
      → AnswersBy letters asked rules judged flat
  answers_by false lowered prefixes = lowered refl
  answers_by true lowered prefixes = prefixes refl

  pub letters_costly : (viable ≡ false → ∥ IsLowered rules judged flat ∥₁)
      → (viable ≡ true → ∥ GivesPrefixes (has letters) rules judged flat ∥₁) → (none : NoAnswer)
      → IsNoAnswer (λ n. (budget ≡ Some n) × HaveMoreItems flat x n) none
      → IsNoAnswer (HaveMoreThan budget letters viable rules judged x) none
  letters_costly lowered prefixes Memory is = tt
  letters_costly lowered prefixes (Costly n) is =
      record { is_budget = is.0; flat = flat; answers = answers_by viable lowered prefixes; more = is.1 }
