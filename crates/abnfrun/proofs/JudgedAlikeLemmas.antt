-- A flat grammar of rules with loops judges lines as the flat grammar of the rules does.
-- Serves: automaton_for, judge_letters
use Rattle.std.proofs.Common.{◌≡◌, ℕ, ◌≤◌, ◌↔◌, Bool, true, false, List, ◌++◌, length, refl, take, arith}
use Rattle.std.proofs.lemmas.Bool.{false≢true}
use Rattle.abnfread.specs.AbnfViews.{rules_of}
use Rattle.abnfcheck.specs.AbnfGrammar.{Grammar}
use Rattle.abnfcheck.specs.Derivable.{AreLetters}
use Rattle.abnfcheck.specs.Prefixes.{BeginsMember}
use Rattle.flatgrammar.specs.Flat.{Flat}
use Rattle.flatgrammar.specs.FlatVerdicts.{DerivesLine, IsFlatVerdict}
use Rattle.flatgrammar.specs.declared.verdict.Verdict.{Verdict}
use Rattle.flatgrammar.specs.declared.verdict.Verdict.TheVariants.{Yes, No}
use Rattle.lowering.specs.GivenPrefixes.{GivesPrefixes}
use Rattle.lowering.specs.Lowered.{IsLowered}
use Rattle.abnfrun.specs.JudgedAlike.{AreJudgedAlike, DeriveAlike}
use Rattle.abnfrun.proofs.IsAnswerOnLemmas.{FlatDerives}

module _ (has : ℕ → Bool) (g loops : Grammar) (alike : DeriveAlike g loops) where
  begins_alike : (x : List ℕ) (n : ℕ) → BeginsMember has (rules_of loops.rules) loops.judged x n
      ↔ BeginsMember has (rules_of g.rules) g.judged x n
  begins_alike x n = (
    λ b. record { rest = b.rest; letters = b.letters; derives = (alike has (take n x ++ b.rest)).0 b.derives },
    λ b. record { rest = b.rest; letters = b.letters; derives = (alike has (take n x ++ b.rest)).1 b.derives },
  )

  module _ (items : FlatDerives) (flat fast : Flat) (same : fast.limit ≡ flat.limit) where
    lines_alike : IsLowered (rules_of g.rules) g.judged flat → IsLowered (rules_of loops.rules) loops.judged fast
        → (x : List ℕ) → length x ≤ flat.limit → AreLetters has x → DerivesLine fast x ↔ DerivesLine flat x
    lines_alike one two x short letters =
        let of_flat = items has (rules_of g.rules) g.judged flat x one short letters in
        let of_fast = items has (rules_of loops.rules) loops.judged fast x two (omega (arith, short, same)) letters in
        let rules = alike has x in
        (λ d. of_flat.1 (rules.0 (of_fast.0 d)), λ d. of_fast.1 (rules.1 (of_flat.0 d)))

    prefixes_alike : GivesPrefixes has (rules_of g.rules) g.judged flat
        → GivesPrefixes has (rules_of loops.rules) loops.judged fast → AreJudgedAlike has true flat fast
    prefixes_alike one two = record {
      lines = λ x short letters.
          let of_flat = one.lines x short letters in
          let of_fast = two.lines x (omega (arith, short, same)) letters in
          let rules = alike has x in
          (λ d. of_flat.1 (rules.0 (of_fast.0 d)), λ d. of_fast.1 (rules.1 (of_flat.0 d)));
      prefixes = λ asked x n short letters some within.
          let of_flat = one.viable x n short letters some within in
          let of_fast = two.viable x n (omega (arith, short, same)) letters some within in
          let rules = begins_alike x n in
          (λ h. of_flat.1 (rules.0 (of_fast.0 h)), λ h. of_fast.1 (rules.1 (of_flat.0 h)));
    }

    -- flat grammars of both judge alike
    pub judged_alike : (viable : Bool) → (viable ≡ false → IsLowered (rules_of g.rules) g.judged flat)
        → (viable ≡ true → GivesPrefixes has (rules_of g.rules) g.judged flat)
        → (viable ≡ false → IsLowered (rules_of loops.rules) loops.judged fast)
        → (viable ≡ true → GivesPrefixes has (rules_of loops.rules) loops.judged fast)
        → AreJudgedAlike has viable flat fast
    judged_alike false one first two second = record {
      lines = lines_alike (one refl) (two refl);
      prefixes = λ asked. absurd (false≢true asked);
    }
    judged_alike true one first two second = prefixes_alike (first refl) (second refl)

-- the verdict of one is that of the other
pub verdict_alike : (has : ℕ → Bool) (viable : Bool) (flat other : Flat) → viable ≡ true
    → AreJudgedAlike has viable flat other → (x : List ℕ) → length x ≤ flat.limit → AreLetters has x → (said : Verdict)
    → IsFlatVerdict other x said → IsFlatVerdict flat x said
verdict_alike has viable flat other asked alike x short letters Yes is = (alike.lines x short letters).0 is
verdict_alike has viable flat other asked alike x short letters (No n) is = (
  λ d. is.0 ((alike.lines x short letters).1 d),
  record {
    within = is.1.within;
    item = λ some. (alike.prefixes asked x n short letters some is.1.within).0 (is.1.item some);
    last = λ m past le h.
        is.1.last m past le ((alike.prefixes asked x m short letters (omega (arith, past)) le).1 h);
  },
)
