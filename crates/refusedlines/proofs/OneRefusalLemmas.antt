-- One text explains a rejected line, and where nothing can follow the rule derives nothing.
-- Serves: refusal_is_one, nothing_can_stand
use Rattle.std.proofs.Common.{◌≡◌, ◌⊎◌, inl, inr, ℕ, ◌+◌, ◌<◌, ◌≤◌, nat_lt, Bool, false, List, [], ◌∷◌, ◌++◌}
use Rattle.std.proofs.Common.{length, take, sym, ◌∙◌, ap, subst, arith, append_assoc, length-append}
use Rattle.std.proofs.Math.Seq.{take-length}
use Rattle.std.proofs.lemmas.Bool.{cases_lt}
use Rattle.std.proofs.lemmas.List.{append-nil, length-take-le}
use Rattle.abnfread.specs.Element.{Rule}
use Rattle.abnfcheck.specs.Prefixes.{IsFurthest}
use Rattle.abnfcheck.specs.Derivable.{AreLetters, RuleDerives}
use Rattle.ruletable.specs.Letters.{has}
use Rattle.ruletable.specs.Utf8Text.{IsLongestText, Spells}
use Rattle.ruletable.specs.declared.alphabet.Alphabet.{Alphabet}
use Rattle.ruletable.specs.declared.alphabet.Alphabet.TheVariants.{Bytes, Utf8}
use Rattle.refusedlines.specs.declared.letterruns.run.LetterRun.{LetterRun}
use Rattle.refusedlines.specs.Following.{AreFollowing, DerivesNothing}
use Rattle.refusedlines.specs.RefusedText.{column_after, refused_at, unit_text}
use Rattle.refusedlines.specs.declared.refusal.LineUnit.{LineUnit}
use Rattle.refusedlines.specs.PartTexts.{AreTextsAfter}
use Rattle.refusedlines.specs.Refusals.{AreFirstLetters, IsRefusalReported, octet_count}
use Rattle.refusedlines.specs.RuleNames.{name_at}
use Rattle.refusedlines.proofs.PartTextsLemmas.{after_one}
use Rattle.lowering.specs.Pruned.{ArePruned}

longest_one : (line : List ℕ) (a b : ℕ) → IsLongestText line a → IsLongestText line b → a ≡ b
longest_one line a b f g = by (cases_lt a b) (cases_lt b a)
  where
    by : (a < b) ⊎ (b ≤ a) → (b < a) ⊎ (a ≤ b) → a ≡ b
    by (inl lt) o = absurd (f.longest b lt g.within g.text)
    by (inr ge) (inl lt) = absurd (g.longest a lt f.within f.text)
    by (inr ge) (inr le) = omega (arith, ge, le)

module _ (one_spelled : (line points others : List ℕ) → Spells points line → Spells others line → points ≡ others)
    (one_furthest : (has : ℕ → Bool) (rules : List Rule) (id : ℕ) (x : List ℕ) (a b : ℕ) → IsFurthest has rules id x a
    → IsFurthest has rules id x b → a ≡ b)
    (one_following : (has : ℕ → Bool) (rules : List Rule) (id : ℕ) (x : List ℕ) (n : ℕ) (runs others : List LetterRun)
    (ends end : Bool) → AreFollowing has rules id x n runs ends → AreFollowing has rules id x n others end
    → (runs ≡ others) × (ends ≡ end))
    (one_pruned : (has : ℕ → Bool) (rules left other : List Rule) → ArePruned has rules left → ArePruned has rules other
    → left ≡ other) where
  letters_one : (alphabet : Alphabet) (line x y : List ℕ) (s t : ℕ) → AreFirstLetters alphabet line x s
      → AreFirstLetters alphabet line y t → (x ≡ y) × (s ≡ t)
  letters_one Bytes line x y s t h g = (h.0 ∙ sym g.0, h.1 ∙ sym g.1)
  letters_one Utf8 line x y s t h g =
      let same = longest_one line s t h.0 g.0 in
      (one_spelled (take t line) x y (subst (λ v. Spells x (take v line)) same h.1) g.1, same)

  pub one_text : (unit : LineUnit) (alphabet : Alphabet) (rules : List Rule) (judged : ℕ) (line : List ℕ) (number : ℕ)
      (a b : List ℕ) → IsRefusalReported unit alphabet rules judged line number a
      → IsRefusalReported unit alphabet rules judged line number b → a ≡ b
  one_text unit alphabet rules judged line number a b p q =
      let letters = letters_one alphabet line p.first q.first p.size q.size p.letters q.letters in
      let x = letters.0 in
      let s = letters.1 in
      let n = one_furthest (has alphabet) rules judged q.first p.after q.after
      (subst (λ v. IsFurthest (has alphabet) rules judged v p.after) x p.furthest) q.furthest in
      let moved = subst (λ v. AreFollowing (has alphabet) rules judged q.first v p.runs p.ends) n
      (subst (λ v. AreFollowing (has alphabet) rules judged v p.after p.runs p.ends) x p.following) in
      let f = one_following (has alphabet) rules judged q.first q.after p.runs q.runs p.ends q.ends moved q.following in
      let left = one_pruned (has alphabet) rules p.left q.left p.pruned q.pruned in
      let front : take p.after p.first ≡ take q.after q.first = λ i. take (n i) (x i) in
      let texts = subst (λ v. AreTextsAfter alphabet q.left judged v q.after p.parts) front
      (subst (λ v. AreTextsAfter alphabet q.left judged (take p.after p.first) v p.parts) n
      (subst (λ v. AreTextsAfter alphabet v judged (take p.after p.first) p.after p.parts) left p.texts)) in
      let parts = after_one alphabet q.left judged (take q.after q.first) q.after p.parts q.parts texts q.texts in
      p.is
      ∙ (λ i. unit_text unit alphabet (name_at rules judged) number line (refused_at (n i) (length (x i)) (nat_lt (s i)
      (length line))) (octet_count alphabet (take (n i) (x i))) (column_after (take (n i) (x i))) (f.0 i) (f.1 i)
      (parts i))
      ∙ sym q.is

module _ (has : ℕ → Bool) (rules : List Rule) (id : ℕ) (x : List ℕ) (n : ℕ) (furthest : IsFurthest has rules id x n)
    (none : AreFollowing has rules id x n [] false) where
  no_end : RuleDerives has rules id (take n x) → ⊥
  no_end d = let t = none.end.1 d in absurd (cc t)

  none_stands : {A : Type 0} → ⊥ → A
  none_stands h = elim h [ ]

  no_rest : (rest : List ℕ) → AreLetters has rest → RuleDerives has rules id (take n x ++ rest) → ⊥
  no_rest [] all d = no_end (subst (λ v. RuleDerives has rules id v) (append-nil (take n x)) d)
  no_rest (c ∷ rest) all d =
      let within = furthest.within in
      let whole = take n x ++ c ∷ [] in
      let front = length-take-le n x within in
      let size : length whole ≡ n + 1 = let sum = length-append (take n x) (c ∷ []) in omega (arith, sum, front) in
      let all_of : take (n + 1) whole ≡ whole = ap (λ v. take v whole) (sym size) ∙ take-length whole in
      none_stands ((none.letters c).1 (record {
        letter = all.0;
        begins = record {
          rest = rest;
          letters = all.1;
          derives = subst (λ v. RuleDerives has rules id (v ++ rest)) (sym all_of)
              (subst (λ v. RuleDerives has rules id v) (sym (append_assoc (take n x) (c ∷ []) rest)) d);
        };
      }))

  pub derives_none : DerivesNothing has rules id
  derives_none w all d = by (cases_lt 0 n)
    where
      by : (0 < n) ⊎ (n ≤ 0) → ⊥
      by (inl past) = let b = furthest.begins past in no_rest b.rest b.letters b.derives
      by (inr le) =
          let zero_is : n ≡ 0 = omega (arith, le) in
          let front : take n x ≡ [] = ap (λ v. take v x) zero_is in
          no_rest w all (subst (λ v. RuleDerives has rules id (v ++ w)) (sym front) d)
