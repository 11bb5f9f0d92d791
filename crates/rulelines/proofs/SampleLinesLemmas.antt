-- Lines of symbols each of which comes before all that no set distinguishes from it.
-- Serves: of_samples
use Rattle.std.proofs.Common.{◌≡◌, ◌∙◌, ◌⊎◌, inl, inr, refl, sym, subst, ℕ, ◌≤◌, Bool, true, false, List, []}
use Rattle.std.proofs.Common.{◌∷◌, length, Some, ◌↔◌, ◌&&◌}
use Rattle.std.specs.Prelude.{Contains}
use Rattle.abnfcheck.specs.AbnfGrammar.{Reachable}
use Rattle.abnfcheck.specs.AlikeSymbols.{AreAlikeFor, AreAlikeIn, AreAlikeInAll, AreAlikeInRules}
use Rattle.abnfcheck.specs.Derivable.{AreLetters, RuleDerives}
use Rattle.abnfcheck.specs.ReachedGrammar.{AreReachedOf}
use Rattle.abnfread.specs.Element as e
use Rattle.abnfread.specs.Element.{Element, Elements, Rule, bodies, more, none}
use Rattle.flatgrammar.specs.Flat.{Flat}
use Rattle.flatgrammar.specs.FlatVerdicts.{DerivesLine}
use Rattle.ruletable.specs.declared.alphabet.Alphabet.{Alphabet}
use Rattle.ruletable.specs.Letters.{has as has_letter}
use Rattle.rulelines.specs.FirstLines.{sort_key}
use Rattle.rulelines.specs.LineSets.{allows_key, is_line_symbol}
use Rattle.rulelines.specs.SampleLines.{AreFirstOf, AreSampleLines, IsFirstOf}
use Rattle.rulelines.specs.Starts.{AreClassStarts}
use Rattle.rulelines.proofs.LineOrderLemmas.{inner_letters}
use Rattle.rulelines.proofs.ListedSetsLemmas.{any_contained, contained_any}

iff_join : {A B C : Type 0} → A ↔ B → B ↔ C → A ↔ C
iff_join first then = (λ a. then.0 (first.0 a), λ c. first.1 (then.1 c))

-- what is alike to one that is alike to another is alike to that
module _ (b c d : ℕ) where
  mutual
    alike_join : (el : Element) → AreAlikeIn b c el → AreAlikeIn c d el → AreAlikeIn b d el
    alike_join (e.Text folds text) first then = λ t h. iff_join (first t h) (then t h)
    alike_join (e.Values values) first then = λ v h. iff_join (first v h) (then v h)
    alike_join (e.Range low high) first then = iff_join first then
    alike_join (e.Concat es) first then = all_join es first then
    alike_join (e.Alt es) first then = all_join es first then
    alike_join (e.Rep least most el) first then = λ le. alike_join el (first le) (then le)
    alike_join (e.Opt el) first then = alike_join el first then
    alike_join (e.Name n) first then = tt
    alike_join (e.Prose text) first then = tt

    all_join : (es : Elements) → AreAlikeInAll b c es → AreAlikeInAll c d es → AreAlikeInAll b d es
    all_join none first then = tt
    all_join (more el es) first then = (alike_join el first.0 then.0, all_join es first.1 then.1)

pub rules_join : (rules : List Rule) (b c d : ℕ) → AreAlikeInRules rules b c → AreAlikeInRules rules c d
    → AreAlikeInRules rules b d
rules_join rules b c d first then id el is = alike_join b c d el (first id el is) (then id el is)

-- the rules that are reached distinguish the same symbols
module _ (rules : List Rule) (judged : ℕ) (kept : List Rule) (are : AreReachedOf rules judged kept) (c d : ℕ) where
  alike_reached : AreAlikeInRules kept c d → AreAlikeFor rules judged c d
  alike_reached alike id el r is = alike id el (are.reached id r ∙ is)

  reached_alike : AreAlikeFor rules judged c d → AreAlikeInRules kept c d
  reached_alike alike id el is = by (are.others id el is)
    where
      by : Reachable rules judged id ⊎ (el ≡ e.Concat none) → AreAlikeIn c d el
      by (inl r) = alike id el r (sym (are.reached id r) ∙ is)
      by (inr empty) = subst (λ v. AreAlikeIn c d v) (sym empty) tt

-- symbols of these keys
and_split : (a b : Bool) → (a && b) ≡ true → (a ≡ true) × (b ≡ true)
and_split true b is = (refl, is)
and_split false b is = absurd (cc is)

and_both : (a b : Bool) → a ≡ true → b ≡ true → (a && b) ≡ true
and_both a b first second = rw (first, second) refl

-- their keys start classes
pub keys_start : (flat : Flat) (alphabet : Alphabet) (terminator : ℕ) (keys starts : List ℕ) → keys ≡ starts
    → AreClassStarts flat (λ c. allows_key (Some keys) (sort_key c) && is_line_symbol alphabet terminator c) starts
keys_start flat alphabet terminator keys starts same c is =
    let both = and_split (allows_key (Some keys) (sort_key c)) (is_line_symbol alphabet terminator c) is in
    inl (subst (λ v. Contains v (sort_key c)) same (any_contained keys (sort_key c) both.0))

module _ (alphabet : Alphabet) (terminator limit : ℕ) (rules : List Rule) (id : ℕ) (kept : List Rule)
    (reached : AreReachedOf rules id kept) (keys : List ℕ)
    (firsts : (c : ℕ) → is_line_symbol alphabet terminator c ≡ true → Contains keys (sort_key c)
    ↔ IsFirstOf (is_line_symbol alphabet terminator) (AreAlikeInRules kept) c) where
  abbrev Inner : ℕ → Bool
  Inner = is_line_symbol alphabet terminator

  abbrev IsFirst : ℕ → Type 0
  IsFirst = IsFirstOf Inner (AreAlikeFor rules id)

  abbrev Listed : ℕ → Bool
  Listed c = allows_key (Some keys) (sort_key c) && Inner c

  first_symbol : (c : ℕ) → Listed c ≡ true → (Inner c ≡ true) × IsFirst c
  first_symbol c is =
      let both = and_split (allows_key (Some keys) (sort_key c)) (Inner c) is in (
        both.1,
        λ d symbol alike. (firsts c both.1).0 (any_contained keys (sort_key c) both.0) d symbol
            (reached_alike rules id kept reached d c alike),
      )

  listed_symbol : (c : ℕ) → Inner c ≡ true → IsFirst c → Listed c ≡ true
  listed_symbol c symbol first = and_both (allows_key (Some keys) (sort_key c)) (Inner c)
      (contained_any keys (sort_key c) ((firsts c symbol).1 (λ d inner alike.
      first d inner (alike_reached rules id kept reached d c alike)))) symbol

  all_first : (w : List ℕ) → AreLetters Listed w → AreLetters Inner w × AreFirstOf Inner (AreAlikeFor rules id) w
  all_first [] all = (tt, tt)
  all_first (c ∷ w) all =
      let here = first_symbol c all.0 in
      let rest = all_first w all.1 in
      ((here.0, rest.0), (here.1, rest.1))

  all_listed : (w : List ℕ) → AreLetters Inner w → AreFirstOf Inner (AreAlikeFor rules id) w → AreLetters Listed w
  all_listed [] symbols first = tt
  all_listed (c ∷ w) symbols first =
      (listed_symbol c symbols.0 first.0, all_listed w symbols.1 first.1)

  pub sample_lines : (flat : Flat)
      → ((has : ℕ → Bool) (x : List ℕ) → length x ≤ limit → AreLetters has x
      → DerivesLine flat x ↔ RuleDerives has rules id x)
      → AreSampleLines alphabet terminator limit rules id (record {
        flat = flat;
        symbols = record { alphabet = alphabet; terminator = terminator; only = Some keys };
        limit = limit;
      })
  sample_lines flat derives w = (
    λ l. let all = all_first w l.symbols in
        record {
          line = record {
            symbols = all.0;
            within = l.within;
            derives = (derives (has_letter alphabet) w l.within (inner_letters alphabet terminator w all.0)).0
                l.derives;
          };
          firsts = all.1;
        },
    λ s. record {
      symbols = all_listed w s.line.symbols s.firsts;
      within = s.line.within;
      derives = (derives (has_letter alphabet) w s.line.within
          (inner_letters alphabet terminator w s.line.symbols)).1 s.line.derives;
    },
  )
