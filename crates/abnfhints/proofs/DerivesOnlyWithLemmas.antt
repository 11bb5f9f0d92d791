-- Rules that derive something, but nothing without a letter.
-- Serves: abnf_hints
use Rattle.std.proofs.Common.{◌≡◌, ◌↔◌, ℕ, ◌<◌, ◌⊎◌, inl, inr, ⊎_elim, Bool, true, false, not, List, [], ◌∷◌, refl}
use Rattle.std.proofs.Common.{subst, zero, suc, map, Some, lit<}
use Rattle.std.specs.Prelude.{Contains, IsTrue, slice_get, slice_index_or}
use Rattle.std.proofs.lemmas.Bool.{cases_eq}
use Rattle.fixpoint.proofs.ContainsLemmas.{none_of, in_first, in_later, cons_cases}
use Rattle.abnfcheck.specs.AbnfGrammar.{IsSound}
use Rattle.abnfcheck.specs.Derivable.{AreLetters, RuleDerives}
use Rattle.abnfcheck.specs.AbnfUses.{rule_names}
use Rattle.abnfread.specs.AbnfViews.{rule_of}
use Rattle.abnfread.specs.Element.{Rule}
use Rattle.abnfread.specs.declared.elem.Elem.{Elem}
use Rattle.ruletable.specs.Rules as table
use Rattle.abnfhints.specs.LineEnds.{end_byte}
use Rattle.abnfhints.specs.declared.line_end.LineEnd.{LineEnd}
use Rattle.abnfhints.specs.declared.line_end.LineEnd.TheVariants.{Lf, Nul}
use Rattle.abnfhints.specs.AbnfHints.{DerivesOnlyWith}
use Rattle.abnfhints.proofs.WithoutLemmas.{Sparing}

stands_or_not : (letter : ℕ) (w : List ℕ) → Contains w letter ⊎ (Contains w letter → ⊥)
stands_or_not letter [] = inr (λ h. none_of letter h)
stands_or_not letter (c ∷ w) = ⊎_elim
    (λ is. inl (subst (λ v. Contains (c ∷ w) v) is (in_first c w)))
    (λ ne. ⊎_elim (λ h. inl (in_later c letter w h))
    (λ never. inr (λ h. ⊎_elim (λ is. ne is) (λ later. never later) (cons_cases c letter w h)))
    (stands_or_not letter w))
    (cases_eq c letter)

module _ (has : ℕ → Bool) (letter : ℕ) (rules : List Rule) (id : ℕ) where
  only_with : IsSound rules id → (w : List ℕ) × AreLetters has w × RuleDerives has rules id w
      → (Sparing has letter rules id → ⊥) → DerivesOnlyWith has rules letter id
  only_with sound p never = record {
    sound = sound;
    word = p.0;
    letters = p.1;
    derives = p.2;
    holds = λ w letters derives. ⊎_elim (λ h. h)
        (λ out. absurd (never (record { word = w; letters = letters; derives = derives; avoids = out })))
        (stands_or_not letter w);
  }

  -- what the mark of the rule among those without the letter says
  pub only_reported : (kept : Bool) → IsSound rules id → (w : List ℕ) × AreLetters has w × RuleDerives has rules id w
      → ((kept ≡ true) ↔ Sparing has letter rules id) → IsTrue (not kept) ↔ DerivesOnlyWith has rules letter id
  only_reported true sound p reports = (
    (λ off. absurd (cc off)),
    (λ d. let s = reports.0 refl in absurd (s.avoids (d.holds s.word s.letters s.derives))),
  )
  only_reported false sound p reports = (
    (λ off. only_with sound p (λ s. let on = reports.1 s in absurd (cc on))),
    (λ d. refl),
  )

-- bytes that end lines have no case
pub end_low : (end : LineEnd) → end_byte end < 65
end_low Lf = lit< tt
end_low Nul = lit< tt

-- the name of the rule at an id
pub name_reported : (rules : List (table.Rule Elem)) (id : ℕ) (name : List ℕ)
    → slice_get (map (λ rule. rule.name) rules) id ≡ Some name
    → slice_index_or (rule_names (map rule_of rules)) id [] ≡ name
name_reported [] id name at = absurd (cc at)
name_reported (rule ∷ rules) zero name at = let same : rule.name ≡ name = cc at in same
name_reported (rule ∷ rules) (suc id) name at = name_reported rules id name at
