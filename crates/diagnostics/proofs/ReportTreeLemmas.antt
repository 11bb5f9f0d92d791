-- The names that words use, part by part.
-- Serves: nothing_left_out, no_name_left_out
use Rattle.std.proofs.Common.{◌≡◌, ℕ, List, [], ◌∷◌, ◌++◌, map, refl, sym, ◌∙◌, ap, append_assoc}
use Rattle.std.proofs.lemmas.List.{map-append}
use Rattle.diagnostics.specs.ReportedTrees.{Heading}

-- the names, each with that position
abbrev pub placed : ℕ → List (List ℕ) → List (ℕ × List ℕ)
placed d names = map (λ name. (d, name)) names

module _ {W : Type 0} (uses : ℕ → List W → List (ℕ × List ℕ)) (heads : List W → List Heading)
    (Onward : List W → Type 0) where
  -- the words of s before r use the names, and begin no definition
  pub record Keeps (s r : List W) (names : List (List ℕ)) : Type 0 where
    pub uses_are : (d : ℕ) → uses d s ≡ placed d names ++ uses d r
    pub heads_are : heads s ≡ heads r
    pub onward : Onward s

  pub keeps-none : (s : List W) → Onward s → Keeps s s []
  keeps-none s o = record { uses_are = λ d. refl; heads_are = refl; onward = o }

  pub keeps-both : {s m r : List W} {names others : List (List ℕ)} → Keeps s m names → Keeps m r others
      → Keeps s r (names ++ others)
  keeps-both {s} {m} {r} {names} {others} h k = record {
    uses_are = λ d. h.uses_are d ∙ ap (λ (us : List (ℕ × List ℕ)). placed d names ++ us) (k.uses_are d)
        ∙ sym (append_assoc (placed d names) (placed d others) (uses d r))
        ∙ ap (λ (us : List (ℕ × List ℕ)). us ++ uses d r) (sym (map-append (λ name. (d, name)) names others));
    heads_are = h.heads_are ∙ k.heads_are;
    onward = h.onward;
  }

  pub keeps-names : {s r : List W} {names others : List (List ℕ)} → names ≡ others → Keeps s r names
      → Keeps s r others
  keeps-names {s} {r} e h = record {
    uses_are = λ d. h.uses_are d ∙ ap (λ (ns : List (List ℕ)). placed d ns ++ uses d r) e;
    heads_are = h.heads_are;
    onward = h.onward;
  }

  -- one more word before s, which uses and begins nothing
  pub keeps-before : (w : W) {s r : List W} {names : List (List ℕ)} → ((d : ℕ) → uses d (w ∷ s) ≡ uses d s)
      → heads (w ∷ s) ≡ heads s → Onward (w ∷ s) → Keeps s r names → Keeps (w ∷ s) r names
  keeps-before w same like o h = record {
    uses_are = λ d. same d ∙ h.uses_are d;
    heads_are = like ∙ h.heads_are;
    onward = o;
  }

  -- one more word after s
  pub keeps-after : (w : W) {s r : List W} {names : List (List ℕ)} → ((d : ℕ) → uses d (w ∷ r) ≡ uses d r)
      → heads (w ∷ r) ≡ heads r → Keeps s (w ∷ r) names → Keeps s r names
  keeps-after w {names = names} same like h = record {
    uses_are = λ d. h.uses_are d ∙ ap (λ (us : List (ℕ × List ℕ)). placed d names ++ us) (same d);
    heads_are = h.heads_are ∙ like;
    onward = h.onward;
  }
