-- Symbols that no set of a flat grammar distinguishes, by the elements that its nodes spell.
-- Serves: of_samples
use Rattle.std.proofs.Common.{◌≡◌, refl, sym, subst, arith, ℕ, ◌+◌, ◌<◌, Bool, true, false, List, [], ◌∷◌}
use Rattle.std.proofs.Common.{length, map, Some, ◌↔◌}
use Rattle.std.proofs.lemmas.List.{length-map}
use Rattle.std.proofs.lemmas.Option.{slice_get_within}
use Rattle.std.specs.Prelude.{Contains, slice_get}
use Rattle.abnfcheck.specs.Derivable.{StandsFor}
use Rattle.abnfread.specs.Element.{Element, Elements, Rule, bodies}
use Rattle.flatgrammar.specs.Flat.{at, Between, Exactly, Flat, Has, Letters, Node, Set, letter, reads}
use Rattle.flatgrammar.specs.Stacks.{AreAlike}
use Rattle.flatgrammar.proofs.CallOfLemmas.{get_map}
use Rattle.lazydfa.proofs.StateSetsLemmas.{got_at}
use Rattle.lowering.specs.Lowered.{IsLowered, Shows, SpellAll, Spells, letter_set, shows_alt, shows_concat}
use Rattle.lowering.specs.Lowered.{shows_iterations, shows_name, shows_opt, shows_prose, shows_range, shows_rep}
use Rattle.lowering.specs.Lowered.{shows_reversed, shows_text, shows_values, spell_more, spell_none, spells}
use Rattle.abnfcheck.specs.AlikeSymbols.{AreAlikeIn, AreAlikeInAll, AreAlikeInRules}
use Rattle.rulelines.proofs.StatePairsLemmas.{element_at}

-- a set that stands for a symbol of a text
set_stands : (folds : Bool) (t c : ℕ) → Has (letter_set folds t) c ≡ StandsFor folds t c
set_stands true t c = refl
set_stands false t c = refl

module _ (rules : List Rule) (flat : Flat) (c d : ℕ) (alike : AreAlike flat c d) where
  set_alike : (s k : ℕ) (sets : List Set) (set : Set) → slice_get flat.nodes s ≡ Some (Letters sets)
      → slice_get sets k ≡ Some set → Has set c ↔ Has set d
  set_alike s k sets set at_s at_k = alike (at s k) (at s (k + 1)) set (reads at_s (letter at_k))

  text_alike : (s : ℕ) (folds : Bool) (t : List ℕ) (sets : List Set) → slice_get flat.nodes s ≡ Some (Letters sets)
      → sets ≡ map (letter_set folds) t → (x : ℕ) → Contains t x → StandsFor folds x c ↔ StandsFor folds x d
  text_alike s folds t sets at_s is x h =
      let at_k = subst (λ v. slice_get v h.0 ≡ Some (letter_set folds x)) (sym is)
      (get_map (letter_set folds) t h.0 (got_at t x h)) in
      subst (λ v. v ↔ StandsFor folds x d) (set_stands folds x c)
      (subst (λ v. Has (letter_set folds x) c ↔ v) (set_stands folds x d)
      (set_alike s h.0 sets (letter_set folds x) at_s at_k))

  mutual
    spells_alike : {s : ℕ} {el : Element} → Spells rules flat.limit flat.nodes s el → AreAlikeIn c d el
    spells_alike (spells {s = s} {node = node} is shown) = shows_alike s is shown

    shows_alike : (s : ℕ) {node : Node} {el : Element} → slice_get flat.nodes s ≡ Some node
        → Shows rules flat.limit flat.nodes node el → AreAlikeIn c d el
    shows_alike s at_s (shows_text {folds = folds} {t = t} {sets = sets} is) = text_alike s folds t sets at_s is
    shows_alike s at_s (shows_values {vs = vs} {sets = sets} is) = λ v h.
        set_alike s h.0 sets (Exactly v) at_s
        (subst (λ l. slice_get l h.0 ≡ Some (Exactly v)) (sym is) (get_map Exactly vs h.0 (got_at vs v h)))
    shows_alike s at_s (shows_range {low = low} {high = high}) =
        set_alike s 0 (Between low high ∷ []) (Between low high) at_s refl
    shows_alike s at_s (shows_concat ms) = all_alike ms
    shows_alike s at_s (shows_alt ms) = all_alike ms
    shows_alike s at_s (shows_rep low high bounds never sp) = λ _. spells_alike sp
    shows_alike s at_s (shows_iterations high bounds empty sp) = λ _. spells_alike sp
    shows_alike s at_s (shows_reversed {a = a} {b = b} lt) = λ le. absurd (omega (arith, lt, le))
    shows_alike s at_s (shows_opt sp) = spells_alike sp
    shows_alike s at_s (shows_name is) = tt
    shows_alike s at_s shows_prose = tt

    all_alike : {ms : List ℕ} {es : Elements} → SpellAll rules flat.limit flat.nodes ms es → AreAlikeInAll c d es
    all_alike spell_none = tt
    all_alike (spell_more sp rest) = (spells_alike sp, all_alike rest)

  pub lowered_alike : (judged : ℕ) → IsLowered rules judged flat → AreAlikeInRules rules c d
  lowered_alike judged lowered id el is =
      let within = body_within id el is in
      let m = element_at flat.bodies id within in
      let g = lowered.spelled.spelled id m.0 m.1 in
      let same : g.0 ≡ el = cc (g.1, is) in
      subst (λ v. AreAlikeIn c d v) same (spells_alike g.2)
    where
      body_within : (id : ℕ) (el : Element) → slice_get (bodies rules) id ≡ Some el → id < length flat.bodies
      body_within id el is =
          let lt = slice_get_within (bodies rules) id el is in
          let size = length-map rules (λ (rule : Rule). rule.body) in
          let count = lowered.spelled.count in
          omega (arith, lt, size, count)
