-- A template whose ends are no word bytes.
-- Serves: check_peg
use Rattle.std.proofs.Common.{◌≡◌, ℕ, Bool, true, false, List, [], ◌∷◌, ◌++◌, length}
use Rattle.std.proofs.Common.{take, drop, reverse, refl, sym, ap, subst, arith, ◌∙◌, append-nil}
use Rattle.std.proofs.Common.{length-append}
use Rattle.std.specs.List.{flat_map}
use Rattle.std.proofs.lemmas.Grind.{flat_map-append}
use Rattle.std.proofs.lemmas.Bool.Decides.{nat_tests}
use Rattle.std.proofs.lemmas.List.{reverse-append, reverse-reverse, take-append-drop}
use Rattle.pegnodes.specs.Templates.{is_word, is_blank, Piece, Word, Other, onto_run, pieces_of, filled_piece, filled}
use Rattle.pegnodes.specs.Templates.{cut_front, trimmed}
use Rattle.pegnodes.proofs.FilledRunLemmas.{Apart, pieces_of_other}

-- no word bytes
abbrev pub AreOther : List ℕ → Type 0
AreOther [] = Unit {0}
AreOther (b ∷ bytes) = (is_word b ≡ false) × AreOther bytes

AreOther-join : (s t : List ℕ) → AreOther s → AreOther t → AreOther (s ++ t)
AreOther-join [] t f g = g
AreOther-join (b ∷ s) t f g = (f.0, AreOther-join s t f.1 g)

AreOther-reverse : (s : List ℕ) → AreOther s → AreOther (reverse s)
AreOther-reverse [] f = tt
AreOther-reverse (b ∷ s) f = rw (reverse-append (b ∷ []) s) (AreOther-join (reverse s) (b ∷ []) (AreOther-reverse s f.1)
    (f.0, tt))

-- a blank is no word byte
blank_other : (b : ℕ) → is_blank b ≡ true → is_word b ≡ false
blank_other b h = grind (arith, nat_tests)

-- what is cut from the front has no word bytes
pub others_before : (front rest : List ℕ) → rest ≡ cut_front (front ++ rest) → AreOther front
others_before [] rest is = tt
others_before (b ∷ front) rest is = both (others_before front rest) (is_blank b) refl
  where
    both : (rest ≡ cut_front (front ++ rest) → AreOther front) → (v : Bool) → is_blank b ≡ v → AreOther (b ∷ front)
    both less true h = (blank_other b h, less (rw h at is))
    both less false h =
        let same : rest ≡ b ∷ (front ++ rest) = rw h at is in
        absurd (omega (arith, ap length same, length-append front rest))

-- put before a template, they stand
pub filled_before : (front rest c : List ℕ) → AreOther front → filled (front ++ rest) c ≡ front ++ filled rest c
filled_before [] rest c f = refl
filled_before (b ∷ front) rest c f = rw (pieces_of_other b (front ++ rest) f.0) (ap (λ v. b ∷ v)
    (filled_before front rest c f.1))

apart_others : (g : List ℕ) → AreOther g → Apart (pieces_of g)
apart_others [] f = λ r. refl
apart_others (b ∷ g) f = rw (pieces_of_other b g f.0) (λ r. refl)

onto_run_apart : (b : ℕ) (ps qs : List Piece) → Apart qs → onto_run b (ps ++ qs) ≡ onto_run b ps ++ qs
onto_run_apart b [] qs apart = apart b
onto_run_apart b (Word run ∷ ps) qs apart = refl
onto_run_apart b (Other d ∷ ps) qs apart = refl

pieces_before : (s g : List ℕ) → AreOther g → pieces_of (s ++ g) ≡ pieces_of s ++ pieces_of g
pieces_before [] g f = refl
pieces_before (b ∷ s) g f = both (pieces_before s g f) (is_word b) refl
  where
    both : pieces_of (s ++ g) ≡ pieces_of s ++ pieces_of g → (v : Bool) → is_word b ≡ v →
        pieces_of ((b ∷ s) ++ g) ≡ pieces_of (b ∷ s) ++ pieces_of g
    both less true h = rw (h, less) (onto_run_apart b (pieces_of s) (pieces_of g) (apart_others g f))
    both less false h = rw (h, less) refl

-- put after a template, they stand
pub filled_after : (s g c : List ℕ) → AreOther g → filled (s ++ g) c ≡ filled s c ++ g
filled_after s g c f =
    let stand : filled g c ≡ g = ap (λ v. filled v c) (sym (append-nil g)) ∙ filled_before g [] c f ∙ append-nil g in
    ap (λ v. flat_map (filled_piece c) v) (pieces_before s g f)
    ∙ flat_map-append (filled_piece c) (pieces_of s) (pieces_of g)
    ∙ ap (λ v. filled s c ++ v) stand

-- a text without its blanks
pub trimmed_is : (t rest piece : List ℕ) → rest ≡ cut_front t → reverse piece ≡ cut_front (reverse rest)
    → piece ≡ trimmed t
trimmed_is t rest piece front back = sym (reverse-reverse piece)
    ∙ ap reverse (back ∙ ap (λ v. cut_front (reverse v)) front)

module _ (t : List ℕ) (n m : ℕ) (front : drop n t ≡ cut_front t)
    (back : reverse (take m (drop n t)) ≡ cut_front (reverse (drop n t))) where
  -- the template is what stands before its middle, the middle, and what stands after it
  in_three : take n t ++ (take m (drop n t) ++ drop m (drop n t)) ≡ t
  in_three = ap (λ v. take n t ++ v) (take-append-drop m (drop n t)) ∙ take-append-drop n t

  others_in_front : AreOther (take n t)
  others_in_front = others_before (take n t) (drop n t) (rw (take-append-drop n t) front)

  others_after : AreOther (drop m (drop n t))
  others_after =
      let turned : reverse (drop m (drop n t)) ++ reverse (take m (drop n t)) ≡ reverse (drop n t) =
      sym (reverse-append (take m (drop n t)) (drop m (drop n t))) ∙ ap reverse (take-append-drop m (drop n t)) in
      subst AreOther (reverse-reverse (drop m (drop n t))) (AreOther-reverse (reverse (drop m (drop n t)))
      (others_before (reverse (drop m (drop n t))) (reverse (take m (drop n t))) (back ∙ ap cut_front (sym turned))))

  pub filled_whole : (c : List ℕ) → filled t c ≡ take n t ++ (filled (take m (drop n t)) c ++ drop m (drop n t))
  filled_whole c = ap (λ v. filled v c) (sym in_three)
      ∙ filled_before (take n t) (take m (drop n t) ++ drop m (drop n t)) c others_in_front
      ∙ ap (λ v. take n t ++ v) (filled_after (take m (drop n t)) (drop m (drop n t)) c others_after)
