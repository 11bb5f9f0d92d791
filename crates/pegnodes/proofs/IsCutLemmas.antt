-- A template is cut, and so is each of a grammar.
-- Serves: check_peg, SoundPeg::template
use Rattle.std.proofs.Common.{◌≡◌, ℕ, ◌+◌, ◌-◌, ◌≤◌, List, ◌++◌, length, take, drop, reverse}
use Rattle.std.proofs.Common.{refl, sym, ap, arith, ◌∙◌, Vec, Global, length-drop}
use Rattle.std.specs.Prelude.{slice_range}
use Rattle.std.proofs.lemmas.List.{drop-drop, take_rest}
use Rattle.pegnodes.specs.declared.template.Slot.{Slot}
use Rattle.pegnodes.specs.Slots.{put_in, AreSlots, IsCut}
use Rattle.pegnodes.specs.Templates.{filled, cut_front}
use Rattle.pegnodes.proofs.FilledBlanksLemmas.{filled_whole, trimmed_is}
use Rattle.pegnodes.proofs.PutInLemmas.{AreSlots-further, put_in-further, put_in-earlier}

module _ (t : List ℕ) (n m : ℕ) (slots : Vec Slot Global) (start : n ≤ length t) (size : m ≤ length (drop n t))
    (front : drop n t ≡ cut_front t) (back : reverse (take m (drop n t)) ≡ cut_front (reverse (drop n t)))
    (order : AreSlots n slots.items (n + m))
    (is : (c : List ℕ) → filled (slice_range t n (n + m)) c ≡ put_in t c n slots.items (n + m)) where
  ends_within : n + m ≤ length t
  ends_within = omega (arith, length-drop n t)

  middle_is : slice_range t n (n + m) ≡ take m (drop n t)
  middle_is = let long : n + m - n ≡ m = omega arith in rw long refl

  front_is : slice_range t 0 n ≡ take n t
  front_is = let long : n - 0 ≡ n = omega arith in rw long refl

  back_is : slice_range t (n + m) (length t) ≡ drop m (drop n t)
  back_is = take_rest t (n + m) ∙ sym (drop-drop m n t)

  whole_is : (c : List ℕ) → filled t c ≡ put_in t c 0 slots.items (length t)
  whole_is c =
      let ends : put_in t c n slots.items (length t)
      ≡ put_in t c n slots.items (n + m) ++ slice_range t (n + m) (length t) =
      put_in-further t c n slots.items (n + m) (length t) order ends_within in
      let begins : put_in t c 0 slots.items (length t)
      ≡ slice_range t 0 n ++ put_in t c n slots.items (length t) =
      put_in-earlier t c 0 n slots.items (length t) (omega arith)
      (AreSlots-further n slots.items (n + m) (length t) order ends_within) in
      let inner : filled (take m (drop n t)) c ≡ put_in t c n slots.items (n + m) =
      ap (λ v. filled v c) (sym middle_is) ∙ is c in
      filled_whole t n m front back c ∙ rw inner (sym (begins ∙ ap (λ v. slice_range t 0 n ++ v) ends
      ∙ ap (λ v. v ++ (put_in t c n slots.items (n + m) ++ slice_range t (n + m) (length t))) front_is
      ∙ ap (λ v. take n t ++ (put_in t c n slots.items (n + m) ++ v)) back_is))

  pub IsCut-middle : IsCut t (record { from = n; to = n + m; slots = slots })
  IsCut-middle = record {
    within = ends_within;
    order = order;
    whole = whole_is;
    between_blanks = λ c. ap (λ v. filled v c) (sym (trimmed_is t (drop n t) (slice_range t n (n + m)) front
        (rw middle_is back))) ∙ is c;
  }
