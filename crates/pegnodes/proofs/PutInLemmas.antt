-- The text with the capture put in its slots, slot by slot.
-- Serves: check_peg
use Rattle.std.proofs.Common.{◌≡◌, ℕ, zero, ◌+◌, ◌-◌, ◌≤◌, List, [], ◌∷◌, ◌++◌, take, drop}
use Rattle.std.proofs.Common.{refl, sym, ap, ◌∙◌, arith, append_assoc, append-nil}
use Rattle.std.specs.Prelude.{slice_range}
use Rattle.std.proofs.Math.Seq.{take-add}
use Rattle.std.proofs.lemmas.List.{drop-drop}
use Rattle.pegnodes.specs.declared.template.Put.{Put}
use Rattle.pegnodes.specs.declared.template.Slot.{Slot}
use Rattle.pegnodes.specs.Slots.{put_text, put_in, AreSlots, IsMore}
use Rattle.pegnodes.specs.Templates.{Word, filled_piece}

pub range_join : (t : List ℕ) (p q r : ℕ) → p ≤ q → q ≤ r → slice_range t p r ≡ slice_range t p q ++ slice_range t q r
range_join t p q r le more =
    let size : r - p ≡ (q - p) + (r - q) = omega arith in
    let there : p + (q - p) ≡ q = omega arith in
    rw (size, take-add (q - p) (r - q) (drop p t)) (ap (λ l. slice_range t p q ++ take (r - q) l)
    (drop-drop (q - p) p t ∙ ap (λ k. drop k t) there))

pub empty_range : (t : List ℕ) (i : ℕ) → slice_range t i i ≡ []
empty_range t i = let size : i - i ≡ zero = omega arith in rw size refl

pub AreSlots-ordered : (p : ℕ) (slots : List Slot) (q : ℕ) → AreSlots p slots q → p ≤ q
AreSlots-ordered p [] q h = h
AreSlots-ordered p (s ∷ slots) q h =
    let rest : s.to ≤ q = AreSlots-ordered s.to slots q h.2 in
    let one : p ≤ s.from = h.0 in
    let two : s.from ≤ s.to = h.1 in
    omega arith

pub AreSlots-further : (p : ℕ) (slots : List Slot) (q r : ℕ) → AreSlots p slots q → q ≤ r → AreSlots p slots r
AreSlots-further p [] q r h more = omega arith
AreSlots-further p (s ∷ slots) q r h more = (h.0, h.1, AreSlots-further s.to slots q r h.2 more)

pub AreSlots-earlier : (o p : ℕ) (slots : List Slot) (q : ℕ) → o ≤ p → AreSlots p slots q → AreSlots o slots q
AreSlots-earlier o p [] q less h = omega arith
AreSlots-earlier o p (s ∷ slots) q less h = let one : p ≤ s.from = h.0 in (omega arith, h.1, h.2)

pub AreSlots-more : (p : ℕ) (slots : List Slot) (s : Slot) → AreSlots p slots s.from → s.from ≤ s.to
    → AreSlots p (slots ++ s ∷ []) s.to
AreSlots-more p [] s h le = (h, le, omega arith)
AreSlots-more p (one ∷ slots) s h le = (h.0, h.1, AreSlots-more one.to slots s h.2 le)

module _ (t c : List ℕ) where
  pub put_in-further : (p : ℕ) (slots : List Slot) (q r : ℕ) → AreSlots p slots q → q ≤ r → put_in t c p slots r
      ≡ put_in t c p slots q ++ slice_range t q r
  put_in-further p [] q r h more = range_join t p q r h more
  put_in-further p (s ∷ slots) q r h more = rw (put_in-further s.to slots q r h.2 more) (simp append_assoc)

  pub put_in-earlier : (o p : ℕ) (slots : List Slot) (q : ℕ) → o ≤ p → AreSlots p slots q → put_in t c o slots q
      ≡ slice_range t o p ++ put_in t c p slots q
  put_in-earlier o p [] q less h = range_join t o p q less h
  put_in-earlier o p (s ∷ slots) q less h = rw (range_join t o p s.from less h.0) (simp append_assoc)

  pub put_in-more : (p : ℕ) (slots : List Slot) (s : Slot) (q : ℕ) → put_in t c p (slots ++ s ∷ []) q
      ≡ put_in t c p slots s.from ++ (put_text c s.put ++ slice_range t s.to q)
  put_in-more p [] s q = refl
  put_in-more p (one ∷ slots) s q = rw (put_in-more one.to slots s q) (simp append_assoc)

module _ (t : List ℕ) (p q : ℕ) (le : p ≤ q) where
  -- the run stands
  pub IsMore-run : (slots : List Slot)
      → ((c : List ℕ) → filled_piece c (Word (slice_range t p q)) ≡ slice_range t p q) → IsMore t p q slots slots
  IsMore-run slots stands = record {
    order = λ o h. AreSlots-further o slots p q h le;
    with_run = λ o c h. put_in-further t c o slots p q h le
        ∙ ap (λ v. put_in t c o slots p ++ v) (sym (stands c));
  }

  -- something takes its place
  pub IsMore-slot : (slots : List Slot) (put : Put)
      → ((c : List ℕ) → filled_piece c (Word (slice_range t p q)) ≡ put_text c put) →
      IsMore t p q slots (slots ++ record { from = p; to = q; put = put } ∷ [])
  IsMore-slot slots put takes = record {
    order = λ o h. AreSlots-more o slots (record { from = p; to = q; put = put }) h le;
    with_run = λ o c h. put_in-more t c o slots (record { from = p; to = q; put = put }) q
        ∙ ap (λ v. put_in t c o slots p ++ v) (ap (λ v. put_text c put ++ v) (empty_range t q)
        ∙ append-nil (put_text c put) ∙ sym (takes c));
  }
