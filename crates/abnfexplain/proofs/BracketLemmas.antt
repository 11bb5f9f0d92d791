-- The last bracket of a list is the first of its reverse.
-- Serves: explain_fault
use Rattle.std.proofs.Common.{◌≡◌, ℕ, ◌-◌, ◌⊎◌, inl, inr, Some, List, [], ◌∷◌, ◌++◌}
use Rattle.std.proofs.Common.{length, reverse, slice_get}
use Rattle.std.proofs.Common.{refl, sym, ap, ◌∙◌, arith, length-append}
use Rattle.std.proofs.Math.Seq.{get_or-append_seam}
use Rattle.std.proofs.lemmas.List.{reverse-append}
use Rattle.std.proofs.lemmas.Option.{slice_get-get_or}
use Rattle.abnfexplain.specs.declared.abnf_stand.OpenBracket.{OpenBracket}
use Rattle.abnfexplain.specs.AbnfStands.{innermost}

record EndsWith (xs : List OpenBracket) : Type 0 where
  front : List OpenBracket
  last : OpenBracket
  whole : xs ≡ front ++ last ∷ []

empty-or_ends : (xs : List OpenBracket) → (xs ≡ []) ⊎ EndsWith xs
empty-or_ends [] = inl refl
empty-or_ends (x ∷ xs) = inr (after x (empty-or_ends xs))
  where
    after : {ys : List OpenBracket} (y : OpenBracket) → (ys ≡ []) ⊎ EndsWith ys → EndsWith (y ∷ ys)
    after y (inl e) = record { front = []; last = y; whole = ap (λ (t : List OpenBracket). y ∷ t) e }
    after y (inr h) = record {
      front = y ∷ h.front;
      last = h.last;
      whole = ap (λ (t : List OpenBracket). y ∷ t) h.whole;
    }

last-there : (front : List OpenBracket) (last : OpenBracket)
    → slice_get (front ++ last ∷ []) (length (front ++ last ∷ []) - 1)
    ≡ Some last
last-there front last =
    let size : length (front ++ last ∷ []) - 1 ≡ length front = omega (arith, length-append front (last ∷ [])) in
    ap (λ (i : ℕ). slice_get (front ++ last ∷ []) i) size
    ∙ slice_get-get_or (front ++ last ∷ []) (length front) last (omega (arith, length-append front (last ∷ [])))
    ∙ ap Some (get_or-append_seam front last [] last)

pub innermost-last : (xs : List OpenBracket) → innermost (reverse xs) ≡ slice_get xs (length xs - 1)
innermost-last xs = by-end (empty-or_ends xs)
  where
    by-end : (xs ≡ []) ⊎ EndsWith xs → innermost (reverse xs) ≡ slice_get xs (length xs - 1)
    by-end (inl e) = rw e refl
    by-end (inr h) =
        let e = h.whole in
        let top : innermost (reverse (h.front ++ h.last ∷ [])) ≡ Some h.last =
        ap innermost (reverse-append h.front (h.last ∷ [])) in
        rw e (top ∙ sym (last-there h.front h.last))
