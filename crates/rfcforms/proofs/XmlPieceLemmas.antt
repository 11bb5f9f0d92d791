-- The pieces of an XML text.
-- Serves: marked_text; one_masking of abnfblocks
use Rattle.std.proofs.Common.{◌≡◌, ℕ, ◌-◌, ◌<◌, ◌≤◌, List, [], ◌∷◌, ◌++◌}
use Rattle.std.proofs.Common.{length, take, drop, refl, ap, ◌∙◌, arith}
use Rattle.std.proofs.lemmas.List.{length-drop}
use Rattle.rfcforms.specs.XmlPieces.{MarksPieces, all_read, next_piece, piece_marked, piece_size}
use Rattle.rfcforms.specs.XmlPieces.{next_region}
use Rattle.rfcforms.specs.declared.xml.region.Region.{Region}
use Rattle.rfcforms.specs.declared.xml.region.Region.TheVariants.{Outside, Inside, Cdata}

-- a text has one text that stands for it
pub one-marking : {region : Region} {text a b : List ℕ} → MarksPieces region text a → MarksPieces region text b → a ≡ b
one-marking all_read all_read = refl
one-marking (next_piece {region} {b} {bytes} h) (next_piece k) =
    ap (λ (xs : List ℕ). piece_marked region (take (piece_size region (b ∷ bytes)) (b ∷ bytes)) ++ xs)
    (one-marking h k)

size-some : (region : Region) (text : List ℕ) → 1 ≤ piece_size region text
size-some Outside text = omega arith
size-some (Inside holder) text = omega arith
size-some (Cdata holder) text = omega arith

pub piece-less : (region : Region) (text : List ℕ) (n : ℕ) (rest : List ℕ) → 0 < length text
    → n ≡ piece_size region text → rest ≡ drop n text → length rest < length text
piece-less region [] n rest some is is_rest = absurd (omega (arith, some))
piece-less region (b ∷ bytes) n rest some is is_rest =
    let there : length rest ≡ length (b ∷ bytes) - n =
    ap (λ (xs : List ℕ). length xs) is_rest ∙ length-drop n (b ∷ bytes) in
    omega (arith, there, is, size-some region (b ∷ bytes))

pub piece-more : (region after : Region) (text : List ℕ) (n : ℕ) (piece rest more : List ℕ)
    → 0 < length text → n ≡ piece_size region text → piece ≡ take n text → rest ≡ drop n text
    → after ≡ next_region region piece → MarksPieces after rest more
    → MarksPieces region text (piece_marked region piece ++ more)
piece-more region after [] n piece rest more some is front is_rest goes h = absurd (omega (arith, some))
piece-more region after (b ∷ bytes) n piece rest more some is front is_rest goes h =
    let cut : piece ≡ take (piece_size region (b ∷ bytes)) (b ∷ bytes) =
    front ∙ ap (λ (k : ℕ). take k (b ∷ bytes)) is in
    let left : rest ≡ drop (piece_size region (b ∷ bytes)) (b ∷ bytes) =
    is_rest ∙ ap (λ (k : ℕ). drop k (b ∷ bytes)) is in
    let there : after ≡ next_region region (take (piece_size region (b ∷ bytes)) (b ∷ bytes)) =
    goes ∙ ap (λ (xs : List ℕ). next_region region xs) cut in
    rw cut (next_piece (rw (there, left) at h))

-- nothing is left of a text
pub nothing-left : (region : Region) (text : List ℕ) → length text ≡ 0 → MarksPieces region text []
nothing-left region [] none = all_read
nothing-left region (b ∷ bytes) none = absurd (omega (arith, none))
