-- Filling a template, run by run.
-- Serves: check_peg
use Rattle.std.proofs.Common.{◌≡◌, ℕ, suc, zero, ◌+◌, ◌-◌, ◌<◌, ◌≤◌, true, false, List, [], ◌∷◌, ◌++◌, length, get_or}
use Rattle.std.proofs.Common.{drop, refl, sym, ap, arith, ◌∙◌, append-nil}
use Rattle.std.specs.Prelude.{slice_range}
use Rattle.std.specs.List.{flat_map}
use Rattle.std.proofs.lemmas.Grind.{common_steps}
use Rattle.std.proofs.Math.Seq.{take-suc}
use Rattle.pegnodes.specs.Templates.{is_word, Piece, Word, Other, onto_run, pieces_of, filled_piece, filled}

-- only word bytes
abbrev pub AreWord : List ℕ → Type 0
AreWord [] = Unit {0}
AreWord (b ∷ run) = (is_word b ≡ true) × AreWord run

pub AreWord-more : (run : List ℕ) (b : ℕ) → AreWord run → is_word b ≡ true → AreWord (run ++ b ∷ [])
AreWord-more [] b w h = (h, tt)
AreWord-more (r ∷ run) b w h = (w.0, AreWord-more run b w.1 h)

-- a run in front of pieces that do not begin with one
abbrev lead : List ℕ → List Piece → List Piece
lead [] pieces = pieces
lead (r ∷ run) pieces = Word (r ∷ run) ∷ pieces

-- pieces that a word byte in front does not join
abbrev pub Apart : List Piece → Type 0
Apart pieces = (r : ℕ) → onto_run r pieces ≡ Word (r ∷ []) ∷ pieces

onto_run-lead : (r : ℕ) (run : List ℕ) (pieces : List Piece) → Apart pieces → onto_run r (lead run pieces)
    ≡ lead (r ∷ run) pieces
onto_run-lead r [] pieces h = h r
onto_run-lead r (s ∷ run) pieces h = refl

pieces_of_run : (run rest : List ℕ) → AreWord run → Apart (pieces_of rest) → pieces_of (run ++ rest)
    ≡ lead run (pieces_of rest)
pieces_of_run [] rest w h = refl
pieces_of_run (r ∷ run) rest w h = rw (w.0, pieces_of_run run rest w.1 h) (onto_run-lead r run (pieces_of rest) h)

-- the pieces of a template, filled
abbrev put : List ℕ → List Piece → List ℕ
put c pieces = flat_map (filled_piece c) pieces

put-lead : (c run : List ℕ) (pieces : List Piece) → put c (lead run pieces) ≡ filled_piece c (Word run) ++ put c pieces
put-lead c [] pieces = refl
put-lead c (r ∷ run) pieces = refl

pub filled_run : (c run : List ℕ) → AreWord run → filled run c ≡ filled_piece c (Word run)
filled_run c run w =
    let same : run ++ [] ≡ run = append-nil run in
    let is = pieces_of_run run [] w (λ r. refl) in
    ap (λ v. filled v c) (sym same) ∙ ap (put c) is ∙ put-lead c run [] ∙ append-nil (filled_piece c (Word run))

pub pieces_of_other : (b : ℕ) (rest : List ℕ) → is_word b ≡ false → pieces_of (b ∷ rest) ≡ Other b ∷ pieces_of rest
pieces_of_other b rest h = rw h refl

pub filled_other : (c run rest : List ℕ) (b : ℕ) → AreWord run → is_word b ≡ false →
    filled (run ++ b ∷ rest) c ≡ filled_piece c (Word run) ++ b ∷ filled rest c
filled_other c run rest b w h =
    let other = pieces_of_other b rest h in
    let apart : Apart (pieces_of (b ∷ rest)) = rw other (λ r. refl) in
    ap (put c) (pieces_of_run run (b ∷ rest) w apart ∙ ap (lead run) other) ∙ put-lead c run (Other b ∷ pieces_of rest)

pub one_more : (t : List ℕ) (f i : ℕ) → f ≤ i → i < length t → slice_range t f (i + 1) ≡ slice_range t f i
    ++ get_or t i 0 ∷ []
one_more t f i le lt =
    let size : i + 1 - f ≡ suc (i - f) = omega arith in
    let long : i - f < length (drop f t) = grind (arith, common_steps) in
    let byte : get_or (drop f t) (i - f) 0 ≡ get_or t i 0 = grind (arith, common_steps) in
    rw (size, take-suc (drop f t) (i - f) 0, byte) refl

empty_range : (t : List ℕ) (i : ℕ) → slice_range t i i ≡ []
empty_range t i = let size : i - i ≡ zero = omega arith in rw size refl

pub no_word : (t : List ℕ) (i : ℕ) → AreWord (slice_range t i i)
no_word t i = rw (empty_range t i) tt

pub word_kept : (t : List ℕ) (f i : ℕ) → f ≤ i → i < length t → AreWord (slice_range t f i)
    → is_word (get_or t i 0) ≡ true →
    AreWord (slice_range t f (i + 1))
word_kept t f i le lt w h = rw (one_more t f i le lt) (AreWord-more _ _ w h)
