-- The first piece of a template with escapes, and a text without the blanks at its end.
-- Serves: write_event
use Prim.Native.Char.{code}
use Rattle.std.proofs.Common.{◌≡◌, ℕ, zero, suc, ◌<◌, ◌≤◌, Bool, true, false, List, [], ◌∷◌, ◌++◌, length}
use Rattle.std.proofs.Common.{take, drop, reverse, refl, sym, ap, subst, arith, ◌∙◌, length-drop}
use Rattle.std.specs.Prelude.{◌==◌}
use Rattle.std.specs.List.{prefix_len}
use Rattle.std.proofs.lemmas.Bool.Decides.{nat_tests}
use Rattle.std.proofs.lemmas.List.{reverse-append}
use Rattle.std.proofs.lemmas.List.Folds.{length-prefix_len}
use Rattle.pegnodes.specs.Templates.{is_word, is_blank, Piece, Word, Other, onto_run, cut_front}
use Rattle.pegnodes.proofs.FilledRunLemmas.{Apart}
use Rattle.pegmatch.specs.FirstPieces.{IsFirstPiece}
use Rattle.pegmatch.specs.TemplateEscapes.{byte_or_escape, escaped_pieces, pieces_after}

-- a text ends with a blank, or with another byte
pub end_blank : (rest front : List ℕ) (b : ℕ) → rest ≡ front ++ b ∷ [] → is_blank b ≡ true
    → cut_front (reverse front) ≡ cut_front (reverse rest)
end_blank rest front b is blank = rw (is, reverse-append front (b ∷ []), blank) refl

pub end_other : (rest front : List ℕ) (b : ℕ) → rest ≡ front ++ b ∷ [] → is_blank b ≡ false
    → reverse rest ≡ cut_front (reverse rest)
end_other rest front b is other = rw (is, reverse-append front (b ∷ []), other) refl

-- a word byte is no backslash
no_backslash : (b : ℕ) → is_word b ≡ true → (b == code "\\") ≡ false
no_backslash b word = grind (arith, nat_tests)

-- the pieces of a text that begins with a word byte, and of one that does not
word_led : (b : ℕ) (text : List ℕ) → is_word b ≡ true → escaped_pieces (b ∷ text) ≡ onto_run b (escaped_pieces text)
word_led b text word = rw (no_backslash b word, word) refl

other_led : (b : ℕ) (text : List ℕ) → is_word b ≡ false → escaped_pieces (b ∷ text)
    ≡ Other (byte_or_escape b text).0 ∷ pieces_after (byte_or_escape b text).1 text
other_led b text other = rw other refl

-- the bytes of an escape are no pieces
pieces-drop : (k : ℕ) (text : List ℕ) → pieces_after k text ≡ escaped_pieces (drop k text)
pieces-drop zero text = refl
pieces-drop (suc k) [] = refl
pieces-drop (suc k) (b ∷ text) = pieces-drop k text

-- how many word bytes stand at the front of a text that begins with one, and of one that does not
size_more : (b : ℕ) (text : List ℕ) → is_word b ≡ true → prefix_len is_word (b ∷ text) ≡ suc (prefix_len is_word text)
size_more b text word = rw word (omega arith)

size_none : (b : ℕ) (text : List ℕ) → is_word b ≡ false → prefix_len is_word (b ∷ text) ≡ 0
size_none b text other = rw other refl

-- a run in front of pieces, and the run of so many bytes in front of those after them
abbrev before_pieces : List ℕ → List Piece → List Piece
before_pieces [] pieces = pieces
before_pieces (b ∷ run) pieces = Word (b ∷ run) ∷ pieces

abbrev run_of : ℕ → List ℕ → List Piece
run_of n text = before_pieces (take n text) (escaped_pieces (drop n text))

run-joins : (b : ℕ) (run : List ℕ) (pieces : List Piece) → Apart pieces
    → onto_run b (before_pieces run pieces) ≡ Word (b ∷ run) ∷ pieces
run-joins b [] pieces apart = apart b
run-joins b (r ∷ run) pieces apart = refl

-- no run begins after a run
pieces-apart : (text : List ℕ) → Apart (escaped_pieces (drop (prefix_len is_word text) text))
pieces-apart [] = λ r. refl
pieces-apart (b ∷ text) = both (pieces-apart text) (is_word b) refl
  where
    both : Apart (escaped_pieces (drop (prefix_len is_word text) text)) → (v : Bool) → is_word b ≡ v
        → Apart (escaped_pieces (drop (prefix_len is_word (b ∷ text)) (b ∷ text)))
    both less true word = subst (λ (n : ℕ). Apart (escaped_pieces (drop n (b ∷ text)))) (sym (size_more b text word))
        less
    both less false other = subst (λ (n : ℕ). Apart (escaped_pieces (drop n (b ∷ text)))) (sym (size_none b text other))
        (subst Apart (sym (other_led b text other)) (λ r. refl))

run_led : (text : List ℕ) → escaped_pieces text ≡ run_of (prefix_len is_word text) text
run_led [] = refl
run_led (b ∷ text) = both (run_led text) (is_word b) refl
  where
    both : escaped_pieces text ≡ run_of (prefix_len is_word text) text → (v : Bool) → is_word b ≡ v
        → escaped_pieces (b ∷ text) ≡ run_of (prefix_len is_word (b ∷ text)) (b ∷ text)
    both less true word = word_led b text word ∙ ap (onto_run b) less
        ∙ run-joins b (take (prefix_len is_word text) text) (escaped_pieces (drop (prefix_len is_word text) text))
        (pieces-apart text) ∙ sym (ap (λ (n : ℕ). run_of n (b ∷ text)) (size_more b text word))
    both less false other = sym (ap (λ (n : ℕ). run_of n (b ∷ text)) (size_none b text other))

some_run : (run : List ℕ) (pieces : List Piece) → 0 < length run → before_pieces run pieces ≡ Word run ∷ pieces
some_run [] pieces some = absurd (omega (arith, some))
some_run (b ∷ run) pieces some = refl

-- a text whose first piece is a run
pub first_word : (text word rest : List ℕ) (n : ℕ) → n ≡ prefix_len is_word text → 0 < n → n ≤ length text
    → word ≡ take n text → rest ≡ drop n text → IsFirstPiece text (Word word) rest
first_word text word rest n size some within is left =
    let long : 0 < length (take (prefix_len is_word text) text) = rw length-prefix_len (omega arith) in
    record {
      is = rw (is, left, size) (run_led text ∙ some_run (take (prefix_len is_word text) text)
          (escaped_pieces (drop (prefix_len is_word text) text)) long);
      shorter = rw (left, length-drop n text) (omega arith);
    }

other_first : (b : ℕ) (tail : List ℕ) → prefix_len is_word (b ∷ tail) ≡ 0 → is_word b ≡ false
other_first b tail none = both (is_word b) refl
  where
    both : (v : Bool) → is_word b ≡ v → is_word b ≡ false
    both true word = let more = size_more b tail word in absurd (omega (arith, none, more))
    both false other = other

-- a text whose first piece is a byte or an escape
pub first_other : (text tail : List ℕ) (b byte more : ℕ) → text ≡ b ∷ tail → prefix_len is_word text ≡ 0
    → ◌≡◌ {A = ℕ × ℕ} (byte, more) (byte_or_escape b tail) → IsFirstPiece text (Other byte) (drop more tail)
first_other text tail b byte more is none found =
    let is_other : is_word b ≡ false = other_first b tail (rw is at none) in
    let one : byte ≡ (byte_or_escape b tail).0 = ap (λ (x : ℕ × ℕ). x.0) found in
    let two : more ≡ (byte_or_escape b tail).1 = ap (λ (x : ℕ × ℕ). x.1) found in
    record {
      is = rw (is, one, two) (other_led b tail is_other
          ∙ ap (λ (v : List Piece). Other (byte_or_escape b tail).0 ∷ v) (pieces-drop (byte_or_escape b tail).1 tail));
      shorter = rw (is, length-drop more tail) (omega arith);
    }
