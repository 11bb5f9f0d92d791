-- The words of a command line with the flags that they stand for.
-- Serves: abnfx_main
use Rattle.std.proofs.Common.{◌≡◌, ◌∙◌, ◌+◌, ◌<◌, ◌≤◌, ◌++◌, ◌∷◌, [], ℕ, Bool, true, false, List, ap, drop, length, map}
use Rattle.std.proofs.Common.{refl, slice_index_or, sym}
use Rattle.std.proofs.lemmas.List.{append-nil, append_assoc, drop_all, drop_more, map-append}
use Rattle.std.specs.Prelude.{◌||◌, codes, if◌then◌else◌}
use Rattle.std.specs.Str.{bytes_eq}
use Rattle.abnfx.specs.FlagWords.{flag_of, flags_of}
use Rattle.clap.specs.Words.{Text}

-- what stands for words, where `--` stands before them or not
abbrev pub flags_from : Bool → List Text → List Text
flags_from ended words = if ended then words else flags_of words

step_one : (ended : Bool) (word : Text) (words : List Text) → flags_from ended (word ∷ words)
    ≡ (if ended then word else flag_of word) ∷ flags_from (ended || bytes_eq word (codes "--")) words
step_one true word words = refl
step_one false word words = refl

module _ {W : Type 0} (text : W → Text) (words : List W) where
  -- flags stand for the words before an index
  abbrev pub AreFlagsSoFar : ℕ → Bool → List W → Type 0
  AreFlagsSoFar i ended flags =
      flags_of (map text words) ≡ map text flags ++ flags_from ended (map text (drop i words))

  pub flags_more : (i : ℕ) (d : W) (flags after : List W) (new : W) (ended next : Bool) (word : Text)
      → i < length words → word ≡ text (slice_index_or words i d) → AreFlagsSoFar i ended flags
      → text new ≡ (if ended then word else flag_of word) → after ≡ flags ++ new ∷ []
      → next ≡ (ended || bytes_eq word (codes "--")) → AreFlagsSoFar (i + 1) next after
  flags_more i d flags after new ended next word low at so_far is pushed e =
      let rest = map text (drop (i + 1) words) in
      let left : map text (drop i words) ≡ word ∷ rest =
      ap (map text) (drop_more words i d low) ∙ ap (λ (w : Text). w ∷ rest) (sym at) in
      so_far ∙ ap (λ (r : List Text). map text flags ++ flags_from ended r) left
      ∙ ap (λ (r : List Text). map text flags ++ r) (step_one ended word rest)
      ∙ rw (ap (map text) pushed ∙ map-append text flags (new ∷ []), is, e)
      (sym (append_assoc (map text flags) ((if ended then word else flag_of word) ∷ [])
      (flags_from (ended || bytes_eq word (codes "--")) rest)))

  none_left : (ended : Bool) → flags_from ended [] ≡ []
  none_left true = refl
  none_left false = refl

  pub flags_all : (i : ℕ) (flags : List W) (ended : Bool) → length words ≤ i → AreFlagsSoFar i ended flags
      → map text flags ≡ flags_of (map text words)
  flags_all i flags ended past so_far = sym (so_far
      ∙ ap (λ (r : List W). map text flags ++ flags_from ended (map text r)) (drop_all i words past)
      ∙ ap (λ (r : List Text). map text flags ++ r) (none_left ended) ∙ append-nil (map text flags))
