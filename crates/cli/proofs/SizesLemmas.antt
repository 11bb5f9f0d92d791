-- The words of a command line with their sizes as numbers.
-- Serves: plain_word, plain_words
use Rattle.std.proofs.Common.{◌≡◌, ◌∙◌, ◌+◌, ◌<◌, ◌≤◌, ◌++◌, ◌∷◌, [], ℕ, List, ap, length, map, slice_index_or, sym}
use Rattle.std.proofs.Common.{take}
use Rattle.std.proofs.lemmas.List.{map-append, take_all, take_more}
use Rattle.clap.specs.Words.{Text}
use Rattle.cli.specs.LimitWords.{ArePlain, IsPlain, IsPlainWord, IsSplitWord, more, role_after, valued}
use Rattle.cli.specs.declared.sizes.Role.{Role}

pub word_valued : (role : Role) (word front value new start whole : Text) → IsSplitWord role word front value
    → IsPlain value new → start ≡ front → whole ≡ start ++ new → IsPlainWord role word whole
word_valued role word front value new start whole split plain e w = rw (w, e) (valued word front value new split plain)

pub words_more : {W : Type 0} (text : W → Text) (words : List W) (i : ℕ) (d : W) (plain after : List W) (new : W)
    (role next : Role) (word : Text) → i < length words → word ≡ text (slice_index_or words i d)
    → ArePlain role (map text (take i words)) (map text plain) → IsPlainWord role word (text new)
    → after ≡ plain ++ new ∷ [] → next ≡ role_after role word
    → ArePlain next (map text (take (i + 1) words)) (map text after)
words_more text words i d plain after new role next word low at so_far is pushed e =
    let taken : map text (take (i + 1) words) ≡ map text (take i words) ++ word ∷ [] =
    ap (map text) (take_more words i d low) ∙ map-append text (take i words) (slice_index_or words i d ∷ [])
    ∙ ap (λ (w : Text). map text (take i words) ++ w ∷ []) (sym at) in
    rw (taken, ap (map text) pushed ∙ map-append text plain (new ∷ []), e)
    (more role (map text (take i words)) (map text plain) word (text new) so_far is)

pub words_all : {W : Type 0} (text : W → Text) (words plain : List W) (i : ℕ) (role : Role) → length words ≤ i
    → ArePlain role (map text (take i words)) (map text plain) → ArePlain role (map text words) (map text plain)
words_all text words plain i role past so_far = rw (sym (ap (map text) (take_all _ _ past))) so_far
