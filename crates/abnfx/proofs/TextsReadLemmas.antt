-- Texts that are read in order.
-- Serves: read_texts
use Rattle.std.proofs.Common.{◌≡◌, ◌∙◌, ap, ap₂, sym, ℕ, ◌+◌, ◌<◌, ◌≤◌, List, [], ◌∷◌, ◌++◌, length, map, take}
use Rattle.std.proofs.Common.{arith, slice_index_or, subst, suc, zero}
use Rattle.std.specs.Borrow.{Bor}
use Rattle.std.specs.List.{All, Contains}
use Rattle.std.proofs.lemmas.List.{get_or-map, length-map, map-append, take_more}
use Rattle.std.proofs.lemmas.List.Elements.{All-push, Contains-get_or}
use Rattle.clap.specs.Words.{Text}
use Rattle.abnftexts.specs.RulesGathered.{NamedText}
use Rattle.abnfx.specs.JoinAnswers.{AreTextsOf, IsUnreadOf}
use Rattle.abnfx.specs.TextsRead.{text_read}
use Rattle.abnfx.specs.declared.texts.FileText.{FileText}
use Rattle.abnfx.specs.declared.texts.Unread.{Unread}
use Rattle.abnfx.specs.declared.texts.Unread.TheVariants.{NoMemory, TooLong, Unreadable}

path_alone : (path at : Text) (paths : List Text) → Contains paths path → Contains (path ∷ []) at → Contains paths at
path_alone path at paths has (zero, low, is) = subst (Contains paths) is has
path_alone path at paths has (suc x, low, is) = absurd (omega (arith, low))

-- what cannot be read of one path cannot be read of some that have it
pub unread_among : (why : Unread) (path : Text) (paths : List Text) → Contains paths path → IsUnreadOf (path ∷ []) why
    → IsUnreadOf paths why
unread_among (Unreadable at) path paths has is = path_alone path at.now paths has is
unread_among (TooLong at) path paths has is = path_alone path at.now paths has is
unread_among NoMemory path paths has is = tt

-- the path at a position is among them
pub path_among : (paths : List (Bor Text)) (i : ℕ) (d : Bor Text) → i < length paths
    → Contains (map (λ p. p.now) paths) (slice_index_or paths i d).now
path_among paths i d low =
    subst (Contains (map (λ (p : Bor Text). p.now) paths)) (get_or-map (λ (p : Bor Text). p.now) paths i d d.now low)
    (Contains-get_or (map (λ (p : Bor Text). p.now) paths) i d.now
    (subst (λ n. i < n) (sym (length-map paths (λ (p : Bor Text). p.now))) low))

-- one more text
pub texts_more : (paths : List (Bor Text)) (i : ℕ) (d : Bor Text) (texts : List FileText) (t : FileText)
    → i < length paths → t.path.now ≡ (slice_index_or paths i d).now → length t.bytes.items ≤ 16777216
    → AreTextsOf (map (λ p. p.now) (take i paths)) (map text_read texts)
    → AreTextsOf (map (λ p. p.now) (take (i + 1) paths)) (map text_read (texts ++ t ∷ []))
texts_more paths i d texts t low path short are = record {
  names = ap (map (λ (x : NamedText). x.name)) (map-append text_read texts (t ∷ []))
      ∙ (map-append (λ (x : NamedText). x.name) (map text_read texts) (text_read t ∷ [])
      ∙ (ap₂ (λ (xs : List Text) (y : Text). xs ++ y ∷ []) are.names path
      ∙ (sym (map-append (λ (p : Bor Text). p.now) (take i paths) (slice_index_or paths i d ∷ []))
      ∙ ap (map (λ (p : Bor Text). p.now)) (sym (take_more paths i d low)))));
  lengths = subst (All (λ (x : NamedText). length x.bytes ≤ 16777216)) (sym (map-append text_read texts (t ∷ [])))
      (All-push (λ (x : NamedText). length x.bytes ≤ 16777216) (map text_read texts) (text_read t) are.lengths short);
}
