-- The lines that are kept of a text hold no LF, and those that look blank hold blanks alone.
-- Serves: joined_reading
use Rattle.std.proofs.Common.{◌≡◌, ℕ, zero, suc, ◌+◌, ◌==◌, ◌&&◌, Bool, true, false, nat_lt, List, [], ◌∷◌, ◌++◌}
use Rattle.std.proofs.Common.{map, take, drop, refl, inl, inr, sym, subst}
use Rattle.std.proofs.lemmas.Bool.{cases_Bool}
use Rattle.std.specs.List.{list_all, prefix_len}
use Rattle.abnfblocks.specs.Fences.{title_size}
use Rattle.abnfblocks.specs.Furniture.{KeepsLines, none_left as none_kept, stays, goes}
use Rattle.abnfblocks.specs.KeptSteps.{is_blank_kind}
use Rattle.abnfblocks.specs.LineKinds.{is_blank, is_blank_line, is_dated, is_feed, is_foot, kind_of}
use Rattle.abnfblocks.specs.MaskedLines.{AreRead, MasksBlocks, MasksMarkdown, ReadsLines, after_blanks, hidden}
use Rattle.abnfblocks.specs.MaskedLines.{masked_line}
use Rattle.abnfblocks.specs.MaskedLines.{none_left, no_block, stays as stays_there}
use Rattle.abnfblocks.specs.RuleCuts.{blanks_first}
use Rattle.abnfblocks.specs.RuleLines.{begins_by}
use Rattle.abnfblocks.specs.TextLines.{NumberedLine, line_in, line_parts, lines_from, with_byte}
use Rattle.abnfblocks.specs.declared.rfctext.line_kind.LineKind.{LineKind}
use Rattle.abnfread.specs.AbnfSlices.{is_inside}
use Rattle.rfcforms.specs.XmlTags.{begins_xml}
use Rattle.abnftexts.proofs.EachLemmas.{Each, each_none, each_next, each-drop}

-- bytes without LF
abbrev pub AreInside : List ℕ → Type 0
AreInside bytes = Each (λ b. is_inside b ≡ true) bytes

-- so it is with a line
pub record IsClear (line : NumberedLine) : Type 0 where
  pub inside : AreInside line.bytes
  pub blank : is_blank_kind line.kind ≡ true → Each (λ b. is_blank b ≡ true) line.bytes

with_byte-inside : (b : ℕ) (parts : List (List ℕ)) → is_inside b ≡ true → Each AreInside parts
    → Each AreInside (with_byte b parts)
with_byte-inside b [] p h = each_next (each_next p each_none) each_none
with_byte-inside b (part ∷ parts) p (each_next h k) = each_next (each_next p h) k

parts-inside : (bytes : List ℕ) → Each AreInside (line_parts bytes)
parts-inside [] = each_none
parts-inside (b ∷ bytes) = elim (cases_Bool (b == 10)) [
  | inl e ↦ rw e (each_next each_none (parts-inside bytes))
  | inr e ↦ elim (cases_Bool ((b == 13) && begins_by 10 bytes)) [
    | inl f ↦ rw (e, f) (parts-inside bytes)
    | inr f ↦ rw (e, f) (with_byte-inside b (line_parts bytes) (rw e refl) (parts-inside bytes))
  ]
]

each-pass : (p : ℕ → Bool) (bytes : List ℕ) → list_all p bytes ≡ true → Each (λ b. p b ≡ true) bytes
each-pass p [] e = each_none
each-pass p (b ∷ bytes) e = elim (cases_Bool (p b)) [
  | inl f ↦ each_next f (each-pass p bytes (let k : (p b && list_all p bytes) ≡ true = e in
      let l : (true && list_all p bytes) ≡ true = rw f at k in l))
  | inr f ↦ absurd (let k : (p b && list_all p bytes) ≡ true = e in
      let l : (false && list_all p bytes) ≡ true = rw f at k in cc)
]

-- a line that looks blank is blank
blank-kind : (has_feed : Bool) (bytes : List ℕ) → is_blank_kind (kind_of has_feed bytes) ≡ true
    → is_blank_line bytes ≡ true
blank-kind has_feed bytes e = elim (cases_Bool (is_blank_line bytes)) [
  | inl f ↦ f
  | inr f ↦ absurd (no_blank has_feed bytes f e)
]
  where
    no_blank : (has_feed : Bool) (bytes : List ℕ) → is_blank_line bytes ≡ false
        → is_blank_kind (kind_of has_feed bytes) ≡ true → ⊥
    no_blank has_feed bytes f e = elim (cases_Bool (is_foot bytes)) [
      | inl g ↦ (let k = rw (f, g) at e in cc)
      | inr g ↦ elim (cases_Bool (is_dated bytes)) [
        | inl d ↦ elim (cases_Bool has_feed) [
          | inl h ↦ (let k = rw (f, g, d, h) at e in cc)
          | inr h ↦ (let k = rw (f, g, d, h) at e in cc)
        ]
        | inr d ↦ (let k = rw (f, g, d) at e in cc)
      ]
    ]

line-clear : (number : ℕ) (part : List ℕ) → AreInside part → IsClear (line_in number part)
line-clear number part h =
    let feeds = prefix_len is_feed part in
    record {
      inside = each-drop feeds h;
      blank = λ e. each-pass is_blank (drop feeds part) (blank-kind (nat_lt 0 feeds) (drop feeds part) e);
    }

lines-clear : (number : ℕ) (parts : List (List ℕ)) → Each AreInside parts → Each IsClear (lines_from number parts)
lines-clear number [] h = each_none
lines-clear number (part ∷ parts) (each_next h k) =
    each_next (line-clear number part h) (lines-clear (number + 1) parts k)

keeps-clear : {before : List LineKind} {lines kept : List NumberedLine} → KeepsLines before lines kept
    → Each IsClear lines → Each IsClear kept
keeps-clear none_kept h = h
keeps-clear (stays n k) (each_next p h) = each_next p (keeps-clear k h)
keeps-clear (goes f k) (each_next p h) = keeps-clear k h

masked-clear : (line : NumberedLine) → IsClear (masked_line line)
masked-clear line = record { inside = each_next refl each_none; blank = λ e. cc }

all-masked : (lines : List NumberedLine) → Each IsClear (map masked_line lines)
all-masked [] = each_none
all-masked (line ∷ lines) = each_next (masked-clear line) (all-masked lines)

both-clear : {a b : List NumberedLine} → Each IsClear a → Each IsClear b → Each IsClear (a ++ b)
both-clear each_none k = k
both-clear (each_next p h) k = each_next p (both-clear h k)

first-clear : (n : ℕ) {lines : List NumberedLine} → Each IsClear lines → Each IsClear (take n lines)
first-clear zero h = each_none
first-clear (suc n) each_none = each_none
first-clear (suc n) (each_next p h) = each_next p (first-clear n h)

blocks-clear : {size : List NumberedLine → ℕ} {hides : NumberedLine → Bool} {lines masked : List NumberedLine}
    → MasksBlocks size hides lines masked → Each IsClear lines → Each IsClear masked
blocks-clear none_left h = h
blocks-clear (no_block e k) (each_next p h) = each_next p (blocks-clear k h)
blocks-clear (stays_there {n} e f k) (each_next p h) =
    both-clear (each_next p (first-clear n h)) (blocks-clear k (each-drop n h))
blocks-clear (hidden {n} {line} {lines} e f k) (each_next p h) =
    both-clear (each_next (masked-clear line) (all-masked (take n lines))) (blocks-clear k (each-drop n h))

markdown-clear : {lines masked : List NumberedLine} → MasksMarkdown lines masked → Each IsClear lines
    → Each IsClear masked
markdown-clear {lines} m h =
    let n = blanks_first lines in
    let bare = after_blanks lines in
    subst (Each IsClear) (sym m.is) (both-clear (first-clear n h) (both-clear
    (all-masked (take (title_size bare) bare)) (blocks-clear m.blocks (each-drop (title_size bare) (each-drop n h)))))

read-clear : (of_xml : Bool) (bytes : List ℕ) {lines : List NumberedLine} → ReadsLines of_xml bytes lines
    → Each IsClear lines
read-clear true bytes r =
    blocks-clear r.tags (keeps-clear r.keeps (lines-clear 1 (line_parts bytes) (parts-inside bytes)))
read-clear false bytes r =
    blocks-clear r.tags (markdown-clear r.masks
    (keeps-clear r.keeps (lines-clear 1 (line_parts bytes) (parts-inside bytes))))

pub kept-clear : (bytes : List ℕ) {lines : List NumberedLine} → AreRead bytes lines → Each IsClear lines
kept-clear bytes r = read-clear (begins_xml bytes) r.source r.reads
