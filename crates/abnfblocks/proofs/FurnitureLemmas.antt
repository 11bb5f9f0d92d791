-- Which lines are furniture, by what stands nearest to them.
-- Serves: read_lines, one_masking
use Rattle.std.proofs.Common.{◌≡◌, true, false, List, [], ◌∷◌, refl, sym, ap, ◌∙◌, inl, inr}
use Rattle.std.proofs.lemmas.Bool.{cases_Bool}
use Rattle.abnfblocks.specs.Furniture.{Nearest, first, over_blank, IsMark, feed, foot, IsDated, IsAtMark, IsAtHead}
use Rattle.abnfblocks.specs.Furniture.{IsFurniture, mark, head, after_mark, after_head, before_mark, kinds_of}
use Rattle.abnfblocks.specs.Furniture.{KeepsLines}
use Rattle.abnfblocks.specs.Furniture.{none_left, stays, goes}
use Rattle.abnfblocks.specs.KeptSteps.{next_after}
use Rattle.abnfblocks.specs.TextLines.{NumberedLine}
use Rattle.abnfblocks.specs.declared.rfctext.before.Before.{Before}
use Rattle.abnfblocks.specs.declared.rfctext.before.Before.TheVariants.{Text, Mark, Head}
use Rattle.abnfblocks.specs.declared.rfctext.line_kind.LineKind.{LineKind}
use Rattle.abnfblocks.specs.declared.rfctext.line_kind.LineKind.TheVariants.{Blank, Feed, Foot, Dated, Other}
use Rattle.abnfblocks.proofs.KeptLemmas.{at_mark, goes_here, kept_after}

-- what stands nearest before the next line
abbrev pub IsBefore : Before → List LineKind → Type 0
IsBefore Text before = (IsAtMark before → ⊥) × (IsAtHead before → ⊥)
IsBefore Mark before = IsAtMark before
IsBefore Head before = IsAtHead before × (IsAtMark before → ⊥)

blank-mark : {kinds : List LineKind} → IsAtMark kinds → IsAtMark (Blank ∷ kinds)
blank-mark (rest, h) = (rest, over_blank h)

no-blank_mark : {kinds rest : List LineKind} → Nearest IsMark (Blank ∷ kinds) rest → IsAtMark kinds
no-blank_mark (first m) = elim m [ ]
no-blank_mark (over_blank {rest} h) = (rest, h)

no-dated_mark : {kinds rest : List LineKind} → Nearest IsMark (Dated ∷ kinds) rest → ⊥
no-dated_mark (first m) = elim m [ ]

no-other_mark : {kinds rest : List LineKind} → Nearest IsMark (Other ∷ kinds) rest → ⊥
no-other_mark (first m) = elim m [ ]

blank-head : {kinds : List LineKind} → IsAtHead kinds → IsAtHead (Blank ∷ kinds)
blank-head (rest, h, m) = (rest, over_blank h, m)

no-blank_head : {kinds rest : List LineKind} → Nearest IsDated (Blank ∷ kinds) rest → IsAtMark rest → IsAtHead kinds
no-blank_head (first e) m = cc
no-blank_head (over_blank {rest} h) m = (rest, h, m)

no-dated_head : {kinds rest : List LineKind} → Nearest IsDated (Dated ∷ kinds) rest → IsAtMark rest → IsAtMark kinds
no-dated_head (first e) m = m

no-other_head : {kinds rest : List LineKind} → Nearest IsDated (Other ∷ kinds) rest → ⊥
no-other_head (first e) = cc

pub after-line : (before : Before) (kind : LineKind) (kinds : List LineKind) → IsBefore before kinds
    → IsBefore (next_after before kind) (kind ∷ kinds)
after-line before Feed kinds h = (kinds, first feed)
after-line before Foot kinds h = (kinds, first foot)
after-line Text Blank kinds h = (λ (rest, m). h.0 (no-blank_mark m), λ (rest, m, k). h.1 (no-blank_head m k))
after-line Mark Blank kinds h = blank-mark h
after-line Head Blank kinds h = (blank-head h.0, λ (rest, m). h.1 (no-blank_mark m))
after-line Mark Dated kinds h = ((kinds, first refl, h), λ (rest, m). no-dated_mark m)
after-line Text Dated kinds h = (λ (rest, m). no-dated_mark m, λ (rest, m, k). h.0 (no-dated_head m k))
after-line Head Dated kinds h = (λ (rest, m). no-dated_mark m, λ (rest, m, k). h.1 (no-dated_head m k))
after-line before Other kinds h = (λ (rest, m). no-other_mark m, λ (rest, m, k). no-other_head m)

is-at_mark : (kinds : List LineKind) → at_mark kinds ≡ true → IsAtMark kinds
is-at_mark [] e = cc
is-at_mark (Blank ∷ kinds) e = blank-mark (is-at_mark kinds e)
is-at_mark (Feed ∷ kinds) e = (kinds, first feed)
is-at_mark (Foot ∷ kinds) e = (kinds, first foot)
is-at_mark (Dated ∷ kinds) e = cc
is-at_mark (Other ∷ kinds) e = cc

nearest-at_mark : {kinds rest : List LineKind} → Nearest IsMark kinds rest → at_mark kinds ≡ true
nearest-at_mark (first feed) = refl
nearest-at_mark (first foot) = refl
nearest-at_mark (over_blank h) = nearest-at_mark h

pub goes-furniture : (before : Before) (kind : LineKind) (kinds after : List LineKind) → IsBefore before kinds
    → goes_here before kind after ≡ true → IsFurniture kinds after kind
goes-furniture before Feed kinds after h e = mark feed
goes-furniture before Foot kinds after h e = mark foot
goes-furniture Mark Dated kinds after h e = head h
goes-furniture Text Dated kinds after h e = cc
goes-furniture Head Dated kinds after h e = cc
goes-furniture Text Blank kinds after h e = before_mark (is-at_mark after e)
goes-furniture Mark Blank kinds after h e = after_mark h
goes-furniture Head Blank kinds after h e = after_head h.0
goes-furniture before Other kinds after h e = cc

dated-furniture : {kinds after : List LineKind} → IsFurniture kinds after Dated → IsAtMark kinds
dated-furniture (mark m) = elim m [ ]
dated-furniture (head h) = h

other-furniture : {kinds after : List LineKind} → IsFurniture kinds after Other → ⊥
other-furniture (mark m) = elim m [ ]

blank-furniture : {kinds after : List LineKind} → IsBefore Text kinds → at_mark after ≡ false
    → IsFurniture kinds after Blank → ⊥
blank-furniture h e (mark m) = elim m [ ]
blank-furniture h e (after_mark k) = h.0 k
blank-furniture h e (after_head k) = h.1 k
blank-furniture h e (before_mark (rest, n)) = let t : true ≡ false = sym (nearest-at_mark n) ∙ e in cc

pub stays-furniture : (before : Before) (kind : LineKind) (kinds after : List LineKind) → IsBefore before kinds
    → goes_here before kind after ≡ false → IsFurniture kinds after kind → ⊥
stays-furniture before Feed kinds after h e k = cc
stays-furniture before Foot kinds after h e k = cc
stays-furniture Mark Dated kinds after h e k = cc
stays-furniture Text Dated kinds after h e k = h.0 (dated-furniture k)
stays-furniture Head Dated kinds after h e k = h.1 (dated-furniture k)
stays-furniture Text Blank kinds after h e k = blank-furniture h e k
stays-furniture Mark Blank kinds after h e k = cc
stays-furniture Head Blank kinds after h e k = cc
stays-furniture before Other kinds after h e k = other-furniture k

-- the lines that stay of those to come are no furniture
pub after-kept : (before : Before) (kinds : List LineKind) (lines : List NumberedLine) → IsBefore before kinds
    → KeepsLines kinds lines (kept_after before lines)
after-kept before kinds [] h = none_left
after-kept before kinds (line ∷ lines) h =
    let more = after-kept (next_after before line.kind) (line.kind ∷ kinds) lines
    (after-line before line.kind kinds h) in
    elim (cases_Bool (goes_here before line.kind (kinds_of lines))) [
      | inl e ↦ rw e (goes (goes-furniture before line.kind kinds (kinds_of lines) h e) more)
      | inr e ↦ rw e (stays (stays-furniture before line.kind kinds (kinds_of lines) h e) more)
    ]

none-nearest : {Is : LineKind → Type 0} {rest : List LineKind} → Nearest Is [] rest → ⊥
none-nearest h = elim h [ ]

-- nothing stands before the first line
pub before-first : IsBefore Text []
before-first = (λ (rest, m). none-nearest m, λ (rest, m, k). none-nearest m)

pub one-kept : {kinds : List LineKind} {lines a b : List NumberedLine} → KeepsLines kinds lines a
    → KeepsLines kinds lines b
    → a ≡ b
one-kept none_left none_left = refl
one-kept (stays {line} h hs) (stays k ks) = ap (λ (kept : List NumberedLine). line ∷ kept) (one-kept hs ks)
one-kept (stays h hs) (goes k ks) = absurd (h k)
one-kept (goes h hs) (stays k ks) = absurd (k h)
one-kept (goes h hs) (goes k ks) = one-kept hs ks
