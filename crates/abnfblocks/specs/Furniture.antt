-- The furniture of pages: form feeds, heads, feet and the blank lines round them. The look of a line decides, and the
-- lines nearest to it.
use Rattle.std.specs.Prelude.{◌≡◌, List, [], ◌∷◌, map}
use Rattle.abnfblocks.specs.TextLines.{NumberedLine}
use Rattle.abnfblocks.specs.declared.rfctext.line_kind.LineKind.{LineKind}
use Rattle.abnfblocks.specs.declared.rfctext.line_kind.LineKind.TheVariants.{Blank, Feed, Foot, Dated}

-- with any number of blank lines before it, a line that is such a one begins the list, and `rest` follows it
pub data Nearest (Is : LineKind → Type 0) : List LineKind → List LineKind → Type 0 where
  first : {kind : LineKind} {rest : List LineKind} → Is kind → Nearest Is (kind ∷ rest) rest
  over_blank : {kinds rest : List LineKind} → Nearest Is kinds rest → Nearest Is (Blank ∷ kinds) rest

-- a form feed or a foot, which is furniture wherever it stands
pub data IsMark : LineKind → Type 0 where
  feed : IsMark Feed
  foot : IsMark Foot

abbrev pub IsDated : LineKind → Type 0
IsDated kind = kind ≡ Dated

-- nothing but blank lines stand between here and a form feed or a foot
abbrev pub IsAtMark : List LineKind → Type 0
IsAtMark kinds = (rest : List LineKind) × Nearest IsMark kinds rest

-- nothing but blank lines stand between here and a head, which has a form feed or a foot before it in the same way
abbrev pub IsAtHead : List LineKind → Type 0
IsAtHead kinds = (rest : List LineKind) × Nearest IsDated kinds rest × IsAtMark rest

-- A line of a kind is furniture, where these lines stand before it, the nearest first, and those after it.
pub data IsFurniture (before after : List LineKind) : LineKind → Type 0 where
  mark : {kind : LineKind} → IsMark kind → IsFurniture before after kind
  head : IsAtMark before → IsFurniture before after Dated
  after_mark : IsAtMark before → IsFurniture before after Blank
  after_head : IsAtHead before → IsFurniture before after Blank
  before_mark : IsAtMark after → IsFurniture before after Blank

abbrev pub kinds_of : List NumberedLine → List LineKind
kinds_of lines = map (λ line. line.kind) lines

-- the lines that are no furniture, in order, where such lines stand before them, the nearest first
pub data KeepsLines : List LineKind → List NumberedLine → List NumberedLine → Type 0 where
  none_left : {before : List LineKind} → KeepsLines before [] []
  stays : {before : List LineKind} {line : NumberedLine} {lines kept : List NumberedLine}
      → (IsFurniture before (kinds_of lines) line.kind → ⊥) → KeepsLines (line.kind ∷ before) lines kept
      → KeepsLines before (line ∷ lines) (line ∷ kept)
  goes : {before : List LineKind} {line : NumberedLine} {lines kept : List NumberedLine}
      → IsFurniture before (kinds_of lines) line.kind → KeepsLines (line.kind ∷ before) lines kept
      → KeepsLines before (line ∷ lines) kept
