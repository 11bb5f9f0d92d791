-- The pieces of an XML text, one after another: comments (XML 1.0, section 2.5), tags of elements that can hold ABNF
-- (3.1), marks of CDATA sections (2.7), references to characters (4.1), and runs of other bytes.
use Prim.Native.Char.{code}
use Rattle.std.specs.Prelude.{ℕ, suc, ◌+◌, ◌==◌, ◌||◌, ◌&&◌, max, not, Bool, true, false, List, [], ◌∷◌, ◌++◌, map}
use Rattle.std.specs.Prelude.{take, drop, codes, Option, None, Some, is_some, if◌then◌else◌}
use Rattle.std.specs.List.{prefix_len}
use Rattle.rfcforms.specs.XmlReferences.{referred_byte}
use Rattle.rfcforms.specs.XmlTags.{tag_leads, text_leads, closing_front, holder_at, opens_abnf, tag_length}
use Rattle.rfcforms.specs.declared.xml.region.Holder.{Holder}
use Rattle.rfcforms.specs.declared.xml.region.Region.{Region}
use Rattle.rfcforms.specs.declared.xml.region.Region.TheVariants.{Outside, Inside, Cdata}

-- how many bytes a comment has from there on, up to the first `-->`, or to the end of the text
abbrev pub comment_left : List ℕ → ℕ
comment_left [] = 0
comment_left (b ∷ bytes) = if text_leads (codes "-->") (b ∷ bytes) then 3 else suc (comment_left bytes)

-- how many bytes stand before either byte, or in all
abbrev pub run_size : ℕ → ℕ → List ℕ → ℕ
run_size a b text = prefix_len (λ x. not ((x == a) || (x == b))) text

-- The length in bytes of the piece that begins the text: outside of elements that hold ABNF, in one, and in a CDATA
-- section of one. A piece has at least one.
abbrev pub outside_size : List ℕ → ℕ
outside_size text = if text_leads (codes "<!--") text then comment_left (drop 4 text) + 4
    else if is_some (holder_at text) then tag_length 0 text else run_size (code "<") (code "<") text

abbrev pub inside_size : Holder → List ℕ → ℕ
inside_size holder text = if text_leads (codes "<![CDATA[") text then 9
    else if tag_leads (closing_front holder) text then tag_length 0 text
    else if not (referred_byte text == 0) then prefix_len (λ b. not (b == code ";")) text + 1
    else run_size (code "<") (code "&") text

abbrev pub cdata_size : List ℕ → ℕ
cdata_size text = if text_leads (codes "]]>") text then 3 else run_size (code "]") (code "]") text

abbrev pub piece_size : Region → List ℕ → ℕ
piece_size Outside text = max (outside_size text) 1
piece_size (Inside holder) text = max (inside_size holder text) 1
piece_size (Cdata holder) text = max (cdata_size text) 1

-- the piece belongs to no contents
abbrev pub is_markup : Region → List ℕ → Bool
is_markup Outside piece = true
is_markup (Inside holder) piece = text_leads (codes "<![CDATA[") piece || tag_leads (closing_front holder) piece
is_markup (Cdata holder) piece = text_leads (codes "]]>") piece

abbrev pub opened_region : List ℕ → Option Holder → Region
opened_region piece None = Outside
opened_region piece (Some holder) = if opens_abnf piece then Inside holder else Outside

-- the region after a piece
abbrev pub next_region : Region → List ℕ → Region
next_region Outside piece = opened_region piece (holder_at piece)
next_region (Inside holder) piece = if text_leads (codes "<![CDATA[") piece then Cdata holder
    else if tag_leads (closing_front holder) piece then Outside else Inside holder
next_region (Cdata holder) piece = if text_leads (codes "]]>") piece then Inside holder else Cdata holder

-- What stands for a byte that belongs to no contents: the byte 1, which no XML text has (section 2.2). CR and LF stay.
abbrev pub byte_marked : ℕ → ℕ
byte_marked b = if (b == code "\r") || (b == code "\n") then b else 1

abbrev pub reads_references : Region → Bool
reads_references Outside = false
reads_references (Inside holder) = true
reads_references (Cdata holder) = false

-- what stands for a piece: marks, the byte to which a reference refers, or the piece
abbrev pub piece_marked : Region → List ℕ → List ℕ
piece_marked region piece = if is_markup region piece then map byte_marked piece
    else if reads_references region && not (referred_byte piece == 0) then referred_byte piece ∷ [] else piece

-- what stands for a text from a piece on, which is in that region
pub data MarksPieces : Region → List ℕ → List ℕ → Type 0 where
  all_read : {region : Region} → MarksPieces region [] []
  next_piece : {region : Region} {b : ℕ} {bytes marked : List ℕ}
      → MarksPieces (next_region region (take (piece_size region (b ∷ bytes)) (b ∷ bytes)))
      (drop (piece_size region (b ∷ bytes)) (b ∷ bytes)) marked
      → MarksPieces region (b ∷ bytes)
      (piece_marked region (take (piece_size region (b ∷ bytes)) (b ∷ bytes)) ++ marked)
