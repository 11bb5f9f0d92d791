-- Tags of XML, and their attribute `type` (XML 1.0, sections 2.3 and 3.1).
use Prim.Native.Char.{code}
use Rattle.std.specs.Prelude.{ℕ, suc, ◌==◌, ◌||◌, ◌&&◌, not, Bool, false, List, [], ◌∷◌, length, take, drop, codes}
use Rattle.std.specs.Prelude.{Option, None, Some, if◌then◌else◌}
use Rattle.std.specs.List.{ends_with, prefix_len, starts_with}
use Rattle.std.specs.Str.{str_eq_ignore_ascii_case}
use Rattle.rfcforms.specs.declared.xml.region.Holder.{Holder}
use Rattle.rfcforms.specs.declared.xml.region.Holder.TheVariants.{Sourcecode, Artwork}

-- white space: a space, a tab, CR or LF
abbrev pub is_white : ℕ → Bool
is_white b = (b == code " ") || (b == code "\t") || (b == code "\r") || (b == code "\n")

abbrev pub rest_after_white : List ℕ → List ℕ
rest_after_white text = drop (prefix_len is_white text) text

abbrev pub byte_leads : ℕ → List ℕ → Bool
byte_leads byte [] = false
byte_leads byte (b ∷ bytes) = b == byte

-- the text begins with those bytes
abbrev pub text_leads : List ℕ → List ℕ → Bool
text_leads front text = starts_with (λ x y. x == y) text front

-- a text that is read as XML: one of these begins it, perhaps after white space
abbrev pub begins_xml : List ℕ → Bool
begins_xml text = text_leads (codes "<?xml") (rest_after_white text)
    || text_leads (codes "<rfc") (rest_after_white text)
    || text_leads (codes "<!DOCTYPE") (rest_after_white text)

-- what can follow a name in a tag
abbrev pub ends_name : List ℕ → Bool
ends_name [] = false
ends_name (b ∷ bytes) = is_white b || (b == code "/") || (b == code ">")

-- the text begins with a tag that has that front: `<` or `</`, and a name
abbrev pub tag_leads : List ℕ → List ℕ → Bool
tag_leads front text = text_leads front text && ends_name (drop (length front) text)

-- the fronts of the tags that begin and end an element
abbrev pub opening_front : Holder → List ℕ
opening_front Sourcecode = codes "<sourcecode"
opening_front Artwork = codes "<artwork"

abbrev pub closing_front : Holder → List ℕ
closing_front Sourcecode = codes "</sourcecode"
closing_front Artwork = codes "</artwork"

-- the element whose start tag begins the text
abbrev pub holder_at : List ℕ → Option Holder
holder_at text = if tag_leads (opening_front Sourcecode) text then Some Sourcecode
    else if tag_leads (opening_front Artwork) text then Some Artwork else None

abbrev pub is_quote : ℕ → Bool
is_quote b = (b == code "\"") || (b == code "'")

-- the quote that is open after one more byte, where that one was open before; 0 if none is
abbrev pub rest_after_quote : ℕ → ℕ → ℕ
rest_after_quote quote b = if quote == 0 then (if is_quote b then b else 0) else if b == quote then 0 else quote

-- how many bytes a tag has, up to the first `>` outside of quotes, or to the end of the text, where that quote is open
abbrev pub tag_length : ℕ → List ℕ → ℕ
tag_length quote [] = 0
tag_length quote (b ∷ bytes) = if (quote == 0) && (b == code ">") then 1
    else suc (tag_length (rest_after_quote quote b) bytes)

-- `type` and `=` begin the text, perhaps with white space between
abbrev pub begins_type : List ℕ → Bool
begins_type text = text_leads (codes "type") text && byte_leads (code "=") (rest_after_white (drop 4 text))

-- the bytes in the quotes that begin the text
abbrev pub quoted_value : List ℕ → List ℕ
quoted_value [] = []
quoted_value (b ∷ bytes) = if is_quote b then take (prefix_len (λ x. not (x == b)) bytes) bytes else []

-- the value of the attribute that begins the text
abbrev pub type_value : List ℕ → List ℕ
type_value text = quoted_value (rest_after_white (drop 1 (rest_after_white (drop 4 text))))

-- The value of `type` in a tag, or nothing. That quote is open, and that byte stands before the text.
abbrev pub type_after : ℕ → ℕ → List ℕ → List ℕ
type_after quote before [] = []
type_after quote before (b ∷ bytes) =
    if (quote == 0) && (is_white before && begins_type (b ∷ bytes)) then type_value (b ∷ bytes)
    else type_after (rest_after_quote quote b) b bytes

abbrev pub type_of : List ℕ → List ℕ
type_of tag = type_after 0 0 tag

-- An element holds ABNF if its type is missing, empty or `abnf`, and its tag does not end it.
abbrev pub opens_abnf : List ℕ → Bool
opens_abnf tag = not (ends_with (λ x y. x == y) tag (codes "/>"))
    && ((length (type_of tag) == 0) || str_eq_ignore_ascii_case (type_of tag) (codes "abnf"))
