-- Lists in grammars (RFC 9110, section 5.6.1): `n#m`, and directly after it an element. `n` is the least count of its
-- elements, or 0; `m` is the greatest, if there is one. They are written out without `#`.
use Prim.Native.Char.{code}
use Rattle.std.specs.Prelude.{◌≡◌, ℕ, ◌+◌, ◌-◌, ◌*◌, ◌==◌, ◌&&◌, nat_le, nat_lt, min, not, Bool, true, false, List}
use Rattle.std.specs.Prelude.{[], ◌∷◌, ◌++◌, codes, decimal, length, take, drop, Option, None, Some, unwrap_or}
use Rattle.std.specs.Prelude.{if◌then◌else◌}
use Rattle.std.specs.Char.{is_ascii_digit}
use Rattle.std.specs.List.{prefix_len}
use Rattle.rfcforms.specs.ListSearches.{HasElement, HasMark, IsOnOneLine}
use Rattle.rfcforms.specs.declared.lists.element.ElementSearch.{ElementSearch}
use Rattle.rfcforms.specs.declared.lists.element.ElementSearch.TheVariants.{Awaited, Inside, Ends, Missing}
use Rattle.rfcforms.specs.declared.lists.list.ListPart.{ListPart}
use Rattle.rfcforms.specs.declared.lists.mark.MarkSearch.TheVariants.{Before, Mark}
use Rattle.rfcforms.specs.declared.lists.written.ListForm.{ListForm}
use Rattle.rfcforms.specs.declared.lists.written.ListForm.TheVariants.{Receive, Send}

-- how many digits begin the text
abbrev pub digits_first : List ℕ → ℕ
digits_first text = prefix_len is_ascii_digit text

abbrev pub are_digits : List ℕ → Bool
are_digits text = digits_first text == length text

-- the number that digits spell after that one; 4294967297 stands for those that are greater
abbrev pub number_spelled : ℕ → List ℕ → ℕ
number_spelled value [] = value
number_spelled value (b ∷ bytes) = number_spelled (min (value * 10 + (b - 48)) 4294967297) bytes

abbrev pub count_spelled : List ℕ → Option ℕ
count_spelled [] = None
count_spelled (b ∷ bytes) = Some (number_spelled 0 (b ∷ bytes))

-- a list has some element, and its least count is not above the greatest
abbrev pub counts_fit : ℕ → Option ℕ → Bool
counts_fit least None = true
counts_fit least (Some most) = nat_lt 0 most && nat_le least most

abbrev pub begins_sign : List ℕ → Bool
begins_sign [] = false
begins_sign (b ∷ bytes) = b == code "#"

-- the least count and the greatest, the element, and what follows the list
pub record ListFound : Type 0 where
  pub least : ℕ
  pub most : Option ℕ
  pub element : List ℕ
  pub rest : List ℕ

-- what the code's list stands for
abbrev pub list_found : ListPart → ListFound
list_found l = record { least = l.least; most = l.most; element = l.element.now; rest = l.rest.now }

-- what stands before `#`, from `count` on, and what stands after it
abbrev pub before_sign : List ℕ → ℕ → ℕ → List ℕ
before_sign text count position = drop count (take position text)

abbrev pub after_sign : List ℕ → ℕ → List ℕ
after_sign text position = drop 1 (drop position text)

-- the counts
abbrev pub least_in : List ℕ → ℕ → ℕ → ℕ
least_in text count position = unwrap_or (count_spelled (before_sign text count position)) 0

abbrev pub most_in : List ℕ → ℕ → Option ℕ
most_in text position = count_spelled (take (digits_first (after_sign text position)) (after_sign text position))

-- the text from the element on
abbrev pub from_element : List ℕ → ℕ → List ℕ
from_element text position = drop (digits_first (after_sign text position)) (after_sign text position)

-- `#` stands at the position, with counts that fit
abbrev pub is_list : List ℕ → ℕ → ℕ → Bool
is_list text count position = begins_sign (drop position text) && (are_digits (before_sign text count position)
    && counts_fit (least_in text count position) (most_in text position))

-- the list whose `#` stands there, if its element has an end
abbrev pub list_at : List ℕ → ℕ → ℕ → ElementSearch → Option ListFound
list_at text count position (Ends size) = if is_list text count position then Some (record {
  least = least_in text count position;
  most = most_in text position;
  element = take size (from_element text position);
  rest = drop size (from_element text position);
}) else None
list_at text count position Awaited = None
list_at text count position (Inside depth) = None
list_at text count position Missing = None

-- a count, or nothing for none
abbrev pub count_shown : ℕ → List ℕ
count_shown n = if n == 0 then [] else decimal n

abbrev pub most_shown : Option ℕ → List ℕ
most_shown None = []
most_shown (Some n) = decimal n

-- so many further elements, where that is one
abbrev pub further_written : ℕ → Option ℕ → List ℕ → List ℕ
further_written least most element = codes " " ++ (count_shown least ++ (codes "*" ++ (most_shown most
    ++ (codes "( OWS \",\" OWS " ++ (element ++ codes " )")))))

abbrev pub less_one : Option ℕ → Option ℕ
less_one None = None
less_one (Some n) = Some (n - 1)

abbrev pub is_one : Option ℕ → Bool
is_one None = false
is_one (Some n) = n == 1

-- What senders write of a list with some element (RFC 9110, section 5.6.1.1). The element comes with a copy of it on
-- one line.
abbrev pub some_sent : ℕ → Option ℕ → List ℕ → List ℕ → List ℕ
some_sent least most element copy =
    if is_one most then element else element ++ further_written (least - 1) (less_one most) copy

-- and of one that can be empty
abbrev pub sent : ℕ → Option ℕ → List ℕ → List ℕ → List ℕ
sent least most element copy = if least == 0 then codes "[ " ++ (some_sent 1 most element copy ++ codes " ]")
    else some_sent least most element copy

-- What recipients accept, which ignore counts and empty elements (RFC 9110, section 5.6.1.2).
abbrev pub received : List ℕ → List ℕ → List ℕ
received element copy =
    codes "[ " ++ (element ++ (codes " ] *( OWS \",\" OWS [ " ++ (copy ++ codes " ] )")))

abbrev pub list_written : ListForm → ListFound → List ℕ → List ℕ
list_written Receive l copy = received l.element copy
list_written Send l copy = sent l.least l.most l.element copy

-- how many bytes the first line has, with the LF that ends it
abbrev pub first_size : List ℕ → ℕ
first_size text = prefix_len (λ b. not (b == code "\n")) text + 1

-- What is written for the first bytes of a text, and what follows these: up to the first bytes that begin no token, and
-- on to the end of their line, or of the list that they begin.
pub data IsPart (form : ListForm) (text : List ℕ) : List ℕ → List ℕ → Type 0 where
  all_stands : {count end : ℕ} → HasMark text (Before count end) → IsPart form text [] text
  line_stands : {count position : ℕ} {search : ElementSearch} → HasMark text (Mark count position)
      → HasElement (from_element text position) search → list_at text count position search ≡ None
      → IsPart form text (drop (first_size (drop position text)) (drop position text))
      (take position text ++ take (first_size (drop position text)) (drop position text))
  a_list : {count position : ℕ} {search : ElementSearch} {list : ListFound} {copy : List ℕ}
      → HasMark text (Mark count position) → HasElement (from_element text position) search
      → list_at text count position search ≡ Some list → IsOnOneLine list.element copy
      → IsPart form text list.rest (take count text ++ list_written form list copy)

-- What is written for a text: other bytes than those of lists stand.
pub data Expands (form : ListForm) : List ℕ → List ℕ → Type 0 where
  nothing_left : Expands form [] []
  next_part : {b : ℕ} {bytes rest part new : List ℕ} → IsPart form (b ∷ bytes) rest part → Expands form rest new
      → Expands form (b ∷ bytes) (part ++ new)

-- the lines of a text, without LF
pub data CutsLines : List ℕ → List (List ℕ) → Type 0 where
  no_lines : CutsLines [] []
  next_line : {b : ℕ} {bytes : List ℕ} {lines : List (List ℕ)}
      → CutsLines (drop (first_size (b ∷ bytes)) (b ∷ bytes)) lines
      → CutsLines (b ∷ bytes) (take (first_size (b ∷ bytes) - 1) (b ∷ bytes) ∷ lines)

-- what one more list adds to what is written; and one more part, before that rest
abbrev pub PushesList : ListForm → ListFound → List ℕ → List ℕ → Type 0
PushesList form list old new = (copy : List ℕ) × IsOnOneLine list.element copy
    × (new ≡ old ++ list_written form list copy)

abbrev pub PushesPart : ListForm → List ℕ → List ℕ → List ℕ → List ℕ → Type 0
PushesPart form text old new rest = (part : List ℕ) × IsPart form text rest part × (new ≡ old ++ part)
