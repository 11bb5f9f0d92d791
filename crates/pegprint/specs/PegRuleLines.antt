-- Lines of a text that begin a rule by their form, and the next one after a fault. Own.
use Prim.Native.Char.{code}
use Rattle.std.specs.Prelude.{◌≡◌, ℕ, ◌+◌, ◌-◌, ◌==◌, ◌||◌, ◌&&◌, nat_le, not, Bool, false, List, []}
use Rattle.std.specs.Prelude.{◌∷◌, Option, Some, None, drop, length, take, codes, if◌then◌else◌, slice_index}
use Rattle.std.specs.List.{list_any, starts_with}
use Rattle.std.specs.Option.{option_map_or}
use Rattle.diagnostics.specs.LaterFaults.{IsFirstAt}
use Rattle.pegread.specs.Slices.{continues_name, starts_name}

abbrev pub is_blank : ℕ → Bool
is_blank b = (b == code " ") || (b == code "\t")

abbrev pub is_break : ℕ → Bool
is_break b = (b == code "\n") || (b == code "\r")

-- the text without the spaces and tabs before it
abbrev pub past_blanks : List ℕ → List ℕ
past_blanks [] = []
past_blanks (b ∷ bs) = if is_blank b then past_blanks bs else b ∷ bs

-- what may stand in a name where names are looked for: dashes too
abbrev pub is_name_byte : ℕ → Bool
is_name_byte b = continues_name b || (b == code "-")

-- the text after such bytes
abbrev pub past_name : List ℕ → List ℕ
past_name [] = []
past_name (b ∷ bs) = if is_name_byte b then past_name bs else b ∷ bs

abbrev pub begins_name : List ℕ → Bool
begins_name [] = false
begins_name (b ∷ bs) = starts_name b

abbrev pub equals : ℕ → ℕ → Bool
equals a b = a == b

-- the text begins with a name, blanks and `<-`
abbrev pub begins_rule : List ℕ → Bool
begins_rule text = begins_name text && starts_with equals (past_blanks (past_name text)) (codes "<-")

-- a line begins at the position
abbrev pub begins_line : List ℕ → ℕ → Bool
begins_line text at = (at == 0) || is_break (slice_index text (at - 1))

-- the bytes of a name before the text
abbrev pub leading_name : List ℕ → List ℕ
leading_name text = take (length text - length (past_name text)) text

abbrev pub has_dash : List ℕ → Bool
has_dash name = list_any (λ b. b == code "-") name

-- how many blanks stand there
abbrev pub indent : List ℕ → ℕ → ℕ
indent text at = length (drop at text) - length (past_blanks (drop at text))

-- a line begins there, and it begins a rule by its form
abbrev pub is_rule_line : List ℕ → ℕ → Bool
is_rule_line text at = begins_line text at && begins_rule (past_blanks (drop at text))

-- the name that such a line defines, if no dash stands in it
abbrev pub name_defined : List ℕ → ℕ → Option (List ℕ)
name_defined text at = if is_rule_line text at && not (has_dash (leading_name (past_blanks (drop at text))))
    then Some (leading_name (past_blanks (drop at text))) else None

-- such a line has at most so many blanks, and its name stands so many bytes after another position, or further on
abbrev pub goes_next : List ℕ → ℕ → ℕ → ℕ → ℕ → Bool
goes_next text most start ahead at = is_rule_line text at
    && (nat_le (indent text at) most && nat_le ahead (at - start + indent text at))

-- how many blanks the first of these lines has, if there is one
pub record IsMost (text : List ℕ) (most : ℕ) : Type 0 where
  pub first : Option ℕ
  pub is_first : IsFirstAt (is_rule_line text) 0 (length text) first
  pub is : most ≡ option_map_or (indent text) first 0

-- The next line after a reading from `start` on: it has no more blanks than the first one, and its name stands `ahead`
-- bytes after `start`, or further on.
pub record IsNext (text : List ℕ) (start ahead : ℕ) (next : Option ℕ) : Type 0 where
  pub most : ℕ
  pub is_most : IsMost text most
  pub is_next : IsFirstAt (goes_next text most start ahead) (start + 1) (length text) next
