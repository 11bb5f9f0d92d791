-- The first rule of a grammar in ABNF.
use Prim.Native.Char.{code}
use Rattle.std.specs.Prelude.{ℕ, ◌+◌, ◌==◌, ◌&&◌, not, List, [], ◌∷◌, if◌then◌else◌, take}
use Rattle.std.specs.Char.{is_ascii_alphabetic}
use Rattle.findings.specs.NameColumns.{is_word_byte}

-- how many bytes stand before the first that belongs to no name
abbrev pub size_of_word : List ℕ → ℕ
size_of_word [] = 0
size_of_word (b ∷ bytes) = if is_word_byte b then 1 + size_of_word bytes else 0

-- the name that begins a line, after blanks
abbrev pub name_in_front : List ℕ → List ℕ
name_in_front [] = []
name_in_front (b ∷ bytes) = if is_ascii_alphabetic b then take (size_of_word (b ∷ bytes)) (b ∷ bytes) else
    if not (b == code " ") && not (b == code "\t") then [] else name_in_front bytes

abbrev pub name_or : List ℕ → List ℕ → List ℕ
name_or [] other = other
name_or (b ∷ bytes) other = b ∷ bytes

-- the name of the first rule: that which begins the first line that begins with a name, since comments begin with `;`
abbrev pub first_rule_name : List (List ℕ) → List ℕ
first_rule_name [] = []
first_rule_name (l ∷ ls) = name_or (name_in_front l) (first_rule_name ls)
