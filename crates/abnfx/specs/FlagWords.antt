-- Which words stand for a flag. `clap` gets the flag in place of them, and the contract of the program speaks of the
-- words as `clap` gets them.
use Rattle.std.specs.Prelude.{List, [], ◌∷◌, codes, if◌then◌else◌}
use Rattle.std.specs.Str.{bytes_eq}
use Rattle.clap.specs.Words.{Text}

-- the flag that a word stands for, or the word
abbrev pub flag_of : Text → Text
flag_of word = if bytes_eq word (codes "--expand=send") then codes "--expand-send" else
    (if bytes_eq word (codes "--expand=receive") then codes "--expand" else word)

-- the words with the flags that they stand for; words after `--` stay
abbrev pub flags_of : List Text → List Text
flags_of [] = []
flags_of (word ∷ words) = flag_of word ∷ (if bytes_eq word (codes "--") then words else flags_of words)
