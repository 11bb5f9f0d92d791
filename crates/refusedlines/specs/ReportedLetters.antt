-- The terms of ABNF for symbols (RFC 5234, sections 2.1 and 2.3; RFC 7405, section 2.1).
use Prim.Native.Char.{code}
use Rattle.std.specs.Prelude.{ℕ, ◌+◌, ◌-◌, ◌==◌, ◌&&◌, ◌||◌, nat_le, nat_lt, Bool, false, if◌then◌else◌, List, []}
use Rattle.std.specs.Prelude.{◌∷◌, ◌++◌}
use Rattle.std.specs.Prelude.{Option, Some, None, codes, option_to_list}
use Rattle.std.specs.Char.{encode_utf8}
use Rattle.std.specs.List.{flat_map, list_any}
use Rattle.abnfprint.specs.CanonicalAbnf.{hexadecimal}
use Rattle.ruletable.specs.declared.alphabet.Alphabet.{Alphabet}
use Rattle.ruletable.specs.declared.alphabet.Alphabet.TheVariants.{Bytes, Utf8}
use Rattle.refusedlines.specs.CoreSymbols.{core_name, core_of, letter_run}
use Rattle.refusedlines.specs.declared.letterruns.core_rule.CoreRule.{CoreRule}
use Rattle.refusedlines.specs.declared.letterruns.run.LetterRun.{LetterRun}
use Rattle.refusedlines.specs.declared.letterruns.reported.ReportedLetters.{ReportedLetters}
use Rattle.refusedlines.specs.declared.letterruns.reported.ReportedLetters.TheVariants.{
  Quoted,
  Exactly,
  Numbered,
  Through,
}
use Rattle.refusedlines.specs.declared.letterruns.reported.ReportedLetters.TheVariants.{Named, Printed}

-- one or two symbols, which are single; 0xE000 follows 0xD7FF
abbrev pub is_short : LetterRun → Bool
is_short run = nat_le (run.last - run.first) 1 || (run.first == 0xD7FF && run.last == 0xE000)

-- a symbol is single
abbrev pub is_single : List LetterRun → ℕ → Bool
is_single runs c = list_any (λ run. is_short run && (nat_le run.first c && nat_le c run.last)) runs

-- the other case of a letter of US-ASCII
abbrev pub other_case : ℕ → Option ℕ
other_case c = if nat_le (code "A") c && nat_le c (code "Z") then Some (c + 32) else if nat_le (code "a") c
    && nat_le c (code "z") then Some (c - 32) else None

-- code points that terminals show: letters of Latin, Greek, Cyrillic, the kana, ideographs and Hangul
abbrev pub printed_runs : List LetterRun
printed_runs = letter_run 0xA1 0xAC ∷ letter_run 0xAE 0x2FF ∷ letter_run 0x391 0x3A1 ∷ letter_run 0x3A3 0x3FF
    ∷ letter_run 0x400 0x482 ∷ letter_run 0x48A 0x52F ∷ letter_run 0x3041 0x3096 ∷ letter_run 0x30A1 0x30FA
    ∷ letter_run 0x4E00 0x9FFF ∷ letter_run 0xAC00 0xD7A3 ∷ []

-- a symbol is one of some run
abbrev pub has_letter : List LetterRun → ℕ → Bool
has_letter runs c = list_any (λ run. nat_le run.first c && nat_le c run.last) runs

abbrev pub is_printed : Alphabet → ℕ → Bool
is_printed Bytes c = false
is_printed Utf8 c = nat_lt c 0xD800 && has_letter printed_runs c

-- a symbol that is no core rule: in quotes, if it is printable; by its number, if it is not of US-ASCII
abbrev pub reported_other : Alphabet → ℕ → ReportedLetters
reported_other alphabet c = if nat_le (code "!") c && nat_le c (code "~") then Quoted c
    else if is_printed alphabet c then Printed c else Numbered c

abbrev pub reported_plain : Alphabet → ℕ → Option CoreRule → ReportedLetters
reported_plain alphabet c None = reported_other alphabet c
reported_plain alphabet c (Some rule) = Named rule

-- a single symbol whose other case is single too: the first of both has one term for both
abbrev pub reported_with : Alphabet → (ℕ → Bool) → ℕ → Option ℕ → Option ReportedLetters
reported_with alphabet single c None = Some (reported_plain alphabet c (core_of c))
reported_with alphabet single c (Some other) = if single other then (if nat_lt c other then Some (Quoted c) else None)
    else Some (Exactly c)

abbrev pub reported_letter : Alphabet → List LetterRun → ℕ → Option ReportedLetters
reported_letter alphabet runs c = reported_with alphabet (is_single runs) c (other_case c)

-- the terms for a run: those of single symbols, or one for all
abbrev pub reported_run : Alphabet → List LetterRun → LetterRun → List ReportedLetters
reported_run alphabet runs run = if is_short run then option_to_list (reported_letter alphabet runs run.first)
    ++ (if nat_lt run.first run.last then option_to_list (reported_letter alphabet runs run.last) else [])
    else Through run ∷ []

-- the terms for runs, one run after another
abbrev pub reported_letters : Alphabet → List LetterRun → List ReportedLetters
reported_letters alphabet runs = flat_map (reported_run alphabet runs) runs

abbrev pub quoted_letter : ℕ → List ℕ
quoted_letter c = code "\"" ∷ c ∷ code "\"" ∷ []

abbrev pub reported_text : ReportedLetters → List ℕ
reported_text (Quoted c) = quoted_letter c
reported_text (Exactly c) = codes "%s" ++ quoted_letter c
reported_text (Numbered c) = codes "%x" ++ hexadecimal c
reported_text (Through run) = codes "%x" ++ (hexadecimal run.first ++ (codes "-" ++ hexadecimal run.last))
reported_text (Named rule) = core_name rule
reported_text (Printed c) = codes "\"" ++ (encode_utf8 c ++ (codes "\" (%x" ++ (hexadecimal c ++ codes ")")))
