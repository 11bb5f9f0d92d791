-- The explanation of a line that the judged rule does not derive.
use Rattle.std.specs.Prelude.{◌≡◌, ℕ, ◌+◌, nat_lt, Bool, if◌then◌else◌, List, [], ◌∷◌, ◌++◌, take, length}
use Rattle.abnfread.specs.Element.{Rule}
use Rattle.abnfcheck.specs.Prefixes.{IsFurthest}
use Rattle.lowering.specs.Pruned.{ArePruned}
use Rattle.ruletable.specs.Letters.{has}
use Rattle.ruletable.specs.Utf8Text.{IsLongestText, Spells}
use Rattle.ruletable.specs.declared.alphabet.Alphabet.{Alphabet}
use Rattle.ruletable.specs.declared.alphabet.Alphabet.TheVariants.{Bytes, Utf8}
use Rattle.refusedlines.specs.declared.letterruns.run.LetterRun.{LetterRun}
use Rattle.refusedlines.specs.Following.{AreFollowing}
use Rattle.refusedlines.specs.PartTexts.{AreTextsAfter}
use Rattle.refusedlines.specs.RefusedText.{column_after, refused_at, unit_text}
use Rattle.refusedlines.specs.RuleNames.{name_at}
use Rattle.refusedlines.specs.declared.refusal.LineUnit.{LineUnit}

-- how many bytes a symbol takes: one, or in UTF-8 as many as the table in section 3 of RFC 3629 says
abbrev pub octets : Alphabet → ℕ → ℕ
octets Bytes c = 1
octets Utf8 c = if nat_lt c 0x80 then 1 else if nat_lt c 0x800 then 2 else if nat_lt c 0x10000 then 3 else 4

abbrev pub octet_count : Alphabet → List ℕ → ℕ
octet_count alphabet [] = 0
octet_count alphabet (c ∷ cs) = octets alphabet c + octet_count alphabet cs

-- the symbols of the first `size` bytes of a line: of all of them, or of its longest prefix that is UTF-8
abbrev pub AreFirstLetters : Alphabet → List ℕ → List ℕ → ℕ → Type 0
AreFirstLetters Bytes line x size = (x ≡ line) × (size ≡ length line)
AreFirstLetters Utf8 line x size = IsLongestText line size × Spells x (take size line)

-- The text explains where the line or the record with that number is rejected, what can follow the longest viable
-- prefix of its symbols, and which parts can come next there, of the rules without what derives nothing.
pub record IsRefusalReported (unit : LineUnit) (alphabet : Alphabet) (rules : List Rule) (judged : ℕ) (line : List ℕ)
    (number : ℕ) (text : List ℕ) : Type 0 where
  pub first : List ℕ
  pub size : ℕ
  pub letters : AreFirstLetters alphabet line first size
  pub after : ℕ
  pub furthest : IsFurthest (has alphabet) rules judged first after
  pub runs : List LetterRun
  pub ends : Bool
  pub following : AreFollowing (has alphabet) rules judged first after runs ends
  pub left : List Rule
  pub pruned : ArePruned (has alphabet) rules left
  pub parts : List (List ℕ)
  pub texts : AreTextsAfter alphabet left judged (take after first) after parts
  pub is : text ≡ unit_text unit alphabet (name_at rules judged) number line
      (refused_at after (length first) (nat_lt size (length line))) (octet_count alphabet (take after first))
      (column_after (take after first)) runs ends parts

-- such a text was added
abbrev pub IsExplained : LineUnit → Alphabet → List Rule → ℕ → List ℕ → ℕ → List ℕ → List ℕ → Type 0
IsExplained unit alphabet rules judged line number old new = (text : List ℕ) × (new ≡ old ++ text)
    × IsRefusalReported unit alphabet rules judged line number text
