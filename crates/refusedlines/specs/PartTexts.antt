-- The texts of the parts that can come next where a line is rejected.
use Rattle.std.specs.Prelude.{◌≡◌, ◌↔◌, ℕ, zero, suc, ◌==◌, Bool, true, false, if◌then◌else◌, List, [], ◌∷◌, ◌++◌}
use Rattle.std.specs.Prelude.{Option, Some, None, bytes_eq, codes, length, option_map, slice_get}
use Rattle.std.specs.List.{list_any}
use Rattle.abnfprint.specs.CanonicalAbnf.{text_of}
use Rattle.abnfread.specs.Element.{Element, Text, Values, Range, Name, Rule, id_of}
use Rattle.diagnostics.specs.ShownBytes.{cut}
use Rattle.flatgrammar.specs.Flat.{Set, Exactly, Between}
use Rattle.flatgrammar.specs.NodeSteps.{IfSomeSet}
use Rattle.lowering.specs.Lowered.{letter_set}
use Rattle.refusedlines.specs.LetterRuns.{AreApartFrom, RunsHave}
use Rattle.refusedlines.specs.RefusedParts.{AreReportedParts, IsPartReported, ShownPart, parts_from}
use Rattle.refusedlines.specs.RefusedText.{symbols_text}
use Rattle.refusedlines.specs.RuleNames.{shown_name}
use Rattle.refusedlines.specs.declared.letterruns.run.LetterRun.{LetterRun}
use Rattle.ruletable.specs.Letters.{has}
use Rattle.ruletable.specs.declared.alphabet.Alphabet.{Alphabet}

-- the name that an element is
abbrev pub element_name : Element → Option (List ℕ)
element_name (Name name) = Some name
element_name e = None

-- how many symbols a terminal has
abbrev pub leaf_size : Element → ℕ
leaf_size (Text folds t) = length t
leaf_size (Values vs) = length vs
leaf_size e = 1

-- what may stand for the symbol of that number
abbrev pub leaf_set : Element → ℕ → Option Set
leaf_set (Text folds t) k = option_map (letter_set folds) (slice_get t k)
leaf_set (Values vs) k = option_map Exactly (slice_get vs k)
leaf_set (Range low high) k = Some (Between low high)
leaf_set e k = None

-- the text of the symbols of the alphabet that may stand there, as symbols that can follow are reported
pub record IsSetText (alphabet : Alphabet) (set : Option Set) (text : List ℕ) : Type 0 where
  pub runs : List LetterRun
  pub apart : AreApartFrom 0 runs
  pub letters : (c : ℕ) → RunsHave runs c ↔ ((has alphabet c ≡ true) × IfSomeSet set c)
  pub is : text ≡ symbols_text alphabet runs

-- A terminal of several symbols, as the printer writes it, cut. After some of its symbols, the set of the next one
-- stands before it.
abbrev pub IsLongLeafText : Alphabet → Element → ℕ → List ℕ → Type 0
IsLongLeafText alphabet e zero text = text ≡ cut (text_of e)
IsLongLeafText alphabet e (suc k) text = (set : List ℕ) × IsSetText alphabet (leaf_set e (suc k)) set
    × (text ≡ set ++ (codes " of " ++ cut (text_of e)))

-- a terminal of one symbol, by the set of it; or one of several
abbrev pub IsLeafText : Bool → Alphabet → Element → ℕ → List ℕ → Type 0
IsLeafText true alphabet e k text = IsSetText alphabet (leaf_set e k) text
IsLeafText false alphabet e k text = IsLongLeafText alphabet e k text

-- a name, by the rule that it names; or a terminal
abbrev pub IsTextFor : Alphabet → List Rule → Element → ℕ → Option (List ℕ) → List ℕ → Type 0
IsTextFor alphabet rules e k (Some name) text = text ≡ shown_name rules (id_of rules name)
IsTextFor alphabet rules e k None text = IsLeafText (leaf_size e == 1) alphabet e k text

-- the text of a name or a terminal, of which k symbols are read
abbrev pub IsElementText : Alphabet → List Rule → Element → ℕ → List ℕ → Type 0
IsElementText alphabet rules e k text = IsTextFor alphabet rules e k (element_name e) text

-- the text of a part: its element in its rule
pub record IsPartText (alphabet : Alphabet) (rules : List Rule) (part : ShownPart) (text : List ℕ) : Type 0 where
  pub element : List ℕ
  pub shows : IsElementText alphabet rules part.element part.read element
  pub is : text ≡ element ++ (codes " in " ++ shown_name rules part.rule)

-- the texts of parts, in their order
pub data ArePartTexts (alphabet : Alphabet) (rules : List Rule) : List ShownPart → List (List ℕ) → Type 0 where
  no_text : ArePartTexts alphabet rules [] []
  part_text : {part : ShownPart} {parts : List ShownPart} {text : List ℕ} {texts : List (List ℕ)}
      → IsPartText alphabet rules part text → ArePartTexts alphabet rules parts texts
      → ArePartTexts alphabet rules (part ∷ parts) (text ∷ texts)

-- the texts that are none of these, each once, in the order of their first
abbrev pub texts_once : List (List ℕ) → List (List ℕ) → List (List ℕ)
texts_once seen [] = []
texts_once seen (t ∷ ts) = if list_any (bytes_eq t) seen then texts_once seen ts
    else t ∷ texts_once (seen ++ t ∷ []) ts

-- the texts of the parts that are reported after n symbols of a line, each once
pub record AreTextsAfter (alphabet : Alphabet) (rules : List Rule) (judged : ℕ) (x : List ℕ) (n : ℕ)
    (once : List (List ℕ)) : Type 0 where
  pub parts : List ShownPart
  pub reported : AreReportedParts (IsPartReported alphabet rules judged x n) (parts_from 0 rules) parts
  pub texts : List (List ℕ)
  pub listed : ArePartTexts alphabet rules parts texts
  pub is : once ≡ texts_once [] texts
