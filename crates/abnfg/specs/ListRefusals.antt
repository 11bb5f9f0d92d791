-- The explanations of lines that a rule rejects.
use Rattle.std.specs.Prelude.{◌≡◌, ℕ, ◌+◌, Bool, true, false, List, [], ◌∷◌, ◌++◌, map}
use Rattle.abnfg.specs.declared.lines.ListMode.{ListMode}
use Rattle.abnfg.specs.declared.lines.ListMode.TheVariants.{All as InOrder, Cover, Miss, Random}
use Rattle.abnfread.specs.Element.{Rule}
use Rattle.ruletable.specs.declared.alphabet.Alphabet.{Alphabet}
use Rattle.refusedlines.specs.Refusals.{IsRefusalReported}
use Rattle.refusedlines.specs.declared.refusal.LineUnit.{LineUnit}
use Rattle.rulelines.specs.LineBytes.{line_bytes}

-- The text explains why the rule of an id rejects each of the lines, in order. The first one has that number.
module _ (unit : LineUnit) (alphabet : Alphabet) (rules : List Rule) (id : ℕ) where
  abbrev pub AreRefusalsFrom : ℕ → List (List ℕ) → List ℕ → Type 0
  AreRefusalsFrom number [] text = text ≡ []
  AreRefusalsFrom number (line ∷ lines) text = (one : List ℕ) × (rest : List ℕ) × (text ≡ one ++ rest)
      × IsRefusalReported unit alphabet rules id line number one × AreRefusalsFrom (number + 1) lines rest

-- whether lines of a mode are explained: those that miss the rule, if that is asked for
abbrev pub explains_by : ListMode → Bool → Bool
explains_by InOrder explain = false
explains_by Cover explain = false
explains_by Miss explain = explain
explains_by Random explain = false

-- the bytes of the lines that are explained: of all, or of none
abbrev pub explained_lines : Bool → Alphabet → List (List ℕ) → List (List ℕ)
explained_lines true alphabet ws = map (λ w. line_bytes alphabet w) ws
explained_lines false alphabet ws = []
