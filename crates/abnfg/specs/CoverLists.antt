-- Lists of lines that reach goals, and how they are written.
use Rattle.std.specs.Prelude.{◌≡◌, ◌⊎◌, ℕ, Bool, true, false, List, [], ◌∷◌, Option, Result, Ok, Err, take}
use Rattle.std.specs.Io.KnownBytes.{Appends}
use Rattle.std.specs.List.{flat_map}
use Rattle.abnfg.specs.ListedLines.{end_of}
use Rattle.abnfg.specs.declared.lines.ListSettings.{ListSettings}
use Rattle.abnfread.specs.Element.{Rule}
use Rattle.coverlines.specs.CoverLines.{IsCover, line_items}
use Rattle.coverlines.specs.MissedGoals.{AreMissed}
use Rattle.coverlines.specs.declared.bounds.LineBounds.{LineBounds}
use Rattle.coverlines.specs.declared.way.CoverGoal.{CoverGoal}
use Rattle.coverlines.specs.declared.cover.CoverLine.{CoverLine}
use Rattle.ruletable.specs.declared.alphabet.Alphabet.{Alphabet}
use Rattle.ruletable.specs.Writing.{AppendsPart}
use Rattle.ruletable.specs.declared.sink.WriteFault.{WriteFault}
use Rattle.toolrun.specs.declared.status.Status.{Status}
use Rattle.toolrun.specs.declared.status.Status.TheVariants.{Done, NoMatch}

-- which lists may be lines
abbrev pub bounds_of : Alphabet → ℕ → ℕ → LineBounds
bounds_of alphabet terminator limit = record { alphabet = alphabet; terminator = terminator; limit = limit }

-- lines that reach the goals of a grammar, all of them or the first
pub record AreOfCover (all : List (List ℕ) → List (List ℕ) → Type 0) (b : LineBounds) (rules : List Rule) (id : ℕ)
    (ws : List (List ℕ)) : Type 0 where
  pub lines : List CoverLine
  pub cover : IsCover b rules id lines
  pub are : all (line_items lines) ws

-- a list begins with another one, or is that one
abbrev pub HasFirstLists : List (List ℕ) → List (List ℕ) → Type 0
HasFirstLists all ws = (n : ℕ) × (ws ≡ take n all)

abbrev pub IsSameList : List (List ℕ) → List (List ℕ) → Type 0
IsSameList all ws = ws ≡ all

-- no line, or the first of those that reach the goals
abbrev pub AreFirstOfCover : LineBounds → List Rule → ℕ → List (List ℕ) → Type 0
AreFirstOfCover b rules id ws = (ws ≡ []) ⊎ AreOfCover HasFirstLists b rules id ws

-- the bounds that are asked for
abbrev pub bounds_asked : ListSettings → LineBounds
bounds_asked settings = bounds_of settings.letters (end_of settings.nul) settings.limit

-- within these bounds the lines reach the goals, and no line reaches those
abbrev pub IsCoverOf : ListSettings → List Rule → ℕ → List CoverLine → Type 0
IsCoverOf settings = IsCover (bounds_asked settings)

abbrev pub AreMissedBy : ListSettings → List Rule → ℕ → List CoverGoal → Type 0
AreMissedBy settings = AreMissed (bounds_asked settings)

-- the status of a run that lists them
abbrev pub listed_status : List CoverLine → Status
listed_status [] = NoMatch
listed_status (line ∷ lines) = Done

-- a line was written; or an allocation failed, or a part of it was written
abbrev pub IsLineWritten : List ℕ → Option (List ℕ) → Option (List ℕ) → Result Bool WriteFault → Type 0
IsLineWritten text old new (Ok true) = Appends old new text
IsLineWritten text old new (Ok false) = Appends old new []
IsLineWritten text old new (Err fault) = AppendsPart old new text

-- the texts of lines
abbrev pub line_texts : (List ℕ → List ℕ) → List CoverLine → List ℕ
line_texts text_of lines = flat_map (λ line. text_of line.line.items) lines

-- they were written; or an allocation failed after the first ones, or a part of them was written
abbrev pub AreAllWritten : (List ℕ → List ℕ) → List CoverLine → Option (List ℕ) → Option (List ℕ)
    → Result Bool WriteFault → Type 0
AreAllWritten text_of lines old new (Ok true) = Appends old new (line_texts text_of lines)
AreAllWritten text_of lines old new (Ok false) = (n : ℕ) × Appends old new (line_texts text_of (take n lines))
AreAllWritten text_of lines old new (Err fault) = AppendsPart old new (line_texts text_of lines)
