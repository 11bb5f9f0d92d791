-- Which lines each mode lists.
use Rattle.std.specs.Prelude.{◌≡◌, ◌↔◌, ℕ, Bool, true, false, List, [], ◌∷◌, ◌++◌}
use Rattle.std.specs.List.{All}
use Rattle.std.proofs.Common.{Vec, Global}
use Rattle.abnfg.specs.CoverGoals.{AreGoalsReported}
use Rattle.abnfg.specs.CoverLists.{AreFirstOfCover, AreOfCover, IsSameList, bounds_asked, bounds_of}
use Rattle.abnfg.specs.ListedLines.{AreFirstLines, AreListed, HoldAll, end_of}
use Rattle.abnfg.specs.ListRefusals.{AreRefusalsFrom, explained_lines, explains_by}
use Rattle.abnfg.specs.declared.lines.ListMode.{ListMode}
use Rattle.abnfg.specs.declared.lines.ListMode.TheVariants.{All as InOrder, Cover, Miss, Random}
use Rattle.abnfg.specs.declared.lines.ListSettings.{ListSettings}
use Rattle.abnfg.specs.declared.source.LineSource.{LineSource}
use Rattle.abnfg.specs.declared.source.LineSource.TheVariants.{Derived, Drawn, Missed}
use Rattle.abnfread.specs.Element.{Rule}
use Rattle.abnfrun.specs.AbnfReply.{unit_for}
use Rattle.ruletable.specs.declared.alphabet.Alphabet.{Alphabet}
use Rattle.rulelines.specs.LineSets.{AreRuleLines, IsLineIn, IsRuleLine, LineSet}
use Rattle.rulelines.specs.MissLists.{AreAllMisses, AreFirstMisses, AreLinesReported, AreOfRule, MissList}
use Rattle.rulelines.specs.MissLists.{item_lines}
use Rattle.rulelines.specs.MissSearch.{PrefixSet}
use Rattle.rulelines.specs.SampleLines.{IsSampleLine}
use Rattle.rulelines.specs.declared.list.lines.NextLine.{NextLine}
use Rattle.rulelines.specs.declared.list.lines.NextLine.TheVariants.{Line, Done}

-- a line of the rule, or one whose symbols are each the first of those that no set distinguishes from it
abbrev pub IsOrderedLine : Bool → Alphabet → ℕ → ℕ → List Rule → ℕ → List ℕ → Type 0
IsOrderedLine false alphabet terminator limit rules id = IsRuleLine alphabet terminator limit rules id
IsOrderedLine true alphabet terminator limit rules id = IsSampleLine alphabet terminator limit rules id

-- the lists of lines that a mode begins with
abbrev pub FirstIn : ListMode → Bool → Bool → Alphabet → ℕ → ℕ → List Rule → ℕ → List (List ℕ) → Type 0
FirstIn InOrder alike edges alphabet terminator limit rules id =
    AreFirstLines (IsOrderedLine alike alphabet terminator limit rules id)
FirstIn Cover alike edges alphabet terminator limit rules id =
    AreFirstOfCover (bounds_of alphabet terminator limit) rules id
FirstIn Miss alike edges alphabet terminator limit rules id = AreFirstMisses alphabet terminator limit rules id edges
FirstIn Random alike edges alphabet terminator limit rules id = All (IsRuleLine alphabet terminator limit rules id)

-- the lists of all its lines
abbrev pub WholeIn : ListMode → Bool → Bool → Alphabet → ℕ → ℕ → List Rule → ℕ → List (List ℕ) → Type 0
WholeIn InOrder alike edges alphabet terminator limit rules id =
    HoldAll (IsOrderedLine alike alphabet terminator limit rules id)
WholeIn Cover alike edges alphabet terminator limit rules id =
    AreOfCover IsSameList (bounds_of alphabet terminator limit) rules id
WholeIn Miss alike edges alphabet terminator limit rules id = AreAllMisses alphabet terminator limit rules id edges
WholeIn Random alike edges alphabet terminator limit rules id = HoldAll (IsRuleLine alphabet terminator limit rules id)

abbrev pub AreFirstAsked : ListSettings → List Rule → ℕ → List (List ℕ) → Type 0
AreFirstAsked settings rules id = FirstIn settings.mode settings.alike settings.edges settings.letters
    (end_of settings.nul) settings.limit rules id

abbrev pub AreWholeAsked : ListSettings → List Rule → ℕ → List (List ℕ) → Type 0
AreWholeAsked settings rules id = WholeIn settings.mode settings.alike settings.edges settings.letters
    (end_of settings.nul) settings.limit rules id

-- the prefixes of the lines that are asked for and miss a rule, by the flat grammar of some
abbrev pub prefixes_asked : ListSettings → PrefixSet → PrefixSet
prefixes_asked settings set = record {
  flat = set.flat;
  alphabet = settings.letters;
  terminator = end_of settings.nul;
  limit = settings.limit;
  edges = settings.edges;
}

-- the bytes of the lines that are explained
abbrev pub explained_asked : ListSettings → List (List ℕ) → List (List ℕ)
explained_asked settings ws = explained_lines (explains_by settings.mode settings.explain) settings.letters ws

-- a text explains lines of a rule: it says why the rule rejects each that is explained
abbrev pub AreRefused : ListSettings → List Rule → ℕ → List (List ℕ) → List ℕ → Type 0
AreRefused settings rules id ws text =
    AreRefusalsFrom (unit_for settings.nul) settings.letters rules id 1 (explained_asked settings ws) text

-- .. or, in the mode of lines that reach goals, what they are for
abbrev pub ExplainedIn : ListMode → ListSettings → List Rule → ℕ → List (List ℕ) → List ℕ → Type 0
ExplainedIn InOrder settings rules id ws text = AreRefused settings rules id ws text
ExplainedIn Cover settings rules id ws text =
    AreGoalsReported settings.explain (unit_for settings.nul) (bounds_asked settings) rules id ws text
ExplainedIn Miss settings rules id ws text = AreRefused settings rules id ws text
ExplainedIn Random settings rules id ws text = AreRefused settings rules id ws text

abbrev pub AreExplained : ListSettings → List Rule → ℕ → List (List ℕ) → List ℕ → Type 0
AreExplained settings rules id ws text = ExplainedIn settings.mode settings rules id ws text

-- the bytes of the lines that are explained were kept
abbrev pub AreLinesKept : ListSettings → List (Vec ℕ Global) → List (List ℕ) → Type 0
AreLinesKept settings kept ws = item_lines kept ≡ explained_asked settings ws

abbrev pub WithKept : ListSettings → List (Vec ℕ Global) → (List (List ℕ) → Type 0) → List (List ℕ) → Type 0
WithKept settings kept lists ws = lists ws × AreLinesKept settings kept ws

-- whether the lines of a mode reach goals
abbrev pub reaches_goals : ListMode → Bool
reaches_goals InOrder = false
reaches_goals Cover = true
reaches_goals Miss = false
reaches_goals Random = false

module _ (settings : ListSettings) (rules : List Rule) (id : ℕ) where
  -- the lines are those that are asked for
  abbrev pub AreLinesAsked : LineSet → Type 0
  AreLinesAsked lines = AreRuleLines settings.letters (end_of settings.nul) settings.limit rules id lines

  -- .. in the mode of lines in order
  abbrev pub AreOrderedAsked : LineSet → Type 0
  AreOrderedAsked lines = (w : List ℕ)
      → IsLineIn lines w ↔ IsOrderedLine settings.alike settings.letters (end_of settings.nul) settings.limit rules id w

  abbrev pub AreMissesAsked : MissList → Type 0
  AreMissesAsked misses = (misses.prefixes.set ≡ prefixes_asked settings misses.prefixes.set)
      × AreOfRule rules id misses

  -- a source of the lines that are asked for has returned some
  abbrev pub HasReturned : LineSource → List (List ℕ) → Type 0
  HasReturned (Derived derived) ws = (settings.mode ≡ InOrder) × AreOrderedAsked derived.lines
      × AreListed (IsLineIn derived.lines) derived.last ws
  HasReturned (Missed misses) ws = (settings.mode ≡ Miss) × AreMissesAsked misses × AreLinesReported rules id misses ws
  HasReturned (Drawn lines lots) ws = (settings.mode ≡ Random) × AreLinesAsked lines × All (IsLineIn lines) ws

  -- after some lines it returned one more, or those are all
  abbrev pub IsReturnStep : LineSource → List (List ℕ) → NextLine → Type 0
  IsReturnStep source ws (Line line) = HasReturned source (ws ++ line.items ∷ [])
  IsReturnStep source ws Done = AreWholeAsked settings rules id ws
