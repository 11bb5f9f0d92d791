-- The lines of a rule that C lists, and the next one.
use Rattle.std.proofs.Common.{Global, Vec}
use Rattle.std.specs.Prelude.{◌≡◌, ◌==◌, ℕ, Bool, true, false, List, [], ◌∷◌, map}
use Rattle.std.specs.Prelude.{Option, Some, None, IfSome, if◌then◌else◌}
use Rattle.std.specs.Vec.Iter.{into_iter_items}
use Rattle.abnfcheck.specs.AbnfGrammar.{Grammar}
use Rattle.abnfexplain.specs.AbnfAllFaults.{ExplainsAll}
use Rattle.abnfread.specs.AbnfReading.{IsFaultOf}
use Rattle.abnfread.specs.AbnfViews.{rules_of}
use Rattle.abnfread.specs.Element.{Rule}
use Rattle.abnfrun.specs.AbnfExplainedNotes.{ExplainsAbnfNote}
use Rattle.abnfrun.specs.AbnfSettings.{AbnfSettings}
use Rattle.abnfrun.specs.AbnfTextHints.{AreTextHints}
use Rattle.capi.specs.GrammarsCompared.{IsOpenGrammar}
use Rattle.capi.specs.OpenCall.{IsOpening}
use Rattle.capi.specs.declared.listing.LineList.{LineList}
use Rattle.capi.specs.declared.listing.LineList.TheVariants.{Derived, Missed, Drawn, Listed}
use Rattle.capi.specs.declared.listing.Listing.{Listing}
use Rattle.capi.specs.declared.listing.ListKind.{ListKind}
use Rattle.capi.specs.declared.listing.ListKind.TheVariants as kind
use Rattle.coverlines.specs.CoverLines.{IsCover, line_items}
use Rattle.coverlines.specs.declared.cover.CoverLine.{CoverLine}
use Rattle.ruletable.specs.declared.alphabet.Alphabet.{Alphabet}
use Rattle.rulelines.specs.LineSets.{AreRuleLines, IsFirstStep, IsLineAfter, IsLineIn, IsSomeLine}
use Rattle.rulelines.specs.MissLists.{AreMissesOf, AreOfRule, IsMissStep}
use Rattle.rulelines.specs.Seeds.{seed_of}
use Rattle.rulelines.specs.SampleLines.{AreSampleLines}
use Rattle.rulelines.specs.declared.list.lines.NextLine.{NextLine}
use Rattle.rulelines.specs.declared.list.lines.NextLine.TheVariants as next
use Rattle.ruletable.specs.Notes.{Said}

-- the lines of a number: those that the rule derives; near ones that it does not, without wrong symbols next to those
-- that can follow, and with them; some that it derives, by lot from a seed; those of the derived ones that have only
-- the first of symbols that no set distinguishes; or some that reach each goal
abbrev pub kind_by : ℕ → ℕ → Option ListKind
kind_by n seed = if n == 0 then Some kind.Derived else (if n == 1 then Some (kind.Missed false) else
    (if n == 2 then Some (kind.Missed true) else (if n == 3 then Some (kind.Drawn seed) else
    (if n == 4 then Some kind.Sampled else (if n == 5 then Some kind.Covering else None)))))

-- the byte that ends a line, which listed lines do not have: LF, or NUL
abbrev pub line_end : Bool → ℕ
line_end nul = if nul then 0 else 10

-- the symbols of each line
abbrev pub symbols_of : List (Vec ℕ Global) → List (List ℕ)
symbols_of lines = map (λ line. line.items) lines

-- the lines are those that reach each goal of the rule of an id
pub record AreCoverLines (letters : Alphabet) (end limit : ℕ) (rules : List Rule) (id : ℕ) (ws : List (List ℕ))
    : Type 0 where
  pub lines : List CoverLine
  pub cover : IsCover (record { alphabet = letters; terminator = end; limit = limit }) rules id lines
  pub are : ws ≡ line_items lines

-- before the first line, the list is of this kind and of this rule
abbrev pub IsListFor : ListKind → Alphabet → ℕ → ℕ → List Rule → ℕ → LineList → Type 0
IsListFor kind.Derived letters end limit rules id (Derived lines) = AreRuleLines letters end limit rules id lines
IsListFor (kind.Missed edges) letters end limit rules id (Missed misses) =
    AreMissesOf letters end limit edges rules id misses
IsListFor (kind.Drawn seed) letters end limit rules id (Drawn lines lots) =
    AreRuleLines letters end limit rules id lines × (seed_of lots ≡ seed)
IsListFor kind.Sampled letters end limit rules id (Derived lines) = AreSampleLines letters end limit rules id lines
IsListFor kind.Covering letters end limit rules id (Listed left) =
    AreCoverLines letters end limit rules id (symbols_of (into_iter_items left))
IsListFor _ letters end limit rules id _ = ⊥

-- before the first line, what C lists is as settings ask, unless the grammar has too many states
pub record IsListingFor (of_kind : ListKind) (settings : AbnfSettings) (grammar : Grammar) (listing : Listing) : Type 0
  where
    pub letters : listing.letters ≡ settings.options.letters
    pub none_yet : listing.last ≡ None
    pub list : IfSome listing.list (IsListFor of_kind settings.options.letters (line_end settings.options.nul)
        settings.limit (rules_of grammar.rules) grammar.judged)

-- the text has these notes, and these are lines of its grammar, unless one of the notes rejects it
abbrev pub IsListingOf : ListKind → List ℕ → AbnfSettings → List Said → Option Listing → Type 0
IsListingOf of_kind text settings notes None = IsOpenGrammar text settings notes None
IsListingOf of_kind text settings notes (Some listing) = (grammar : Grammar)
    × IsOpenGrammar text settings notes (Some grammar) × IsListingFor of_kind settings grammar listing

-- a grammar in ABNF is opened for lines of a kind
abbrev pub IsLinesOpening : ListKind → List ℕ → AbnfSettings → List ℕ → Option Listing → ℕ → Type 0
IsLinesOpening of_kind text settings = IsOpening (IsFaultOf text) (ExplainsAll text) (ExplainsAbnfNote text)
    (AreTextHints text settings) (IsListingOf of_kind text settings) settings

-- the first of the lines that are left, if there is one, and those after it
abbrev pub IsTaken : List (Vec ℕ Global) → List (Vec ℕ Global) → NextLine → Type 0
IsTaken [] left step = (left ≡ []) × (step ≡ next.Done)
IsTaken (line ∷ lines) left step = (left ≡ lines) × (step ≡ next.Line line)

-- the line after the last one that a list returned, or the first, and what is left of the list; by lot, some line
abbrev pub IsNextListed : LineList → Option (Vec ℕ Global) → LineList → NextLine → Type 0
IsNextListed (Derived lines) None left step = (left ≡ Derived lines) × IsFirstStep (IsLineIn lines) step
IsNextListed (Derived lines) (Some last) left step = (left ≡ Derived lines)
    × IsLineAfter (IsLineIn lines) last.items step
IsNextListed (Missed misses) last (Missed left) step = (left.prefixes.set ≡ misses.prefixes.set)
    × ((rules : List Rule) (id : ℕ) → AreOfRule rules id misses → IsMissStep rules id misses left step)
IsNextListed (Drawn lines lots) last (Drawn left later) step = (left ≡ lines) × IsSomeLine (IsLineIn lines) step
IsNextListed (Listed lines) last (Listed left) step = IsTaken (into_iter_items lines) (into_iter_items left) step
IsNextListed _ last _ step = ⊥
