-- The lines that a source of a mode returns.
-- Serves: abnfg_main (right)
use Rattle.std.proofs.Common.{◌≡◌, ℕ, List, [], ◌∷◌, ◌++◌, inl, refl, sym}
use Rattle.std.proofs.Common.{subst, arith}
use Rattle.std.proofs.Common.{Option, None, Some, Vec, Global}
use Rattle.std.specs.Prelude.{Result, Ok, Err, IfOk, IfSome}
use Rattle.std.specs.List.{All}
use Rattle.std.proofs.lemmas.List.Elements.{All-push, All-weaker}
use Rattle.abnfg.proofs.ListedLinesLemmas.{all_as, first_as, no_lines_first, none_listed}
use Rattle.abnfg.specs.ListedLines.{AreListed, IsListStep, end_of}
use Rattle.abnfg.specs.ListModes.{AreFirstAsked, AreLinesAsked, AreMissesAsked, AreOrderedAsked, FirstIn}
use Rattle.abnfg.specs.ListModes.{HasReturned, IsOrderedLine, IsReturnStep, WholeIn, prefixes_asked}
use Rattle.abnfg.specs.declared.lines.ListMode.{ListMode}
use Rattle.abnfg.specs.declared.lines.ListMode.TheVariants.{All as InOrder, Cover, Miss, Random}
use Rattle.abnfg.specs.declared.lines.ListSettings.{ListSettings}
use Rattle.abnfg.specs.declared.source.DerivedLines.{DerivedLines}
use Rattle.abnfg.specs.declared.source.LineSource.{LineSource}
use Rattle.abnfg.specs.declared.source.LineSource.TheVariants.{Derived, Drawn, Missed}
use Rattle.abnfread.specs.Element.{Rule}
use Rattle.rulelines.specs.LineSets.{IsLineIn, IsRuleLine, IsSomeLine, LineSet}
use Rattle.rulelines.specs.MissLists.{AreAllMisses, AreFirstMisses, AreMissesOf, AreOfRule}
use Rattle.rulelines.specs.MissLists.{IsMissStep, MissList}
use Rattle.rulelines.specs.MissSearch.{GivesPrefixesTo, PrefixSet}
use Rattle.rulelines.specs.declared.list.lines.NextLine.{NextLine}
use Rattle.rulelines.specs.declared.list.lines.NextLine.TheVariants.{Line, Done}
use Rattle.rulelines.specs.declared.list.lots.Lots.{Lots}
use Rattle.ruletable.specs.declared.memory.Memory.{Memory}
use Rattle.rulelines.proofs.MissLinesLemmas.{first_misses, no_prefixes, reported_first}

module _ (s : ListSettings) (rules : List Rule) (id : ℕ) where
  abbrev FirstOf : ListMode → List (List ℕ) → Type 0
  FirstOf mode = FirstIn mode s.alike s.edges s.letters (end_of s.nul) s.limit rules id

  abbrev WholeOf : ListMode → List (List ℕ) → Type 0
  WholeOf mode = WholeIn mode s.alike s.edges s.letters (end_of s.nul) s.limit rules id

  abbrev RuleLine : List ℕ → Type 0
  RuleLine = IsRuleLine s.letters (end_of s.nul) s.limit rules id

  abbrev OrderedLine : List ℕ → Type 0
  OrderedLine = IsOrderedLine s.alike s.letters (end_of s.nul) s.limit rules id

  -- the first misses of a set of prefixes, and all of them
  abbrev FirstMissesIn : PrefixSet → List (List ℕ) → Type 0
  FirstMissesIn set = AreFirstMisses set.alphabet set.terminator set.limit rules id set.edges

  abbrev AllMissesIn : PrefixSet → List (List ℕ) → Type 0
  AllMissesIn set = AreAllMisses set.alphabet set.terminator set.limit rules id set.edges

  -- no line is the first of the lines of any mode
  pub none_first : (mode : ListMode) → FirstOf mode []
  none_first InOrder = no_lines_first OrderedLine
  none_first Cover = inl refl
  none_first Miss =
      first_misses s.letters (end_of s.nul) s.limit rules id s.edges []
      (no_prefixes s.letters (end_of s.nul) s.limit rules id s.edges) [] [] refl
  none_first Random = λ k d lt. absurd (omega (arith, lt))

  -- what a source has returned is the first of what is asked for
  pub returned_first : (source : LineSource) (ws : List (List ℕ)) → HasReturned s rules id source ws
      → AreFirstAsked s rules id ws
  returned_first (Derived d) ws is =
      subst (λ (m : ListMode). FirstOf m ws) (sym is.0) (first_as (IsLineIn d.lines) OrderedLine is.1 ws is.2.first)
  returned_first (Missed m) ws is =
      subst (λ (m : ListMode). FirstOf m ws) (sym is.0)
      (subst (λ (v : PrefixSet). FirstMissesIn v ws) is.1.0 (reported_first rules id m ws is.2))
  returned_first (Drawn lines lots) ws is =
      subst (λ (m : ListMode). FirstOf m ws) (sym is.0)
      (All-weaker (IsLineIn lines) RuleLine (λ w. (is.1 w).0) ws is.2)

  -- a source that has returned no line
  pub none_derived : (d : DerivedLines) → s.mode ≡ InOrder → AreOrderedAsked s rules id d.lines → d.last ≡ None
      → HasReturned s rules id (Derived d) []
  none_derived d mode are none = (
    mode,
    are,
    subst (λ (v : Option (Vec ℕ Global)). AreListed (IsLineIn d.lines) v []) (sym none)
        (none_listed (IsLineIn d.lines)),
  )

  pub none_missed : (m : MissList) → s.mode ≡ Miss
      → AreMissesOf s.letters (end_of s.nul) s.limit s.edges rules id m → HasReturned s rules id (Missed m) []
  none_missed m mode of =
      (mode, (same_set m.prefixes.set of.alphabet_is of.terminator_is of.limit_is of.edges_is, of.rule), of.none)
    where
      same_set : (set : PrefixSet) → set.alphabet ≡ s.letters → set.terminator ≡ end_of s.nul
          → set.limit ≡ s.limit → set.edges ≡ s.edges → set ≡ prefixes_asked s set
      same_set set a t l e = rw (a, t, l, e) refl

  pub none_drawn : (lines : LineSet) (lots : Lots) → s.mode ≡ Random → AreLinesAsked s rules id lines
      → HasReturned s rules id (Drawn lines lots) []
  none_drawn lines lots mode are = (mode, are, λ k d lt. absurd (omega (arith, lt)))

  -- the next line of each kind
  pub derived_next : (old new : DerivedLines) → new.lines ≡ old.lines → (ws : List (List ℕ)) (step : NextLine)
      → HasReturned s rules id (Derived old) ws
      → IsListStep (IsLineIn old.lines) new.last ws step → IsReturnStep s rules id (Derived new) ws step
  derived_next old new same ws (Line w) is next = (
    is.0,
    subst (λ (v : LineSet). AreOrderedAsked s rules id v) (sym same) is.1,
    subst (λ (v : LineSet). AreListed (IsLineIn v) new.last (ws ++ w.items ∷ [])) (sym same) next,
  )
  derived_next old new same ws Done is all =
      subst (λ (m : ListMode). WholeOf m ws) (sym is.0) (all_as (IsLineIn old.lines) OrderedLine is.1 ws all)

  same_misses : (old new : MissList) → new.prefixes.set ≡ old.prefixes.set → AreMissesAsked s rules id old
      → AreMissesAsked s rules id new
  same_misses old new same is = subst
      (λ (v : PrefixSet). (v ≡ prefixes_asked s v) × GivesPrefixesTo v.alphabet v.limit rules id v.flat)
      (sym same) is

  pub missed_next : (old new : MissList) → new.prefixes.set ≡ old.prefixes.set → (ws : List (List ℕ))
      (step : NextLine) → HasReturned s rules id (Missed old) ws → IsMissStep rules id old new step
      → IsReturnStep s rules id (Missed new) ws step
  missed_next old new same ws (Line w) is next = (is.0, same_misses old new same is.1, next ws is.2)
  missed_next old new same ws Done is all =
      subst (λ (m : ListMode). WholeOf m ws) (sym is.0)
      (subst (λ (v : PrefixSet). AllMissesIn v ws) is.1.0 (all ws is.2))

  pub drawn_next : (lines now : LineSet) (lots next : Lots) → now ≡ lines → (ws : List (List ℕ)) (step : NextLine)
      → HasReturned s rules id (Drawn lines lots) ws → IsSomeLine (IsLineIn lines) step
      → IsReturnStep s rules id (Drawn now next) ws step
  drawn_next lines now lots next same ws (Line w) is line = (
    is.0,
    subst (λ (v : LineSet). AreLinesAsked s rules id v) (sym same) is.1,
    subst (λ (v : LineSet). All (IsLineIn v) (ws ++ w.items ∷ [])) (sym same)
        (All-push (IsLineIn lines) ws w.items is.2 line),
  )
  drawn_next lines now lots next same ws Done is none =
      subst (λ (m : ListMode). WholeOf m ws) (sym is.0) (λ v line. absurd (none v ((is.1 v).1 line)))

-- the next line, whatever is asked for
abbrev pub Returns : LineSource → LineSource → Result (Option NextLine) Memory → Type 0
Returns old new r = IfOk r (λ reported. IfSome reported (λ step. (s : ListSettings) (rules : List Rule) (id : ℕ)
    (ws : List (List ℕ)) → HasReturned s rules id old ws → IsReturnStep s rules id new ws step))

pub derived_returns : (old new : DerivedLines) → new.lines ≡ old.lines → (r : Result (Option NextLine) Memory)
    → IfOk r (λ reported. IfSome reported (λ step. (ws : List (List ℕ)) → AreListed (IsLineIn old.lines) old.last ws
    → IsListStep (IsLineIn old.lines) new.last ws step)) → Returns (Derived old) (Derived new) r
derived_returns old new same (Ok (Some step)) next =
    λ s rules id ws is. derived_next s rules id old new same ws step is (next ws is.2)
derived_returns old new same (Ok None) next = tt
derived_returns old new same (Err e) next = tt

pub missed_returns : (old new : MissList) → new.prefixes.set ≡ old.prefixes.set
    → (r : Result (Option NextLine) Memory)
    → IfOk r (λ reported. IfSome reported (λ step. (rules : List Rule) (id : ℕ) → AreOfRule rules id old
    → IsMissStep rules id old new step)) → Returns (Missed old) (Missed new) r
missed_returns old new same (Ok (Some step)) next =
    λ s rules id ws is. missed_next s rules id old new same ws step is (next rules id is.1.1)
missed_returns old new same (Ok None) next = tt
missed_returns old new same (Err e) next = tt

pub drawn_returns : (old new : LineSet) (lots next : Lots) → new ≡ old → (r : Result (Option NextLine) Memory)
    → IfOk r (λ reported. IfSome reported (IsSomeLine (IsLineIn old))) → Returns (Drawn old lots) (Drawn new next) r
drawn_returns old new lots next same (Ok (Some step)) some =
    λ s rules id ws is. drawn_next s rules id old new lots next same ws step is some
drawn_returns old new lots next same (Ok None) some = tt
drawn_returns old new lots next same (Err e) some = tt
