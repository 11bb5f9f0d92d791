-- The first lines, one after another.
-- Serves: abnfg_main (right)
use Rattle.std.proofs.Common.{◌≡◌, ◌⊎◌, inl, inr, ℕ, List, [], ◌∷◌, ◌++◌, refl, sym, subst, arith}
use Rattle.std.proofs.Common.{Option, None, Some, Vec, Global}
use Rattle.std.specs.Prelude.{Result, Ok, Err, IfOk, IfSome, Contains, ◌↔◌}
use Rattle.std.specs.List.{All}
use Rattle.std.proofs.lemmas.List.Elements.{All-contains, All-get_or, All-push, All-weaker, Contains-append_left}
use Rattle.std.proofs.lemmas.List.Elements.{Contains-push}
use Rattle.std.proofs.lemmas.List.Quantifiers.{all_pairs_push}
use Rattle.abnfg.specs.ListedLines.{AreFirstLines, AreListed, HoldAll, IsListStep, IsStepOf}
use Rattle.rulelines.specs.LineSets.{HasNoneAfter, IsFirstAfter, IsFirstStep, IsLineAfter}
use Rattle.rulelines.specs.declared.list.lines.NextLine.{NextLine}
use Rattle.rulelines.specs.declared.list.lines.NextLine.TheVariants.{Line, Done}
use Rattle.ruletable.specs.declared.memory.Memory.{Memory}
use Rattle.rulelines.proofs.ComesFirstLemmas.{before_trans}
use Rattle.rulelines.specs.FirstLines.{ComesFirst, IsFirstLine, IsShortlexBefore}

-- a line up to the last one is before each after that
before_next : (u last w : List ℕ) → ComesFirst u last → IsShortlexBefore last w → IsShortlexBefore u w
before_next u last w (inl same) b = subst (λ v. IsShortlexBefore v w) (sym same) b
before_next u last w (inr a) b = before_trans a b

module _ (lines : List ℕ → Type 0) where
  pub no_lines_first : AreFirstLines lines []
  no_lines_first = record {
    are = λ k d lt. absurd (omega (arith, lt));
    rise = λ i j d lt less. absurd (omega (arith, less));
    rest = λ v line. inr (λ k d lt. absurd (omega (arith, lt)));
  }

  pub none_listed : AreListed lines None []
  none_listed = record { first = no_lines_first; last_is = refl }

  -- a line is listed after some, which are before it
  line_listed : (ws : List (List ℕ)) (w : Vec ℕ Global) → AreFirstLines lines (ws ++ w.items ∷ [])
      → All (λ u. IsShortlexBefore u w.items) ws → AreListed lines (Some w) (ws ++ w.items ∷ [])
  line_listed ws w first before = record {
    first = first;
    last_is = (
      Contains-push ws w.items,
      All-push (λ u. ComesFirst u w.items) ws w.items
          (All-weaker (λ u. IsShortlexBefore u w.items) (λ u. ComesFirst u w.items) (λ u b. inr b) ws before)
          (inl refl),
    );
  }

  -- the first line
  first_listed : (w : Vec ℕ Global) → IsFirstLine lines w.items → AreListed lines (Some w) (w.items ∷ [])
  first_listed w first =
      line_listed [] w
      (record {
        are = All-push lines [] w.items (λ k d lt. absurd (omega (arith, lt))) first.0;
        rise = λ i j d lt less. absurd (omega (arith, lt, less));
        rest = λ v line. by v (first.1 v line);
      }) (λ k d lt. absurd (omega (arith, lt)))
    where
      by : (v : List ℕ) → ComesFirst w.items v → Contains (w.items ∷ []) v
          ⊎ All (λ u. IsShortlexBefore u v) (w.items ∷ [])
      by v (inl same) = inl (0, omega arith, same)
      by v (inr b) =
          inr (All-push (λ u. IsShortlexBefore u v) [] w.items (λ k d lt. absurd (omega (arith, lt))) b)

  first_step : (step : NextLine) → IsFirstStep lines step → IsStepOf lines [] step
  first_step (Line w) first = first_listed w first
  first_step Done none = λ v line. absurd (none v line)

  module _ (ws : List (List ℕ)) (last : Vec ℕ Global) (l : AreListed lines (Some last) ws) where
    before_all : (w : List ℕ) → IsShortlexBefore last.items w → All (λ u. IsShortlexBefore u w) ws
    before_all w after =
        All-weaker (λ u. ComesFirst u last.items) (λ u. IsShortlexBefore u w)
        (λ u b. before_next u last.items w b after) ws l.last_is.1

    line_next : (w : Vec ℕ Global) → IsFirstAfter lines last.items w.items
        → AreListed lines (Some w) (ws ++ w.items ∷ [])
    line_next w f =
        line_listed ws w
        (record {
          are = All-push lines ws w.items l.first.are f.is_line;
          rise = all_pairs_push IsShortlexBefore ws w.items l.first.rise
              (λ k d lt. All-get_or (λ u. IsShortlexBefore u w.items) ws k d lt (before_all w.items f.later));
          rest = λ v line. by v line (l.first.rest v line);
        }) (before_all w.items f.later)
      where
        on : (v : List ℕ) → All (λ u. IsShortlexBefore u v) ws → ComesFirst w.items v
            → Contains (ws ++ w.items ∷ []) v ⊎ All (λ u. IsShortlexBefore u v) (ws ++ w.items ∷ [])
        on v all (inl same) = inl (subst (λ u. Contains (ws ++ w.items ∷ []) u) same (Contains-push ws w.items))
        on v all (inr b) = inr (All-push (λ u. IsShortlexBefore u v) ws w.items all b)

        by : (v : List ℕ) → lines v → Contains ws v ⊎ All (λ u. IsShortlexBefore u v) ws
            → Contains (ws ++ w.items ∷ []) v ⊎ All (λ u. IsShortlexBefore u v) (ws ++ w.items ∷ [])
        by v line (inl h) = inl (Contains-append_left ws (w.items ∷ []) v h)
        by v line (inr all) =
            on v all
            (f.first v line (All-contains (λ u. IsShortlexBefore u v) ws last.items all l.last_is.0))

    none_next : HasNoneAfter lines last.items → (v : List ℕ) → lines v → Contains ws v
    none_next none v line = by (l.first.rest v line)
      where
        by : Contains ws v ⊎ All (λ u. IsShortlexBefore u v) ws → Contains ws v
        by (inl h) = h
        by (inr all) =
            absurd (none v line (All-contains (λ u. IsShortlexBefore u v) ws last.items all l.last_is.0))

    step_next : (step : NextLine) → IsLineAfter lines last.items step → IsStepOf lines ws step
    step_next (Line w) f = line_next w f
    step_next Done none = none_next none

  abbrev pub StepReported : Option (Vec ℕ Global) → Result (Option NextLine) Memory → Type 0
  StepReported last r = IfOk r (λ reported. IfSome reported (λ step. (ws : List (List ℕ))
      → AreListed lines last ws → IsStepOf lines ws step))

  pub reported_first : (r : Result (Option NextLine) Memory)
      → IfOk r (λ reported. IfSome reported (IsFirstStep lines)) → StepReported None r
  reported_first (Ok (Some step)) first =
      λ ws l. subst (λ v. IsStepOf lines v step) (sym l.last_is) (first_step step first)
  reported_first (Ok None) first = tt
  reported_first (Err e) first = tt

  pub reported_next : (last : Vec ℕ Global) (r : Result (Option NextLine) Memory)
      → IfOk r (λ reported. IfSome reported (IsLineAfter lines last.items)) → StepReported (Some last) r
  reported_next last (Ok (Some step)) next = λ ws l. step_next ws last l step next
  reported_next last (Ok None) next = tt
  reported_next last (Err e) next = tt

  -- the last line is a copy of the one that is returned
  pub copied_last : (ws : List (List ℕ)) (line copy : Vec ℕ Global) → copy.items ≡ line.items
      → IsStepOf lines ws (Line line) → IsListStep lines (Some copy) ws (Line line)
  copied_last ws line copy same is = record {
    first = is.first;
    last_is = subst (λ (v : List ℕ). Contains (ws ++ line.items ∷ []) v
        × All (λ w. ComesFirst w v) (ws ++ line.items ∷ [])) (sym same) is.last_is;
  }

-- the same lines, stated otherwise
module _ (A B : List ℕ → Type 0) (same : (w : List ℕ) → A w ↔ B w) where
  pub first_as : (ws : List (List ℕ)) → AreFirstLines A ws → AreFirstLines B ws
  first_as ws f = record {
    are = All-weaker A B (λ w. (same w).0) ws f.are;
    rise = f.rise;
    rest = λ v line. f.rest v ((same v).1 line);
  }

  pub all_as : (ws : List (List ℕ)) → HoldAll A ws → HoldAll B ws
  all_as ws all v line = all v ((same v).1 line)
