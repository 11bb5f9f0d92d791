-- The way that the search has come.
use Rattle.std.specs.Prelude.{◌≡◌, ◌⊎◌, ◌↔◌, ℕ, ◌+◌, ◌<◌, ◌≤◌, Bool, true, List, [], ◌∷◌, ◌++◌, length, set, take, drop}
use Rattle.std.specs.Prelude.{slice_get, slice_index_or, Some, Contains}
use Rattle.fixpoint.specs.Leads.{Leads}
use Rattle.fixpoint.specs.NumberMarks.{IsMarked, MarksThose}
use Rattle.fixpoint.specs.StepRows.{Step}
use Rattle.fixpoint.specs.declared.cycles.Part.{Part}
use Rattle.fixpoint.specs.declared.cycles.SearchPosition.{SearchPosition}
use Rattle.fixpoint.specs.declared.cycles.SearchPosition.TheVariants as position
use Rattle.fixpoint.specs.declared.cycles.Search as declared

-- what the search holds
pub record Way : Type 0 where
  pub positions : List SearchPosition
  pub path : List ℕ
  pub ahead : List ℕ
  pub parts : List Part
  pub marks : List Bool

-- what the search of the code holds
abbrev pub way_of : declared.Search → Way
way_of search = record {
  positions = search.positions.items;
  path = search.path.items;
  ahead = search.ahead.items;
  parts = search.parts.items;
  marks = search.marks.items;
}

-- x stands at position i
abbrev pub At : {A : Type 0} → List A → ℕ → A → Type 0
At xs i x = slice_get xs i ≡ Some x

-- n stands at the end of the path, in a part of its own, and its row is ahead
pub record Opens (n : ℕ) (row : List ℕ) (old new : Way) : Type 0 where
  pub positions : new.positions ≡ set old.positions n (position.On (length old.path))
  pub path : new.path ≡ old.path ++ n ∷ []
  pub ahead : new.ahead ≡ old.ahead ++ row
  pub parts : new.parts ≡ old.parts ++ record { first = length old.path; rest = length old.ahead } ∷ []
  pub marks : new.marks ≡ old.marks

-- no part begins after index i and at or before index j
abbrev pub AreOfOnePart : List Part → ℕ → ℕ → Type 0
AreOfOnePart parts i j = (k : ℕ) (s : Part) → At parts k s → i < s.first → s.first ≤ j → ⊥

module _ (rows : List (List ℕ)) (w : Way) where
  -- a step is done with: to a number that is done, or later on the path, or to a marked one of the same part
  pub data IsSeen (j m : ℕ) : Type 0 where
    to_done : At w.positions m position.Done → IsSeen j m
    to_later : (i : ℕ) → At w.path i m → j < i → IsSeen j m
    to_same : (i : ℕ) → At w.path i m → IsMarked w.marks m → AreOfOnePart w.parts i j → IsSeen j m
    to_ahead : (a : ℕ) → At w.ahead a m → ((k : ℕ) (s : Part) → At w.parts k s → s.first ≤ j → s.rest ≤ a) → IsSeen j m

  -- from where on the path a step leads to the target at position a of those ahead
  pub record IsFrom (a m : ℕ) : Type 0 where
    pub position : ℕ
    pub number : ℕ
    pub at : At w.path position number
    pub step : Step rows number m
    pub part : (k : ℕ) (s : Part) → At w.parts k s → s.first ≤ position ↔ s.rest ≤ a

  -- the numbers of a part lead to each other, and each part leads to the next
  pub record IsKept : Type 0 where
    pub positions : length w.positions ≡ length rows
    pub marks : length w.marks ≡ length rows
    pub here : (i n : ℕ) → At w.path i n → At w.positions n (position.On i)
    pub there : (i n : ℕ) → At w.positions n (position.On i) → At w.path i n
    pub closed : (n m : ℕ) → At w.positions n position.Done → Step rows n m → At w.positions m position.Done
    pub forth : (i j n m : ℕ) → i < j → At w.path i n → At w.path j m → Leads rows n m
    pub back : (i j n m : ℕ) → i < j → At w.path i n → At w.path j m → AreOfOnePart w.parts i j → Leads rows m n
    pub from : (a m : ℕ) → At w.ahead a m → IsFrom a m
    pub covered : (j n : ℕ) → At w.path j n → (k : ℕ) × (s : Part) × At w.parts k s × (s.first ≤ j)
    pub filled : (k : ℕ) (s : Part) → At w.parts k s → s.first < length w.path
    pub short : (k : ℕ) (s : Part) → At w.parts k s → s.rest ≤ length w.ahead
    pub ascend : (k l : ℕ) (s t : Part) → k < l → At w.parts k s → At w.parts l t →
        (s.first < t.first) × (s.rest ≤ t.rest)
    pub sound : (n : ℕ) → IsMarked w.marks n → Leads rows n n
    pub whole : (n : ℕ) → At w.positions n position.Done → Leads rows n n → IsMarked w.marks n

  -- each step from the path is done with, or its target is ahead
  pub record IsWay : Type 0 where
    pub kept : IsKept
    pub seen : (j n m : ℕ) → At w.path j n → Step rows n m → IsSeen j m

  -- each step from the path is done with, or its target is ahead or t
  pub record IsOwing (t : ℕ) : Type 0 where
    pub kept : IsKept
    pub seen : (j n m : ℕ) → At w.path j n → Step rows n m → IsSeen j m ⊎ (m ≡ t)

  -- from the last part a step leads to t
  pub record IsSource (t : ℕ) : Type 0 where
    pub position : ℕ
    pub number : ℕ
    pub at : At w.path position number
    pub step : Step rows number t
    pub last : (k : ℕ) (s : Part) → At w.parts k s → s.first ≤ position

-- parts at the end that begin after the index are gone
pub record Drops (position : ℕ) (parts parts' : List Part) : Type 0 where
  pub gone : List Part
  pub is : parts ≡ parts' ++ gone
  pub past : (k : ℕ) (s : Part) → At gone k s → position < s.first

-- those and no others are gone
pub record Joins (position : ℕ) (parts parts' : List Part) : Type 0 where
  pub drops : Drops position parts parts'
  pub last : (ps : List Part) (s : Part) → parts' ≡ ps ++ s ∷ [] → s.first ≤ position

-- m, which stands at that index, is marked, and parts that begin after it are one with its own
pub record Meets (position m : ℕ) (old new : Way) : Type 0 where
  pub positions : new.positions ≡ old.positions
  pub path : new.path ≡ old.path
  pub ahead : new.ahead ≡ old.ahead
  pub parts : Joins position old.parts new.parts
  pub marks : new.marks ≡ set old.marks m true

-- each of these is done now, and of the others nothing changed
pub record Finishes (these : List ℕ) (positions positions' : List SearchPosition) : Type 0 where
  pub count : length positions' ≡ length positions
  pub all : (n : ℕ) → Contains these n → At positions' n position.Done
  pub only : (n : ℕ) (p : SearchPosition) → At positions' n p → At positions n p
      ⊎ (Contains these n × (p ≡ position.Done))
  pub other : (n : ℕ) (p : SearchPosition) → At positions n p → At positions' n p ⊎ Contains these n

-- the path from that position on is done, and marked where it is of more than one number
pub record Closes (first : ℕ) (old new : Way) : Type 0 where
  pub positions : Finishes (drop first old.path) old.positions new.positions
  pub path : new.path ≡ take first old.path
  pub ahead : new.ahead ≡ old.ahead
  pub parts : new.parts ≡ old.parts
  pub many : 1 < length (drop first old.path) → MarksThose (drop first old.path) old.marks new.marks
  pub few : length (drop first old.path) ≤ 1 → new.marks ≡ old.marks

-- how many turns the numbers that weren't seen yet can cause
abbrev pub cost : List SearchPosition → List (List ℕ) → ℕ
cost [] rows = 0
cost (p ∷ positions) [] = 0
cost (position.New ∷ positions) (row ∷ rows) = cost positions rows + length row + 2
cost (position.On i ∷ positions) (row ∷ rows) = cost positions rows
cost (position.Done ∷ positions) (row ∷ rows) = cost positions rows

-- how many iterations are left at most
abbrev pub iterations : List (List ℕ) → Way → ℕ
iterations rows w = cost w.positions rows + length w.ahead + length w.parts

-- the search has gone on
pub record GoesOn (rows : List (List ℕ)) (old new : Way) : Type 0 where
  pub way : IsWay rows new
  pub fresh : (n : ℕ) → At new.positions n position.New → At old.positions n position.New
  pub fewer : iterations rows new < iterations rows old

-- there is no way yet, and each number below i is done
pub record IsThrough (rows : List (List ℕ)) (w : Way) (i : ℕ) : Type 0 where
  pub way : IsWay rows w
  pub parts : w.parts ≡ []
  pub done : (n : ℕ) → n < i → At w.positions n position.Done

-- before the target was taken from those ahead
abbrev pub before_step : Way → ℕ → Way
before_step w t = record {
  positions = w.positions;
  path = w.path;
  ahead = w.ahead ++ t ∷ [];
  parts = w.parts;
  marks = w.marks;
}

-- that part is the last one
pub record IsLast (parts : List Part) (s : Part) : Type 0 where
  pub others : List Part
  pub is : parts ≡ others ++ s ∷ []

-- as many targets are ahead as the parts ask for, at least
pub record AreShort (w : Way) : Type 0 where
  pub short : (k : ℕ) (s : Part) → At w.parts k s → s.rest ≤ length w.ahead

-- the search has come to the end of its way
pub record ComesToEnd (rows : List (List ℕ)) (old new : Way) : Type 0 where
  pub way : IsWay rows new
  pub parts : new.parts ≡ []
  pub fresh : (n : ℕ) → At new.positions n position.New → At old.positions n position.New

-- a rank, 0 where there is none
abbrev pub rank_at : List ℕ → ℕ → ℕ
rank_at ranks n = slice_index_or ranks n 0

-- ranks, and how many parts are done
pub record Tally : Type 0 where
  pub ranks : List ℕ
  pub parts : ℕ

-- the tally that the search of the code holds
abbrev pub tally_of : declared.Search → Tally
tally_of search = record { ranks = search.ranks.items; parts = search.done }

-- each of these has that value now, and of the others nothing changed
pub record SetsAll (these : List ℕ) (v : ℕ) (ranks ranks' : List ℕ) : Type 0 where
  pub count : length ranks' ≡ length ranks
  pub all : (n : ℕ) → Contains these n → rank_at ranks' n ≡ v
  pub other : (n : ℕ) → (Contains these n → ⊥) → rank_at ranks' n ≡ rank_at ranks n

-- how many numbers aren't done
abbrev pub undone : List SearchPosition → ℕ
undone [] = 0
undone (position.New ∷ positions) = undone positions + 1
undone (position.On i ∷ positions) = undone positions + 1
undone (position.Done ∷ positions) = undone positions

-- each step from a number that is done and not marked lowers the rank
pub record IsRanked (rows : List (List ℕ)) (w : Way) (t : Tally) : Type 0 where
  pub count : length t.ranks ≡ length rows
  pub bound : t.parts + undone w.positions ≤ length rows
  pub low : (n : ℕ) → At w.positions n position.Done → rank_at t.ranks n < t.parts
  pub falls : (n m : ℕ) → At w.positions n position.Done → Step rows n m →
      IsMarked w.marks n ⊎ (rank_at t.ranks m < rank_at t.ranks n)

-- the same numbers are done, and what was marked is
pub record KeepsDone (old new : Way) : Type 0 where
  pub back : (n : ℕ) → At new.positions n position.Done → At old.positions n position.Done
  pub there : (n : ℕ) → At old.positions n position.Done → At new.positions n position.Done
  pub marks : (n : ℕ) → IsMarked old.marks n → IsMarked new.marks n

-- each of these is of the rank that parts have which are done now
pub record Ranks (these : List ℕ) (old new : Tally) : Type 0 where
  pub ranks : SetsAll these old.parts old.ranks new.ranks
  pub parts : new.parts ≡ old.parts + 1
