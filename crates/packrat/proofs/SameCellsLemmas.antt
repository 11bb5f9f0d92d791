-- Lists of cells that are exactly those of the visited evaluations are equally long.
-- Serves: implied_cells, steps_hold
use Rattle.std.proofs.Common.{◌≡◌, ℕ, ◌+◌, ◌≤◌, Bool, true, false, if◌then◌else◌}
use Rattle.std.proofs.Common.{List, [], ◌∷◌, length, Some, refl, sym, subst, arith}
use Rattle.pegread.specs.Pattern.{Rule}
use Rattle.pegnodes.specs.Nodes.{Shape}
use Rattle.gramcheck.specs.Sound.{IsRanked}
use Rattle.memo.specs.Entries.{Entry, found_at, AreDifferent}
use Rattle.memo.proofs.FoundAtLemmas.{is_of, is_own}
use Rattle.pegmatch.specs.CellOutcomes.{HasCell}
use Rattle.pegmatch.specs.Visits.{Visits}
use Rattle.pegmatch.proofs.CodeLemmas.{In, now, on, at_most, code, cell_codes, length_cell_codes, cell_of, cells_differ}
use Rattle.pegmatch.specs.VisitedCells.{AreVisitedCells}

-- an evaluation that has a cell is among the cells
code_among : (w : ℕ) (cells : List Entry) (n p : ℕ) → HasCell cells n p → In (code w n p) (cell_codes w cells)
code_among w [] n p h = absurd (cc h.1)
code_among w (c ∷ cells) n p h = by (is_of c n p) refl h.1 (code_among w cells n p)
  where
    by : (v : Bool) → is_of c n p ≡ v → (if v then Some c.found else found_at cells n p) ≡ Some h.0
        → (HasCell cells n p → In (code w n p) (cell_codes w cells))
        → In (code w n p) (code w c.node c.position ∷ cell_codes w cells)
    by true own is rest = let at = is_own c n p own in now (rw (at.0, at.1) refl)
    by false own is rest = on (rest (h.0, is))

-- cells whose evaluations have other cells are no more than those
pub no_more : (cs ds : List Entry) (k : ℕ) → AreDifferent cs → ((n p : ℕ) → HasCell cs n p → p ≤ k)
    → ((n p : ℕ) → HasCell cs n p → HasCell ds n p) → length cs ≤ length ds
no_more cs ds k different low there =
    let w = k + 1 in
    let most = at_most (cell_codes w cs) (cell_codes w ds)
    (cells_differ w cs (λ n p h. let l = low n p h in omega (arith, l)) different)
    (λ a i. let c = cell_of w cs i in subst (λ v. In v (cell_codes w ds)) (sym c.is)
    (code_among w ds c.node c.position (there c.node c.position c.has))) in
    let first = length_cell_codes w cs in
    let second = length_cell_codes w ds in
    omega (arith, most, first, second)

module _ (rules : List Rule) (start : ℕ) (nodes : List Shape) (bodies ranks x : List ℕ) (more : Bool)
    (sound : IsRanked rules start nodes bodies ranks) where
  cells_no_more : (k : ℕ) (cs ds : List Entry) → ((n p : ℕ) → Visits rules nodes bodies x start n p → p ≤ k)
      → AreVisitedCells rules start nodes bodies x more cs → AreVisitedCells rules start nodes bodies x more ds
      → length cs ≤ length ds
  cells_no_more k cs ds within a b = no_more cs ds k a.different (λ n p h. within n p (a.visited n p h.0 h.1))
      (λ n p h. b.whole n p (a.visited n p h.0 h.1))

  pub same_count : (k : ℕ) (cs ds : List Entry) → ((n p : ℕ) → Visits rules nodes bodies x start n p → p ≤ k)
      → AreVisitedCells rules start nodes bodies x more cs → AreVisitedCells rules start nodes bodies x more ds
      → length cs ≡ length ds
  same_count k cs ds within a b =
      let up = cells_no_more k cs ds within a b in
      let down = cells_no_more k ds cs within b a in
      omega (arith, up, down)
