-- Cells as contracts see them: a list of entries, one for each evaluation of a node and a position that has a cell.
use Rattle.std.specs.Prelude.{◌≡◌, ℕ, ◌&&◌, ◌==◌, if◌then◌else◌, List, [], ◌∷◌, Option, Some, None}
use Rattle.memo.specs.declared.found.Found.{Found}

pub record Entry : Type 0 where
  pub node : ℕ
  pub position : ℕ
  pub found : Found

-- what the cell of the node and the position holds
abbrev pub found_at : List Entry → ℕ → ℕ → Option Found
found_at [] n p = None
found_at (c ∷ cells) n p = if (c.node == n) && (c.position == p) then Some c.found else found_at cells n p

-- no two cells are of one node and position
abbrev pub AreDifferent : List Entry → Type 0
AreDifferent [] = Unit {0}
AreDifferent (c ∷ cells) = (found_at cells c.node c.position ≡ None) × AreDifferent cells
