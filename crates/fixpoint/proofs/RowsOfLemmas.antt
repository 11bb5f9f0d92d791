-- Rows and needs of the code, read as lists.
-- Serves: least, derive, reached, on_cycle
use Rattle.std.proofs.Common.{◌≡◌, ℕ, zero, suc, ◌<◌, List, [], ◌∷◌, length, get_or, Contains, Some, refl, sym, ap}
use Rattle.std.proofs.Common.{arith, Vec, Global}
use Rattle.std.specs.Prelude.{slice_get}
use Rattle.std.specs.Borrow.{Bor}
use Rattle.std.proofs.lemmas.List.{length-map}
use Rattle.std.proofs.lemmas.List.Elements.{Contains-get_or}
use Rattle.fixpoint.specs.declared.needs.Need.{Need}
use Rattle.fixpoint.specs.declared.needs.Need.TheVariants as code
use Rattle.fixpoint.specs.Demands.{demand_of, demands_of}
use Rattle.fixpoint.specs.StepRows.{slices_of, rows_of, row_at}

pub row_items : (rows : List (Vec ℕ Global)) (n : ℕ) (v : Vec ℕ Global) → n < length rows → v ≡ get_or rows n v →
    row_at (rows_of rows) n ≡ v.items
row_items [] n v lt is = absurd (omega arith)
row_items (row ∷ rows) zero v lt is = ap (λ w. w.items) (sym is)
row_items (row ∷ rows) (suc n) v lt is = let less : n < length rows = omega arith in row_items rows n v less is

pub length-rows : (rows : List (Vec ℕ Global)) → length (rows_of rows) ≡ length rows
length-rows rows = length-map rows (λ row. row.items)

-- the slice past the end of a table of the code
abbrev pub no_slice : Bor (List ℕ)
no_slice = record { ref_ptr = (0, 0); now = [] }

pub slice_now : (rows : List (Bor (List ℕ))) (n : ℕ) → n < length rows →
    row_at (slices_of rows) n ≡ (get_or rows n no_slice).now
slice_now [] n lt = absurd (omega arith)
slice_now (row ∷ rows) zero lt = refl
slice_now (row ∷ rows) (suc n) lt = let less : n < length rows = omega arith in slice_now rows n less

pub length-slices : (rows : List (Bor (List ℕ))) → length (slices_of rows) ≡ length rows
length-slices rows = length-map rows (λ row. row.now)

-- the need past the end of a list of the code
abbrev pub no_need : Need
no_need = code.All no_slice

pub demand_at : (needs : List Need) (n : ℕ) → n < length needs →
    slice_get (demands_of needs) n ≡ Some (demand_of (get_or needs n no_need))
demand_at [] n lt = absurd (omega arith)
demand_at (need ∷ needs) zero lt = refl
demand_at (need ∷ needs) (suc n) lt = let less : n < length needs = omega arith in demand_at needs n less

pub length-demands : (needs : List Need) → length (demands_of needs) ≡ length needs
length-demands needs = length-map needs demand_of

pub within_at : (row : List ℕ) (n i : ℕ) → ((m : ℕ) → Contains row m → m < n) → i < length row → get_or row i 0 < n
within_at row n i h lt = h (get_or row i 0) (Contains-get_or row i 0 lt)
