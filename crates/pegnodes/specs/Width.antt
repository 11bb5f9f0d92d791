-- How many bytes a node takes wherever it succeeds, where that is fixed.
use Rattle.std.specs.Prelude.{◌≡◌, ℕ, ◌+◌, Bool, List, [], ◌∷◌, length, slice_get, get_or, Option, Some, None}
use Rattle.pegnodes.specs.Nodes.{Shape, Any, Bytes, Set, Name, Seq, Choice, Opt, And, Not, Act, Open, Close}

module _ (nodes : List Shape) (bodies : List ℕ) where
  mutual
    -- node n takes w bytes wherever it succeeds
    pub data Width : ℕ → ℕ → Type 0 where
      width_any : {n : ℕ} → slice_get nodes n ≡ Some Any → Width n 1
      width_set : {n : ℕ} {s : ℕ → Bool} → slice_get nodes n ≡ Some (Set s) → Width n 1
      width_bytes : {n : ℕ} {bs : List ℕ} → slice_get nodes n ≡ Some (Bytes bs) → Width n (length bs)
      width_act : {n : ℕ} {t : List ℕ} → slice_get nodes n ≡ Some (Act t) → Width n 0
      width_open : {n : ℕ} → slice_get nodes n ≡ Some Open → Width n 0
      width_close : {n : ℕ} → slice_get nodes n ≡ Some Close → Width n 0
      width_and : {n m : ℕ} → slice_get nodes n ≡ Some (And m) → Width n 0
      width_not : {n m : ℕ} → slice_get nodes n ≡ Some (Not m) → Width n 0
      width_opt : {n m : ℕ} → slice_get nodes n ≡ Some (Opt m) → Width m 0 → Width n 0
      width_name : {n id m w : ℕ} → slice_get nodes n ≡ Some (Name id) → slice_get bodies id ≡ Some m → Width m w
          → Width n w
      width_seq : {n w : ℕ} {ms : List ℕ} → slice_get nodes n ≡ Some (Seq ms) → WidthSum ms w → Width n w
      width_choice : {n w : ℕ} {ms : List ℕ} → slice_get nodes n ≡ Some (Choice ms) → WidthEach ms w → Width n w

    -- the members together take w bytes
    pub data WidthSum : List ℕ → ℕ → Type 0 where
      sum_none : WidthSum [] 0
      sum_more : {k v w : ℕ} {ms : List ℕ} → Width k v → WidthSum ms w → WidthSum (k ∷ ms) (v + w)

    -- each alternative takes w bytes
    pub data WidthEach : List ℕ → ℕ → Type 0 where
      each_none : {w : ℕ} → WidthEach [] w
      each_more : {k w : ℕ} {ms : List ℕ} → Width k w → WidthEach ms w → WidthEach (k ∷ ms) w

  -- all these widths are right
  abbrev pub AreWidths : List (Option ℕ) → Type 0
  AreWidths widths = (n w : ℕ) → get_or widths n None ≡ Some w → Width n w
