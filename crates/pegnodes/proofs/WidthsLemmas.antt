-- Widths, one after the other.
-- Serves: check_peg
use Rattle.std.proofs.Common.{◌≡◌, ℕ, ◌+◌, ◌<◌, List, [], ◌∷◌, ◌++◌, length, take, get_or, set, Option, Some, None, sym}
use Rattle.std.proofs.Common.{subst, arith, ⊎_elim, ◌∙◌, add-one}
use Rattle.std.specs.Prelude.{IfSome}
use Rattle.std.proofs.lemmas.Bool.{cases_eq}
use Rattle.std.proofs.lemmas.List.{get_or-set_same, get_or-set_other}
use Rattle.std.proofs.Math.Seq.{take-suc}
use Rattle.pegnodes.specs.Nodes.{Shape}
use Rattle.pegnodes.specs.Width.{Width, WidthSum, sum_none, sum_more, WidthEach, each_none, each_more, AreWidths}

module _ (nodes : List Shape) (bodies : List ℕ) where
  sum_push : {ms : List ℕ} {w : ℕ} (k v : ℕ) → WidthSum nodes bodies ms w → Width nodes bodies k v
      → WidthSum nodes bodies (ms ++ k ∷ []) (w + v)
  sum_push k v sum_none g =
      let is : v + 0 ≡ 0 + v = omega arith in subst (WidthSum nodes bodies (k ∷ [])) is (sum_more g sum_none)
  sum_push k v (sum_more {k = j} {v = a} {w = b} {ms = ms} t ts) g =
      let is : a + (b + v) ≡ a + b + v = omega arith in
      subst (WidthSum nodes bodies (j ∷ (ms ++ k ∷ []))) is (sum_more t (sum_push k v ts g))

  each_push : {ms : List ℕ} {w : ℕ} (k : ℕ) → WidthEach nodes bodies ms w → Width nodes bodies k w
      → WidthEach nodes bodies (ms ++ k ∷ []) w
  each_push k each_none g = each_more g each_none
  each_push k (each_more t ts) g = each_more t (each_push k ts g)

  pub sum_next : (ms : List ℕ) (i w v : ℕ) → i < length ms → WidthSum nodes bodies (take i ms) w
      → Width nodes bodies (get_or ms i 0) v → WidthSum nodes bodies (take (i + 1) ms) (w + v)
  sum_next ms i w v lt h g = rw (add-one i, take-suc ms i 0) (sum_push (get_or ms i 0) v h g)

  pub each_next : (ms : List ℕ) (i w : ℕ) → i < length ms → WidthEach nodes bodies (take i ms) w
      → Width nodes bodies (get_or ms i 0) w → WidthEach nodes bodies (take (i + 1) ms) w
  each_next ms i w lt h g = rw (add-one i, take-suc ms i 0) (each_push (get_or ms i 0) h g)

  pub width_set : (widths : List (Option ℕ)) (n : ℕ) (width : Option ℕ) → n < length widths
      → AreWidths nodes bodies widths → ((w : ℕ) → width ≡ Some w → Width nodes bodies n w)
      → AreWidths nodes bodies (set widths n width)
  width_set widths n width lt h g m w is = ⊎_elim
      (λ same.
      let now : get_or (set widths n width) n None ≡ Some w =
      subst (λ v. get_or (set widths n width) v None ≡ Some w) same is in
      subst (λ v. Width nodes bodies v w) (sym same) (g w (sym (get_or-set_same widths n width None lt) ∙ now)))
      (λ other. h m w (sym (get_or-set_other widths n m width None other) ∙ is))
      (cases_eq m n)

  -- what is known of a node's width is right
  pub width_known : (widths : List (Option ℕ)) (m : ℕ) (r : Option ℕ) → r ≡ get_or widths m None
      → AreWidths nodes bodies widths → IfSome r (Width nodes bodies m)
  width_known widths m None is h = tt
  width_known widths m (Some w) is h = h m w (sym is)
