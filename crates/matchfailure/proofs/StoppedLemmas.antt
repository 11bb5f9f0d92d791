-- A comparison fails at one byte.
-- Serves: note_stop
use Rattle.std.proofs.Common.{◌≡◌, ◌⊎◌, inl, inr, ℕ, ◌<◌, List, Some, sym, ◌∙◌, subst, arith}
use Rattle.std.specs.Prelude.{slice_get}
use Rattle.std.proofs.lemmas.Bool.{cases_order}
use Rattle.pegnodes.specs.declared.node.Node.{Node}
use Rattle.pegnodes.specs.Nodes as node
use Rattle.pegnodes.specs.Nodes.{Shape, shape_of, shapes_of}
use Rattle.pegmatch.proofs.NodeShapeLemmas.{shape_at}
use Rattle.matchfailure.specs.Farthest.{PartsAt, StopsBy, LeafStops}

parts_once : (x : List ℕ) (p : ℕ) (bs : List ℕ) (k j : ℕ) → PartsAt x p bs k → PartsAt x p bs j → k ≡ j
parts_once x p bs k j a b = by (cases_order k j)
  where
    by : (k ≡ j) ⊎ ((k < j) ⊎ (j < k)) → k ≡ j
    by (inl same) = same
    by (inr (inl low)) = absurd (a.differ (b.agree k low))
    by (inr (inr high)) = absurd (b.differ (a.agree j high))

-- a comparison fails at one byte
stops_by_once : (x : List ℕ) (shape : Shape) (p f h : ℕ) → StopsBy x shape p f → StopsBy x shape p h → f ≡ h
stops_by_once x node.Any p f h a b = a.1 ∙ sym b.1
stops_by_once x (node.Bytes bs) p f h a b = let same = parts_once x p bs a.0 b.0 a.1 b.1 in
    omega (arith, same, a.2, b.2)
stops_by_once x (node.Set s) p f h a b = a.1 ∙ sym b.1
stops_by_once x (node.Name id) p f h a b = absurd a
stops_by_once x (node.Seq ms) p f h a b = absurd a
stops_by_once x (node.Choice ms) p f h a b = absurd a
stops_by_once x (node.Star k) p f h a b = absurd a
stops_by_once x (node.Plus k s) p f h a b = absurd a
stops_by_once x (node.Opt k) p f h a b = absurd a
stops_by_once x (node.And k) p f h a b = absurd a
stops_by_once x (node.Not k) p f h a b = absurd a
stops_by_once x (node.Act t) p f h a b = absurd a
stops_by_once x node.Open p f h a b = absurd a
stops_by_once x node.Close p f h a b = absurd a

pub stops_once : {nodes : List Shape} {x : List ℕ} {n p f h : ℕ} → LeafStops nodes x n p f → LeafStops nodes x n p h
    → f ≡ h
stops_once {x = x} {p = p} {f = f} {h = h} a b =
    let same : b.shape ≡ a.shape = cc (b.at, a.at) in
    stops_by_once x a.shape p f h a.by (subst (λ v. StopsBy x v p h) same b.by)

-- what was found for a node's own comparison
module _ (nodes : List Node) (x : List ℕ) (n p : ℕ) (code : Node) (at : slice_get nodes n ≡ Some code) where
  pub found_stops : {f : ℕ} → StopsBy x (shape_of code) p f → LeafStops (shapes_of nodes) x n p f
  found_stops by = record { shape = shape_of code; at = shape_at nodes n code at; by = by }

  pub none_stops : ((f : ℕ) → StopsBy x (shape_of code) p f → ⊥) → (f : ℕ) → LeafStops (shapes_of nodes) x n p f → ⊥
  none_stops none f s =
      let same : s.shape ≡ shape_of code = cc (s.at, shape_at nodes n code at) in
      none f (subst (λ v. StopsBy x v p f) same s.by)
