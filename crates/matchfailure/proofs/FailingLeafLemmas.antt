-- A leaf's comparison fails exactly where the leaf does.
-- Serves: stops_fail, failing_leaf_stops
use Rattle.std.proofs.Common.{◌≡◌, ℕ, zero, suc, ◌+◌, ◌<◌, Bool, true, false, ◌&&◌, ◌==◌, List, [], ◌∷◌}
use Rattle.std.proofs.Common.{length, drop, Option, Some, None, refl, sym, ◌∙◌, ap, subst, arith}
use Rattle.std.specs.Prelude.{slice_get}
use Rattle.std.proofs.lemmas.Bool.{eqb-true, eqb-false}
use Rattle.pegread.specs.Pattern as expr
use Rattle.pegread.specs.Pattern.{Pattern, Rule}
use Rattle.pegnodes.specs.Nodes as node
use Rattle.pegnodes.specs.Nodes.{Shape, Spells}
use Rattle.gramcheck.specs.Outcome.{Fails, begins_with, Gives, any_at_end, set_fails, set_at_end}
use Rattle.gramcheck.specs.Outcome.{bytes_fail}
use Rattle.pegnodes.specs.NodeWays.{way_of, Leaf}
use Rattle.pegnodes.proofs.HasShapeLemmas.{has_shape}
use Rattle.matchfailure.specs.Farthest.{PartsAt, StopsBy, LeafStops, IsLeafNode}

-- what follows the first p bytes
pub get_drop : (x : List ℕ) (p i : ℕ) → slice_get (drop p x) i ≡ slice_get x (p + i)
get_drop x zero i = let e : 0 + i ≡ i = omega arith in sym (ap (λ v. slice_get x v) e)
get_drop [] (suc p) i = refl
get_drop (c ∷ x) (suc p) i =
    let e : suc p + i ≡ suc (p + i) = omega arith in
    get_drop x p i ∙ sym (ap (λ v. slice_get (c ∷ x) v) e)

-- a text that has the first k bytes of a literal and not the next does not begin with it
parts_begin : (t bs : List ℕ) (k : ℕ) → k < length bs → ((i : ℕ) → i < k → slice_get t i ≡ slice_get bs i)
    → (slice_get t k ≡ slice_get bs k → ⊥) → begins_with t bs ≡ false
parts_begin t [] k lt agree differ = absurd (omega arith)
parts_begin [] (b ∷ bs) k lt agree differ = refl
parts_begin (c ∷ t) (b ∷ bs) zero lt agree differ = by (c == b) refl
  where
    by : (v : Bool) → (c == b) ≡ v → (v && begins_with t bs) ≡ false
    by true is = absurd (differ (ap Some (eqb-true c b is)))
    by false is = refl
parts_begin (c ∷ t) (b ∷ bs) (suc k) lt agree differ = by (c == b)
    (parts_begin t bs k (omega arith) (λ i less. agree (suc i) (omega arith)) differ)
  where
    by : (v : Bool) → begins_with t bs ≡ false → (v && begins_with t bs) ≡ false
    by true is = is
    by false is = refl

record Parted (t bs : List ℕ) : Type 0 where
  pub count : ℕ
  pub inside : count < length bs
  pub agree : (i : ℕ) → i < count → slice_get t i ≡ slice_get bs i
  pub differ : slice_get t count ≡ slice_get bs count → ⊥

-- a text that does not begin with a literal has some of its first bytes, and not the next
parted_text : (t bs : List ℕ) → begins_with t bs ≡ false → Parted t bs
parted_text t [] h = absurd (cc h)
parted_text [] (b ∷ bs) h = record {
  count = 0;
  inside = omega arith;
  agree = λ i lt. absurd (omega arith);
  differ = λ is. cc is;
}
parted_text (c ∷ t) (b ∷ bs) h = by (c == b) refl h (λ g. parted_text t bs g)
  where
    agree_on : (q : Parted t bs) → c ≡ b → (i : ℕ) → i < suc q.count → slice_get (c ∷ t) i ≡ slice_get (b ∷ bs) i
    agree_on q same zero lt = ap Some same
    agree_on q same (suc i) lt = q.agree i (omega arith)

    by : (v : Bool) → (c == b) ≡ v → (v && begins_with t bs) ≡ false → (begins_with t bs ≡ false → Parted t bs)
        → Parted (c ∷ t) (b ∷ bs)
    by true is g later = let q = later g in record {
      count = suc q.count;
      inside = omega (arith, q.inside);
      agree = agree_on q (eqb-true c b is);
      differ = q.differ;
    }
    by false is g later = record {
      count = 0;
      inside = omega arith;
      agree = λ i lt. absurd (omega arith);
      differ = λ same. eqb-false c b is (cc same);
    }

module _ (rules : List Rule) (nodes : List Shape) (x : List ℕ) (n p : ℕ) (e : Pattern)
    (s : Spells rules nodes n e) where
  as_shape : {k : ℕ} {d : Pattern} → e ≡ d → Gives rules x d p Fails k → (k : ℕ) × Gives rules x e p Fails k
  as_shape {k = k} is g = (k, subst (λ v. Gives rules x v p Fails k) (sym is) g)

  at_set : (members : ℕ → Bool) → ((b : ℕ) → slice_get x p ≡ Some b → members b ≡ false)
      → (k : ℕ) × Gives rules x (expr.Set members) p Fails k
  at_set members h = by (slice_get x p) refl
    where
      by : (o : Option ℕ) → slice_get x p ≡ o → (k : ℕ) × Gives rules x (expr.Set members) p Fails k
      by None is = (0, set_at_end is)
      by (Some b) is = (p + 1, set_fails is (h b is))

  fails_by : (shape : Shape) → slice_get nodes n ≡ Some shape → (f : ℕ) → StopsBy x shape p f
      → (k : ℕ) × Gives rules x e p Fails k
  fails_by node.Any at f h = as_shape (has_shape rules nodes s node.Any at) (any_at_end h.0)
  fails_by (node.Bytes bs) at f h = as_shape (has_shape rules nodes s (node.Bytes bs) at)
      (bytes_fail (parts_begin (drop p x) bs h.0 h.1.inside
      (λ i lt. get_drop x p i ∙ h.1.agree i lt) (λ is. h.1.differ (sym (get_drop x p h.0) ∙ is))))
  fails_by (node.Set members) at f h = let g = at_set members h.0 in
      as_shape (has_shape rules nodes s (node.Set members) at) g.1
  fails_by (node.Name id) at f h = absurd h
  fails_by (node.Seq ms) at f h = absurd h
  fails_by (node.Choice ms) at f h = absurd h
  fails_by (node.Star k) at f h = absurd h
  fails_by (node.Plus k j) at f h = absurd h
  fails_by (node.Opt k) at f h = absurd h
  fails_by (node.And k) at f h = absurd h
  fails_by (node.Not k) at f h = absurd h
  fails_by (node.Act t) at f h = absurd h
  fails_by node.Open at f h = absurd h
  fails_by node.Close at f h = absurd h

  pub stop_fails : (f : ℕ) → LeafStops nodes x n p f → (k : ℕ) × Gives rules x e p Fails k
  stop_fails f h = fails_by h.shape h.at f h.by

  any_stops : {k : ℕ} → Gives rules x expr.Any p Fails k → slice_get x p ≡ None
  any_stops (any_at_end h) = h

  set_stops : {members : ℕ → Bool} {k : ℕ} → Gives rules x (expr.Set members) p Fails k → (b : ℕ)
      → slice_get x p ≡ Some b → members b ≡ false
  set_stops {members = members} (set_fails {b = c} h g) b is = let same : c ≡ b = cc (h, is) in
      subst (λ v. members v ≡ false) same g
  set_stops (set_at_end h) b is = absurd (cc (h, is))

  bytes_stop : {bs : List ℕ} {k : ℕ} → Gives rules x (expr.Bytes bs) p Fails k → (k : ℕ) × PartsAt x p bs k
  bytes_stop {bs = bs} (bytes_fail h) = let q = parted_text (drop p x) bs h in (
    q.count,
    record {
      inside = q.inside;
      agree = λ i lt. sym (get_drop x p i) ∙ q.agree i lt;
      differ = λ is. q.differ (get_drop x p q.count ∙ is);
    },
  )

  no_act : {t : List ℕ} {k : ℕ} → Gives rules x (expr.Act t) p Fails k → ⊥
  no_act g = elim g [ ]

  no_open : {k : ℕ} → Gives rules x expr.Open p Fails k → ⊥
  no_open g = elim g [ ]

  no_close : {k : ℕ} → Gives rules x expr.Close p Fails k → ⊥
  no_close g = elim g [ ]

  stops_by : (shape : Shape) → slice_get nodes n ≡ Some shape → way_of n shape ≡ Leaf → (k : ℕ)
      → Gives rules x e p Fails k → (f : ℕ) × StopsBy x shape p f
  stops_by node.Any at way k g =
      (p, (any_stops (subst (λ v. Gives rules x v p Fails k) (has_shape rules nodes s node.Any at) g), refl))
  stops_by (node.Bytes bs) at way k g =
      let parts = bytes_stop (subst (λ v. Gives rules x v p Fails k) (has_shape rules nodes s (node.Bytes bs) at) g) in
      (p + parts.0, (parts.0, parts.1, refl))
  stops_by (node.Set members) at way k g =
      (p, (set_stops (subst (λ v. Gives rules x v p Fails k) (has_shape rules nodes s (node.Set members) at) g), refl))
  stops_by (node.Name id) at way k g = absurd (cc way)
  stops_by (node.Seq ms) at way k g = absurd (cc way)
  stops_by (node.Choice ms) at way k g = absurd (cc way)
  stops_by (node.Star j) at way k g = absurd (cc way)
  stops_by (node.Plus j i) at way k g = absurd (cc way)
  stops_by (node.Opt j) at way k g = absurd (cc way)
  stops_by (node.And j) at way k g = absurd (cc way)
  stops_by (node.Not j) at way k g = absurd (cc way)
  stops_by (node.Act t) at way k g =
      absurd (no_act (subst (λ v. Gives rules x v p Fails k) (has_shape rules nodes s (node.Act t) at) g))
  stops_by node.Open at way k g =
      absurd (no_open (subst (λ v. Gives rules x v p Fails k) (has_shape rules nodes s node.Open at) g))
  stops_by node.Close at way k g =
      absurd (no_close (subst (λ v. Gives rules x v p Fails k) (has_shape rules nodes s node.Close at) g))

  pub failure_stops : (k : ℕ) → IsLeafNode nodes n → Gives rules x e p Fails k → (f : ℕ) × LeafStops nodes x n p f
  failure_stops k leaf g = let by = stops_by leaf.0 leaf.1 leaf.2 k g in
      (by.0, record { shape = leaf.0; at = leaf.1; by = by.1 })
