-- Filling a set ends, and leaves a closed set.
-- Serves: judge.
use Rattle.std.proofs.Common.{◌≡◌, ℕ, ◌+◌, ◌*◌, ◌≤◌, List, [], ◌∷◌, length, map, refl, sym, ◌∙◌, ap, subst}
use Rattle.std.proofs.lemmas.List.{length-map}
use Rattle.flatgrammar.specs.Flat.{Flat, Dot, at}
use Rattle.flatgrammar.specs.Holds.{Holds}
use Rattle.flatgrammar.specs.Positions.{positions, In, now, on, AreDifferent}
use Rattle.flatgrammar.proofs.PositionsLemmas.{items_at_most}
use Rattle.flatgrammar.specs.declared.flat_item.Item.{Item}
use Rattle.earleyitems.specs.Closed.{Hold}
use Rattle.earleyitems.specs.ChartSets.{pair}

pub record From (p : Dot × ℕ) (set : List Item) : Type 0 where
  pub item : Item
  pub stands : In item set
  pub is : p ≡ pair item

pub in_map : (p : Dot × ℕ) (set : List Item) → In p (map pair set) → From p set
in_map p [] h = elim h [ ]
in_map p (a ∷ set) (now same) = record { item = a; stands = now refl; is = same }
in_map p (a ∷ set) (on h) = let f = in_map p set h in record { item = f.item; stands = on f.stands; is = f.is }

at_same : {n k m l : ℕ} → at n k ≡ at m l → (n ≡ m) × (k ≡ l)
at_same h = (cc, cc)

pair_same : (a b : Item) → pair a ≡ pair b → a ≡ b
pair_same a b h =
    let position : at a.node a.step ≡ at b.node b.step = ap (λ v. v.0) h in
    let parts = at_same position in
    ap (λ v. record { node = v; step = a.step; origin = a.origin }) parts.0 ∙
    (ap (λ v. record { node = b.node; step = v; origin = a.origin }) parts.1
    ∙ ap (λ v. record { node = b.node; step = b.step; origin = v }) (ap (λ v. v.1) h))

pub different_map : (set : List Item) → AreDifferent set → AreDifferent (map pair set)
different_map [] d = tt
different_map (a ∷ set) d = (
  (λ h. let f = in_map (pair a) set h in
      d.0 (subst (λ v. In v set) (sym (pair_same a f.item f.is)) f.stands)),
  different_map set d.1,
)

pub set_at_most : (flat : Flat) (x : List ℕ) (j : ℕ) (set : List Item) → AreDifferent set → Hold flat x j set
    → length set ≤ positions flat.nodes * (j + 1)
set_at_most flat x j set different hold =
    let most = items_at_most flat x j (map pair set) (different_map set different)
    (λ p i h. found p i (in_map (p, i) set h)) in
    rw length-map at most
  where
    found : (p : Dot) (i : ℕ) → From (p, i) set → Holds flat x j p i
    found p i f =
        let position : p ≡ at f.item.node f.item.step = ap (λ v. v.0) f.is in
        let origin : i ≡ f.item.origin = ap (λ v. v.1) f.is in
        subst (λ v. Holds flat x j v i) (sym position) (subst (λ v. Holds flat x j (at f.item.node f.item.step) v)
        (sym origin) (hold f.item f.stands))
