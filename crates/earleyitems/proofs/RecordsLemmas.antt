-- The records of predictions, and the lists that they stand for.
-- Serves: judge.
use Rattle.std.proofs.Common.{◌≡◌, ℕ, zero, suc, ◌+◌, ◌-◌, ◌<◌, ◌≤◌, List, [], ◌∷◌, ◌++◌, length, map}
use Rattle.std.proofs.Common.{take, drop, set, Some, refl, sym, ◌∙◌, ap, subst, arith, slice_get, slice_index_or}
use Rattle.std.proofs.Common.{append_assoc, length-append}
use borrow.Rule.Slice.PartMut.{put_mid}
use Rattle.std.proofs.lemmas.List.{length-map, map-set, take-append-drop}
use Rattle.std.proofs.Math.Seq.{map-set_same}
use Rattle.flatgrammar.proofs.CallOfLemmas.{get_map, get_unmap}
use Rattle.earleyitems.specs.declared.sets.IndexRange.{IndexRange}
use Rattle.earleyitems.specs.declared.sets.Record.{Record}
use Rattle.earleyitems.specs.declared.sets.SetBounds.{SetBounds}
use Rattle.earleyitems.specs.declared.sets.Stores.{Stores}
use Rattle.earleyitems.specs.EarleySets.{EarleySet, part_of, set_in, sets_in, the_record, predictions_of, firsts_of}
use Rattle.earleyitems.specs.EarleySets.{last_waiters}
use Rattle.earleyitems.specs.EarleySets.{AreBounds, AreStored, AreSamePredictions, GoesOn, GoOn}
use Rattle.earleyitems.proofs.AreBucketsLemmas.{or_get, get_index}
use Rattle.earleyitems.proofs.ExpandLemmas.{take_past, take_one, map_end}
use Rattle.earleyitems.proofs.SetsLemmas.{all_bounds_push, part_appended, after_new, rest_long, go_longer}

-- entries of lists
pub set_get : {A : Type 0} (xs ys : List A) (k : ℕ) (a : A) → k < length xs → slice_get (xs ++ ys) k ≡ Some a
    → slice_get xs k ≡ Some a
set_get [] ys k a lt h = absurd (omega (arith, lt))
set_get (x ∷ xs) ys zero a lt h = h
set_get (x ∷ xs) ys (suc k) a lt h = set_get xs ys k a (let less : k < length xs = omega (arith, lt) in less) h

-- predictions of records by index
pub predictions_long : (rs : List Record) → length (predictions_of rs) ≡ length rs
predictions_long rs = length-map rs (λ r. r.prediction)

pub prediction_at : (rs : List Record) (k : ℕ) (d : Record) (e : ℕ) → k < length rs
    → (slice_index_or rs k d).prediction ≡ slice_index_or (predictions_of rs) k e
prediction_at rs k d e lt = sym (or_get (predictions_of rs) k e (slice_index_or rs k d).prediction
    (get_map (λ r. r.prediction) rs k (get_index rs k d lt)))

pub first_at : (rs : List Record) (k : ℕ) (d : Record) (e : ℕ) → k < length rs
    → (slice_index_or rs k d).first ≡ slice_index_or (firsts_of rs) k e
first_at rs k d e lt = sym (or_get (firsts_of rs) k e (slice_index_or rs k d).first
    (get_map (λ r. r.first) rs k (get_index rs k d lt)))

pub below_predictions : (rs : List Record) (k : ℕ) → k < length rs → k < length (predictions_of rs)
below_predictions rs k lt = let n = predictions_long rs in omega (arith, lt, n)

pub below_firsts : (rs : List Record) (k : ℕ) → k < length rs → k < length (firsts_of rs)
below_firsts rs k lt = let n = length-map rs (λ r. r.first) in omega (arith, lt, n)

pub predictions_past : (rs : List Record) (k : ℕ) → length rs ≤ k → take k (predictions_of rs) ≡ predictions_of rs
predictions_past rs k le = let n = predictions_long rs in take_past (predictions_of rs) k (omega (arith, le, n))

-- the records of predictions for which nothing waits
abbrev pub fresh : List ℕ → List Record
fresh predictions = map (λ prediction. the_record prediction 0) predictions

fresh_predictions : (predictions : List ℕ) → predictions_of (fresh predictions) ≡ predictions
fresh_predictions [] = refl
fresh_predictions (prediction ∷ predictions) = ap (λ v. prediction ∷ v) (fresh_predictions predictions)

pub fresh_zeros : (predictions : List ℕ) (h : ℕ) → slice_index_or (firsts_of (fresh predictions)) h 0 ≡ 0
fresh_zeros [] h = refl
fresh_zeros (prediction ∷ predictions) zero = refl
fresh_zeros (prediction ∷ predictions) (suc h) = fresh_zeros predictions h

-- the record of one prediction more
pub fresh_more : (old now more : List Record) (predictions : List ℕ) (k d : ℕ) → k < length predictions
    → now ≡ old ++ fresh (take k predictions) → more ≡ now ++ the_record (slice_index_or predictions k d) 0 ∷ [] →
    more ≡ old ++ fresh (take (k + 1) predictions)
fresh_more old now more predictions k d lt was is =
    let one = ap (λ v. fresh v) (take_one predictions k d lt)
    ∙ map_end (λ prediction. the_record prediction 0) (take k predictions) (slice_index_or predictions k d) in
    is ∙ (ap (λ v. v ++ the_record (slice_index_or predictions k d) 0 ∷ []) was
    ∙ (append_assoc old (fresh (take k predictions)) (the_record (slice_index_or predictions k d) 0 ∷ [])
    ∙ ap (λ v. old ++ v) (sym one)))

new_predictions : (predictions : List ℕ) (new : List Record) → AreSamePredictions (fresh predictions) new
    → predictions_of new ≡ predictions
new_predictions predictions new same = same ∙ fresh_predictions predictions

-- a record of which something else waits
pub first_set : (rs : List Record) (i : ℕ) (d : Record) (first : ℕ) → i < length rs →
    (AreSamePredictions rs (set rs i (the_record (slice_index_or rs i d).prediction first)))
    × (firsts_of (set rs i (the_record (slice_index_or rs i d).prediction first)) ≡ set (firsts_of rs) i first)
first_set rs i d first lt =
    let new = the_record (slice_index_or rs i d).prediction first in (
      map-set_same (λ r. r.prediction) rs i new d refl,
      map-set (λ r. r.first) rs i new,
    )

last_push : (count : ℕ) (bounds : List SetBounds) (b : SetBounds) → last_waiters count (bounds ++ b ∷ []) ≡ b.waiters
last_push count [] b = refl
last_push count (c ∷ bounds) b = last_push c.waiters bounds b

-- the waiting lists of a set stand among all
pub waits_go : (s : Stores) (bounds : List SetBounds) (k : ℕ) (f : EarleySet) → slice_get (sets_in s bounds) k ≡ Some f
    → GoesOn f.waiters s.waiters.items
waits_go s bounds k f is =
    let u = get_unmap (set_in s) bounds k f is in
    subst (λ v. GoesOn v s.waiters.items) (ap (λ v. v.waiters) u.is)
    (drop u.from.waiters s.waiters.items, sym (take-append-drop u.from.waiters s.waiters.items))

-- the lists of a further set
pub added_stored : (old new : Stores) (bounds all : List SetBounds) (b : SetBounds) → all ≡ bounds ++ b ∷ []
    → GoOn old new
    → AreStored old bounds → AreBounds new b → b.waiters ≡ length new.waiters.items → AreStored new all
added_stored old new bounds all b is go are here ends = subst (λ v. AreStored new v) (sym is) (record {
  within = all_bounds_push old new bounds b go are.within here;
  ends = last_push 0 bounds b ∙ ends;
})

-- what comes after the first entries
pub after_is : {A : Type 0} (old xs more : List A) (from : ℕ) → xs ≡ old ++ more → from ≡ length old
    → take (length xs - from) (drop from xs) ≡ more
after_is old xs more from is same =
    (part_appended old xs more (record { from = from; to = length xs }) is same refl).is

-- the records of a set, written after those of the others
pub record AreAfter (predictions : List ℕ) (old new here : List Record) (part : IndexRange) : Type 0 where
  pub goes : GoesOn old new
  pub part_is : part_of new part ≡ here
  pub predictions_are : predictions_of (part_of new part) ≡ predictions

pub are_after : (predictions : List ℕ) (old xs here rest : List Record) (from n to : ℕ)
    → xs ≡ old ++ fresh predictions → from ≡ length old →
    length here ≡ length (take (length xs - from) (drop from xs)) →
    AreSamePredictions (take (length xs - from) (drop from xs)) here → n ≡ length xs → to ≡ n →
    AreAfter predictions old (take n (put_mid from (length xs - from) xs here ++ rest)) here
    (record { from = from; to = to })
are_after predictions old xs here rest from n to are same long same_predictions size end =
    let new = take n (put_mid from (length xs - from) xs here ++ rest) in
    let is : new ≡ old ++ here = after_new old xs here rest from n (fresh predictions, are) same long size in
    let sum = ap (λ v. length v) is ∙ length-append old here in
    let wide = rest_long xs from in
    let longer = go_longer old xs (fresh predictions, are) in
    let part : IndexRange = record { from = from; to = to } in
    let full : to ≡ length new = omega (arith, sum, wide, longer, long, same, size, end) in
    let put = part_appended old new here part is same full in
    let slice = after_is old xs (fresh predictions) from are same in
    let fresh_same : AreSamePredictions (fresh predictions) here = subst
    (λ v. AreSamePredictions v here) slice same_predictions in
    record {
      goes = (here, is);
      part_is = put.is;
      predictions_are = ap (λ v. predictions_of v) put.is ∙ new_predictions predictions here fresh_same;
    }
