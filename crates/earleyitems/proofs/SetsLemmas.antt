-- Sets one after another in the same lists.
-- Serves: judge, Chart::items.
use Rattle.std.proofs.Common.{◌≡◌, ℕ, suc, ◌+◌, ◌-◌, ◌≤◌, List, [], ◌∷◌, ◌++◌, Some, length, take, drop}
use Rattle.std.proofs.Common.{◌⊎◌, inl, inr, slice_get, refl, sym, ◌∙◌, ap, subst, arith, length-append}
use Rattle.std.proofs.Common.{append_assoc}
use Rattle.std.specs.Prelude.{slice_range}
use Rattle.std.proofs.Math.Seq.{drop-append_seam, length-take-le}
use Rattle.std.proofs.lemmas.List.{drop-append-le, take-append-le, length-drop, take_all, map-append, append-nil}
use Rattle.flatgrammar.proofs.SliceGetLemmas.{push_cases}
use Rattle.earleyitems.specs.declared.sets.IndexRange.{IndexRange}
use Rattle.earleyitems.specs.declared.sets.SetBounds.{SetBounds}
use Rattle.earleyitems.specs.declared.sets.Stores.{Stores}
use Rattle.earleyitems.specs.EarleySets.{EarleySet, part_of, set_in, sets_in, IsPart, AreBounds, AreAllBounds, GoesOn}
use Rattle.earleyitems.specs.EarleySets.{GoOn, IsAppended}
use borrow.Rule.Slice.PartMut.{put_mid, post_of}
use Rattle.std.proofs.lemmas.Slice.{take-put_mid}

-- a part of a list that goes on
part_same : {A : Type 0} (old new : List A) (part : IndexRange) → GoesOn old new → IsPart part (length old)
    → part_of new part ≡ part_of old part
part_same old new part go is =
    let inside = is.inside in
    let ordered = is.ordered in
    let from : part.from ≤ length old = omega (arith, inside, ordered) in
    let rest = length-drop part.from old in
    let room : part.to - part.from ≤ length (drop part.from old) = omega (arith, inside, ordered, rest) in
    ap (λ v. slice_range v part.from part.to) go.1
    ∙ (ap (λ v. take (part.to - part.from) v) (drop-append-le part.from old go.0 from)
    ∙ take-append-le (part.to - part.from) (drop part.from old) go.0 room)

part_within : {A : Type 0} (old new : List A) (part : IndexRange) → GoesOn old new → IsPart part (length old)
    → IsPart part (length new)
part_within old new part go is =
    let inside = is.inside in
    let size = ap (λ v. length v) go.1 ∙ length-append old go.0 in
    record { ordered = is.ordered; inside = omega (arith, inside, size) }

-- the first entries of a list that goes on
set_part_same : {A : Type 0} (old new : List A) (count : ℕ) → GoesOn old new → count ≤ length old
    → take count new ≡ take count old
set_part_same old new count go le = ap (λ v. take count v) go.1 ∙ take-append-le count old go.0 le

pub go_longer : {A : Type 0} (old new : List A) → GoesOn old new → length old ≤ length new
go_longer old new go = let size = ap (λ v. length v) go.1 ∙ length-append old go.0 in omega (arith, size)

pub goes_farther : {A : Type 0} (old mid new : List A) → GoesOn old mid → GoesOn mid new → GoesOn old new
goes_farther old mid new p q = (p.0 ++ q.0, q.1 ∙ (ap (λ v. v ++ q.0) p.1 ∙ append_assoc old p.0 q.0))

-- what is written after the first entries
pub written_after : {A : Type 0} (xs ys rest : List A) (from n : ℕ) → from ≤ length xs → length ys ≡ length xs - from
    → n ≡ length xs →
    take n (put_mid from (length xs - from) xs ys ++ rest) ≡ take from xs ++ ys
written_after xs ys rest from n le size is =
    let count = length-append (take from xs) (ys ++ post_of from (length xs - from) xs) in
    let back = length-append ys (post_of from (length xs - from) xs) in
    let front : length (take from xs) ≡ from = length-take-le from xs le in
    let fit : n ≤ length (put_mid from (length xs - from) xs ys) =
    omega (arith, count, back, front, size, is, le) in
    let all : n ≡ from + length ys = omega (arith, size, is, le) in
    take-append-le n (put_mid from (length xs - from) xs ys) rest fit ∙ take-put_mid from (length xs - from) xs ys n all
    le

pub rest_long : {A : Type 0} (xs : List A) (from : ℕ) → length (take (length xs - from) (drop from xs))
    ≡ length xs - from
rest_long xs from =
    let after = length-drop from xs in
    ap (λ v. length v) (take_all (length xs - from) (drop from xs) (omega (arith, after))) ∙ after

-- what is written after a list that goes on
pub after_new : {A : Type 0} (old xs ys rest : List A) (from n : ℕ) → GoesOn old xs → from ≡ length old →
    length ys ≡ length (take (length xs - from) (drop from xs)) → n ≡ length xs →
    take n (put_mid from (length xs - from) xs ys ++ rest) ≡ old ++ ys
after_new old xs ys rest from n go same size is =
    let longer = go_longer old xs go in
    let le : from ≤ length xs = omega (arith, longer, same) in
    let count : length ys ≡ length xs - from = size ∙ rest_long xs from in
    let front : take from xs ≡ old =
    ap (λ v. take from v) go.1 ∙ (take-append-le from old go.0 (omega (arith, same)) ∙ take_all from old
    (omega (arith, same))) in
    written_after xs ys rest from n le count is ∙ ap (λ v. v ++ ys) front

-- what was appended to a list
pub part_appended : {A : Type 0} (old new more : List A) (part : IndexRange) → new ≡ old ++ more
    → part.from ≡ length old
    → part.to ≡ length new → IsAppended new more part
part_appended old new more part is from to =
    let size = ap (λ v. length v) is ∙ length-append old more in
    let count : length more ≤ part.to - part.from = omega (arith, from, to, size) in
    record {
      is = ap (λ v. slice_range v part.from part.to) is
          ∙ (ap (λ v. take (part.to - part.from) (drop v (old ++ more))) from
          ∙ (ap (λ v. take (part.to - part.from) v) (drop-append_seam old more)
          ∙ take_all (part.to - part.from) more count));
      within = record { ordered = omega (arith, from, to, size); inside = omega (arith, to) };
    }

pub goes_nowhere : {A : Type 0} (old new : List A) → new ≡ old → GoesOn old new
goes_nowhere old new is = ([], is ∙ sym (append-nil old))

-- a set that stands there stands there on
front_same : (old new : Stores) (b : SetBounds) → GoOn old new → AreBounds old b → set_in new b ≡ set_in old b
front_same old new b go are =
    let one = part_same old.records.items new.records.items b.records go.records are.records in
    let two = part_same old.items.items new.items.items b.items go.items are.items in
    let three = set_part_same old.waiters.items new.waiters.items b.waiters go.waiters are.waiters in
    rw (one, two, three) refl

bounds_same : (old new : Stores) (b : SetBounds) → GoOn old new → AreBounds old b → AreBounds new b
bounds_same old new b go are = record {
  records = part_within old.records.items new.records.items b.records go.records are.records;
  items = part_within old.items.items new.items.items b.items go.items are.items;
  waiters = (let size = go_longer old.waiters.items new.waiters.items go.waiters in
      let within = are.waiters in omega (arith, within, size));
}

pub sets_same : (old new : Stores) (bounds : List SetBounds) → GoOn old new → AreAllBounds old bounds
    → sets_in new bounds ≡ sets_in old bounds
sets_same old new [] go are = refl
sets_same old new (b ∷ bounds) go are =
    let here = front_same old new b go (are 0 b refl) in
    let rest = sets_same old new bounds go (λ j c is. are (suc j) c is) in
    rw (here, rest) refl

pub all_bounds_same : (old new : Stores) (bounds : List SetBounds) → GoOn old new → AreAllBounds old bounds
    → AreAllBounds new bounds
all_bounds_same old new bounds go are j b is = bounds_same old new b go (are j b is)

-- one set more
pub sets_push : (old new : Stores) (bounds : List SetBounds) (b : SetBounds) (kept_set : EarleySet) → GoOn old new
    → AreAllBounds old bounds → set_in new b ≡ kept_set →
    sets_in new (bounds ++ b ∷ []) ≡ sets_in old bounds ++ kept_set ∷ []
sets_push old new bounds b kept_set go are is =
    map-append (set_in new) bounds (b ∷ [])
    ∙ (ap (λ v. v ++ set_in new b ∷ []) (sets_same old new bounds go are)
    ∙ ap (λ v. sets_in old bounds ++ v ∷ []) is)

pub all_bounds_push : (old new : Stores) (bounds : List SetBounds) (b : SetBounds) → GoOn old new
    → AreAllBounds old bounds
    → AreBounds new b → AreAllBounds new (bounds ++ b ∷ [])
all_bounds_push old new bounds b go are here j c is = by (push_cases bounds b j c is)
  where
    by : (slice_get bounds j ≡ Some c) ⊎ ((j ≡ length bounds) × (b ≡ c)) → AreBounds new c
    by (inl was) = bounds_same old new c go (are j c was)
    by (inr now) = subst (λ v. AreBounds new v) now.1 here
