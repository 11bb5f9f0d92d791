-- Nodes that may fail late or succeed over a byte are in the least sets, and nodes in which the byte says where to go.
-- Serves: is_predictive
use Rattle.std.proofs.Common.{◌≡◌, ◌∙◌, ℕ, suc, ◌+◌, ◌-◌, ◌<◌, Bool, List, [], length, take, drop, get_or, Contains}
use Rattle.std.proofs.Common.{Option, None, Some, refl, ap, sym, subst, arith, add-one, ⊎_elim}
use Rattle.std.specs.Prelude.{slice_get}
use Rattle.std.proofs.lemmas.Bool.{cases_lt}
use Rattle.std.proofs.lemmas.List.{length-drop, get_or-drop, take_rest}
use Rattle.std.proofs.lemmas.Option.{slice_get_within, slice_get-get_or, get_or_from_slice_get}
use Rattle.fixpoint.specs.Demands.{Demand, All, One}
use Rattle.fixpoint.specs.Least.{Comes, by_all, by_one}
use Rattle.fixpoint.specs.NumberMarks.{IsMarked}
use Rattle.fixpoint.proofs.ContainsLemmas.{none_of}
use Rattle.pegnodes.specs.declared.by_byte.ByteVerdict.{ByteVerdict}
use Rattle.pegnodes.specs.declared.by_byte.ByteVerdict.TheVariants.{Takes, Stays, Fails}
use Rattle.pegnodes.specs.Nodes.{Shape, Any, Bytes, Set, Name, Seq, Choice, Star, Plus, Opt, And, Not, Act, Open}
use Rattle.pegnodes.specs.Nodes.{Close}
use Rattle.pegnodes.specs.NodeWays.{Iterations, way_of}
use Rattle.pegnodes.specs.Predictive.{of_members, of_alternatives, Settled, IsSettled, Late, late_name, late_seq}
use Rattle.pegnodes.specs.Predictive.{late_choice, late_plus, LateAlternatives, late_here, late_later, Over, over_name}
use Rattle.pegnodes.specs.Predictive.{over_seq, over_choice, over_star, over_again, over_plus, over_none, over_opt}
use Rattle.pegnodes.specs.Predictive.{OverMembers, over_here, over_after, OverAlternatives, over_this, over_other}
use Rattle.pegnodes.specs.Predictive.{over_later}
use Rattle.pegnodes.specs.SettledNeeds.{Lets, IsFree, IsSure, LetsLate, LetsOver}
use Rattle.pegnodes.specs.SettledNeeds.{IsSureNode, AreLate, AreOver}

-- a list from position k on contains what stands at i
pub rest_contains : (xs : List ℕ) (i k m : ℕ) → slice_get xs i ≡ Some m → (i < k → ⊥)
    → Contains (take (length xs - k) (drop k xs)) m
rest_contains xs i k m at not = ⊎_elim
    (λ before. absurd (not before))
    (λ after.
    let low = slice_get_within xs i m at in
    let long = length-drop k xs in
    let is : k + (i - k) ≡ i = omega arith in
    let there : get_or (drop k xs) (i - k) m ≡ m =
    get_or-drop k xs (i - k) m ∙ (ap (λ v. get_or xs v m) is ∙ get_or_from_slice_get xs i m m at) in
    subst (λ v. Contains v m) (sym (take_rest xs k)) (i - k, omega (arith, low, long, after), there))
    (cases_lt i k)

-- a value of the rest after position i
pub rest_after : {A : Type 0} (f : List ℕ → A) (xs : List ℕ) (i : ℕ) (v : A)
    → v ≡ f (take (length xs - (i + 1)) (drop (i + 1) xs)) → v ≡ f (drop (suc i) xs)
rest_after f xs i v is = is ∙ (ap f (take_rest xs (i + 1)) ∙ ap (λ k. f (drop k xs)) (add-one i))

-- what holds of the elements below i, and of the next
pub elements_more : {A : Type 0} (P : ℕ → A → Type 0) (xs : List A) (i : ℕ) (x : A) → slice_get xs i ≡ Some x
    → ((j : ℕ) (m : A) → j < i → slice_get xs j ≡ Some m → P j m) → P i x
    → (j : ℕ) (m : A) → j < i + 1 → slice_get xs j ≡ Some m → P j m
elements_more P xs i x here old p j m below at = ⊎_elim
    (λ before. old j m before at)
    (λ after.
    let is : i ≡ j = omega (arith, below, after) in
    let same : Some x ≡ Some m = sym here ∙ (ap (slice_get xs) is ∙ at) in
    let there : x ≡ m = cc same in
    subst (λ v. P v m) is (subst (P i) there p))
    (cases_lt j i)

-- a node has one shape
pub at_shape : (P : Shape → Type 0) (nodes : List Shape) (n : ℕ) (a b : Shape) → slice_get nodes n ≡ Some a
    → slice_get nodes n ≡ Some b → P a → P b
at_shape P nodes n a b here there p = let e : Some a ≡ Some b = sym here ∙ there in
    let is : a ≡ b = cc e in subst P is p

-- the need of all numbers of an empty row
pub free_late : (bodies : List ℕ) (of : ℕ → Option ByteVerdict) (own : Option ByteVerdict) (shape : Shape)
    → LetsLate bodies of own shape (All [])
free_late bodies of own Any = tt
free_late bodies of own (Bytes bs) = tt
free_late bodies of own (Set s) = tt
free_late bodies of own (Name id) = λ m at. refl
free_late bodies of own (Seq ms) = λ none. refl
free_late bodies of own (Choice ms) = λ i m at e. refl
free_late bodies of own (Star k) = tt
free_late bodies of own (Plus k s) = refl
free_late bodies of own (Opt k) = tt
free_late bodies of own (And k) = tt
free_late bodies of own (Not k) = tt
free_late bodies of own (Act t) = tt
free_late bodies of own Open = tt
free_late bodies of own Close = tt

pub free_over : (bodies : List ℕ) (of : ℕ → Option ByteVerdict) (lates : List Bool) (shape : Shape)
    → LetsOver bodies of lates shape (All [])
free_over bodies of lates Any = tt
free_over bodies of lates (Bytes bs) = tt
free_over bodies of lates (Set s) = tt
free_over bodies of lates (Name id) = λ m at. refl
free_over bodies of lates (Seq ms) = λ i m at e. refl
free_over bodies of lates (Choice ms) = record { over = λ i m at. refl; late = λ i m at l e. refl }
free_over bodies of lates (Star k) = record { late = λ l. refl; over = refl }
free_over bodies of lates (Plus k s) = refl
free_over bodies of lates (Opt k) = record { late = λ l. refl; over = refl }
free_over bodies of lates (And k) = tt
free_over bodies of lates (Not k) = tt
free_over bodies of lates (Act t) = tt
free_over bodies of lates Open = tt
free_over bodies of lates Close = tt

free_comes : (needs : List Demand) (n : ℕ) (need : Demand) → slice_get needs n ≡ Some need → IsFree need
    → Comes needs n
free_comes needs n (All row) at free = by_all at (λ m h. absurd (none_of m (subst (λ v. Contains v m) free h)))
free_comes needs n (One row) at free = absurd free

lets_come : (needs : List Demand) (n m : ℕ) (need : Demand) → slice_get needs n ≡ Some need → Lets need m
    → Comes needs m → Comes needs n
lets_come needs n m (All row) at free c =
    by_all at (λ k h. absurd (none_of k (subst (λ v. Contains v k) free h)))
lets_come needs n m (One row) at has c = by_one at has c

module _ (nodes : List Shape) (bodies : List ℕ) (of : ℕ → Option ByteVerdict) where
  module _ (needs : List Demand) (count : length needs ≡ length nodes) where
    abbrev need_of : ℕ → Demand
    need_of n = get_or needs n (All [])

    need_at : (n : ℕ) (shape : Shape) → slice_get nodes n ≡ Some shape → slice_get needs n ≡ Some (need_of n)
    need_at n shape at = let low = slice_get_within nodes n shape at in
        slice_get-get_or needs n (All []) (omega (arith, low, count))

    module _ (are : (n : ℕ) (shape : Shape) → slice_get nodes n ≡ Some shape
        → LetsLate bodies of (of n) shape (need_of n)) where
      mutual
        -- what may fail late comes in
        pub late_comes : {n : ℕ} → Late nodes bodies of n → Comes needs n
        late_comes (late_name {n = n} {id = id} {m = m} at there l) =
            lets_come needs n m (need_of n) (need_at n (Name id) at) (are n (Name id) at m there) (late_comes l)
        late_comes (late_seq {n = n} {ms = ms} at none) =
            free_comes needs n (need_of n) (need_at n (Seq ms) at) (are n (Seq ms) at none)
        late_comes (late_choice {n = n} {ms = ms} at l) =
            let one = late_of (need_of n) ms (are n (Choice ms) at) l in
            lets_come needs n one.0 (need_of n) (need_at n (Choice ms) at) one.1 one.2
        late_comes (late_plus {n = n} {k = k} {s = s} at l) =
            lets_come needs n k (need_of n) (need_at n (Plus k s) at) (are n (Plus k s) at) (late_comes l)

        late_of : (need : Demand) (ms : List ℕ) → ((i m : ℕ) → slice_get ms i ≡ Some m
            → of_alternatives of (drop (suc i) ms) ≡ Some Fails → Lets need m) → LateAlternatives nodes bodies of ms
            → (m : ℕ) × Lets need m × Comes needs m
        late_of need ms lets (late_here {m = m} l e) = (m, lets 0 m refl e, late_comes l)
        late_of need ms lets (late_later {m = m} {ms = rest} l) =
            late_of need rest (λ i k at e. lets (suc i) k at e) l

    module _ (lates : List Bool) (marked : AreLate nodes bodies of lates)
        (are : (n : ℕ) (shape : Shape) → slice_get nodes n ≡ Some shape → LetsOver bodies of lates shape (need_of n))
      where
        mutual
          -- what may succeed over the byte comes in
          pub over_comes : {n : ℕ} → Over nodes bodies of n → Comes needs n
          over_comes (over_name {n = n} {id = id} {m = m} at there o) =
              lets_come needs n m (need_of n) (need_at n (Name id) at) (are n (Name id) at m there) (over_comes o)
          over_comes (over_seq {n = n} {ms = ms} at o) =
              let one = over_of (need_of n) ms (are n (Seq ms) at) o in
              lets_come needs n one.0 (need_of n) (need_at n (Seq ms) at) one.1 one.2
          over_comes (over_choice {n = n} {ms = ms} at o) =
              over_one n (need_of n) (need_at n (Choice ms) at) ms (are n (Choice ms) at).over
              (are n (Choice ms) at).late o
          over_comes (over_star {n = n} {k = k} at l) =
              free_comes needs n (need_of n) (need_at n (Star k) at) ((are n (Star k) at).late (marked k l))
          over_comes (over_again {n = n} {k = k} at o) =
              lets_come needs n k (need_of n) (need_at n (Star k) at) (are n (Star k) at).over (over_comes o)
          over_comes (over_plus {n = n} {k = k} {s = s} at o) =
              lets_come needs n s (need_of n) (need_at n (Plus k s) at) (are n (Plus k s) at) (over_comes o)
          over_comes (over_none {n = n} {k = k} at l) =
              free_comes needs n (need_of n) (need_at n (Opt k) at) ((are n (Opt k) at).late (marked k l))
          over_comes (over_opt {n = n} {k = k} at o) =
              lets_come needs n k (need_of n) (need_at n (Opt k) at) (are n (Opt k) at).over (over_comes o)

          over_of : (need : Demand) (ms : List ℕ) → ((i m : ℕ) → slice_get ms i ≡ Some m
              → of_members of (drop (suc i) ms) ≡ Some Stays → Lets need m) → OverMembers nodes bodies of ms
              → (m : ℕ) × Lets need m × Comes needs m
          over_of need ms lets (over_here {m = m} o e) = (m, lets 0 m refl e, over_comes o)
          over_of need ms lets (over_after {m = m} {ms = rest} o) =
              over_of need rest (λ i k at e. lets (suc i) k at e) o

          over_one : (n : ℕ) (need : Demand) → slice_get needs n ≡ Some need → (ms : List ℕ)
              → ((i m : ℕ) → slice_get ms i ≡ Some m → Lets need m)
              → ((i m : ℕ) → slice_get ms i ≡ Some m → IsMarked lates m
              → of_alternatives of (drop (suc i) ms) ≡ Some Stays → IsFree need) → OverAlternatives nodes bodies of ms
              → Comes needs n
          over_one n need at ms lets free (over_this {m = m} o) =
              lets_come needs n m need at (lets 0 m refl) (over_comes o)
          over_one n need at ms lets free (over_other {m = m} l e) =
              free_comes needs n need at (free 0 m refl (marked m l) e)
          over_one n need at ms lets free (over_later {m = m} {ms = rest} o) =
              over_one n need at rest (λ i k there. lets (suc i) k there) (λ i k there l e. free (suc i) k there l e) o

  is_settled_if : (v : Option ByteVerdict) → IsSure v → Settled nodes bodies v
  is_settled_if None sure = sure
  is_settled_if (Some Takes) sure = sure
  is_settled_if (Some Stays) sure = tt
  is_settled_if (Some Fails) sure = tt

  module _ (lates overs : List Bool) where
    fails_again : (n k s : ℕ) (shape : Shape) → way_of n shape ≡ Iterations k s → IsSureNode of lates overs shape
        → IsMarked overs k → of k ≡ Some Fails
    fails_again n k s Any is sure marked = absurd (cc is)
    fails_again n k s (Bytes bs) is sure marked = absurd (cc is)
    fails_again n k s (Set set) is sure marked = absurd (cc is)
    fails_again n k s (Name id) is sure marked = absurd (cc is)
    fails_again n k s (Seq ms) is sure marked = absurd (cc is)
    fails_again n k s (Choice ms) is sure marked = absurd (cc is)
    fails_again n k s (Star j) is sure marked = let e : j ≡ k = cc is in
        subst (λ v. of v ≡ Some Fails) e (sure (subst (IsMarked overs) (sym e) marked))
    fails_again n k s (Plus j t) is sure marked = let e : j ≡ k = cc is in
        subst (λ v. of v ≡ Some Fails) e (sure (subst (IsMarked overs) (sym e) marked))
    fails_again n k s (Opt j) is sure marked = absurd (cc is)
    fails_again n k s (And j) is sure marked = absurd (cc is)
    fails_again n k s (Not j) is sure marked = absurd (cc is)
    fails_again n k s (Act t) is sure marked = absurd (cc is)
    fails_again n k s Open is sure marked = absurd (cc is)
    fails_again n k s Close is sure marked = absurd (cc is)

    pub sure_settled : AreLate nodes bodies of lates → AreOver nodes bodies of overs
        → ((n : ℕ) (shape : Shape) → slice_get nodes n ≡ Some shape → IsSureNode of lates overs shape)
        → IsSettled nodes bodies of
    sure_settled late over sure = record {
      after = λ n i m ms at there o. is_settled_if _ (sure n (Seq ms) at i m there (over m o));
      again = λ n k s shape at is o. fails_again n k s shape is (sure n shape at) (over k o);
      others = λ n i m ms at there l. is_settled_if _ (sure n (Choice ms) at i m there (late m l));
      ahead = λ n k shape at is none. ⊎_elim
          (λ e. let so : IsSureNode of lates overs (And k) = subst (IsSureNode of lates overs) e (sure n shape at) in
          so none)
          (λ e. let so : IsSureNode of lates overs (Not k) = subst (IsSureNode of lates overs) e (sure n shape at) in
          so none)
          is;
    }
