-- Parts dropped from the end of the path.
-- Serves: on_cycle (marks)
use Rattle.std.proofs.Common.{◌≡◌, ℕ, zero, suc, ◌+◌, ◌-◌, ◌<◌, List, [], ◌∷◌, ◌++◌, length, take, refl, sym, ap}
use Rattle.std.proofs.Common.{subst, ◌∙◌, append_assoc, arith, Some}
use Rattle.std.specs.Prelude.{slice_get}
use Rattle.std.proofs.lemmas.Option.{slice_get_within}
use Rattle.fixpoint.specs.Way.{At, Drops}
use Rattle.fixpoint.specs.declared.cycles.Part.{Part}

pub drops_one : (position : ℕ) (parts a b : List Part) (s : Part) → a ≡ b ++ s ∷ [] → position < s.first →
    Drops position parts a → Drops position parts b
drops_one position parts a b s is lt d = record {
  gone = s ∷ d.gone;
  is = d.is ∙ (ap (λ v. v ++ d.gone) is ∙ append_assoc b (s ∷ []) d.gone);
  past = past;
}
  where
    past : (k : ℕ) (t : Part) → At (s ∷ d.gone) k t → position < t.first
    past zero t h = let e : s ≡ t = cc h in subst (λ v. position < v.first) e lt
    past (suc k) t h = d.past k t h

-- the last one leaves
pub last_split : {A : Type 0} (xs : List A) (n : ℕ) (s : A) → At xs n s → n + 1 ≡ length xs → xs ≡ take n xs ++ s ∷ []
last_split [] n s h e = absurd (cc h)
last_split (x ∷ []) zero s h e = let is : x ≡ s = cc h in ap (λ v. v ∷ []) is
last_split (x ∷ y ∷ xs) zero s h e = absurd (omega (arith, e))
last_split (x ∷ xs) (suc n) s h e = ap (λ v. x ∷ v) (last_split xs n s h (omega (arith, e)))

pub last_out : {A : Type 0} (x a b : List A) (s : A) (m : ℕ) → Some s ≡ slice_get x (length x - 1) → x ≡ a →
    m ≡ length a → b ≡ take (m - 1) a → a ≡ b ++ s ∷ []
last_out x a b s m at is size rest =
    let here : At a (length a - 1) s = subst (λ v. At v (length v - 1) s) is (sym at) in
    let lt = slice_get_within a (length a - 1) s here in
    let split = last_split a (length a - 1) s here (omega (arith, lt)) in
    let e : b ≡ take (length a - 1) a = rest ∙ ap (λ v. take (v - 1) a) size in
    split ∙ ap (λ v. v ++ s ∷ []) (sym e)

pub drops_next : (position : ℕ) (parts x a b : List Part) (s : Part) (m : ℕ) → Some s ≡ slice_get x (length x - 1) →
    x ≡ a → m ≡ length a → b ≡ take (m - 1) a → position < s.first →
    Drops position parts a → Drops position parts b
drops_next position parts x a b s m at is size rest lt d =
    drops_one position parts a b s (last_out x a b s m at is size rest) lt d

list_last : (ys : List Part) (y : Part) → (ps : List Part) × (z : Part) × (y ∷ ys ≡ ps ++ z ∷ [])
list_last [] y = ([], y, refl)
list_last (x ∷ ys) y = let k = list_last ys x in (y ∷ k.0, k.1, ap (λ v. y ∷ v) k.2)

-- a list has a last element, if any
pub last_of : (xs : List Part) (k : ℕ) (s : Part) → At xs k s → (ps : List Part) × (x : Part) × (xs ≡ ps ++ x ∷ [])
last_of [] k s h = absurd (cc h)
last_of (x ∷ xs) k s h = list_last xs x
