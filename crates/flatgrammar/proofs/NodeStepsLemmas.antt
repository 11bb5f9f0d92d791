-- The functions of a node are its relations.
-- Serves: judge.
use Rattle.std.proofs.Common.{ltb-true, leb-true, eqb-true, ◌≡◌, ℕ, zero, suc, ◌+◌, ◌-◌, ◌<◌, ◌≤◌, Bool, true, false}
use Rattle.std.proofs.Common.{◌&&◌, ◌||◌, eqb, ltb, leb, if◌then◌else◌, Option, Some, None, length, slice_get, refl}
use Rattle.std.proofs.Common.{sym, ap, subst, arith}
use Rattle.flatgrammar.specs.Flat.{Node, Letters, Concat, Alt, Rep, Iterations, Opt, Name, Nothing, IsTaking, is_taking}
use Rattle.flatgrammar.specs.Flat.{Begins, IsDone, Calling}
use Rattle.flatgrammar.specs.NodeSteps.{begin_count, is_done, callee, takes, with_next}

pub record Next (o : Option ℕ) (l t m : ℕ) : Type 0 where
  pub is : o ≡ Some t
  pub next : l ≡ m

with_next_is : (o : Option ℕ) (l t m : ℕ) → with_next o l ≡ Some (t, m) → Next o l t m
with_next_is None l t m h = absurd cc
with_next_is (Some s) l t m h = let pair : (s, l) ≡ (t, m) = some_same h in
    record { is = ap (λ v. Some v.0) pair; next = ap (λ v. v.1) pair }
  where
    some_same : {a b : ℕ × ℕ} → Some a ≡ Some b → a ≡ b
    some_same h = cc

pair_same : {a b : ℕ × ℕ} → Some a ≡ Some b → a ≡ b
pair_same h = cc

ltb_less : (a b : ℕ) → ltb a b ≡ true → a < b
ltb_less a b h = ltb-true a b h

leb_le : (a b : ℕ) → leb a b ≡ true → a ≤ b
leb_le a b h = leb-true a b h

eqb_same : (a b : ℕ) → eqb a b ≡ true → a ≡ b
eqb_same a b h = eqb-true a b h

pub callee_calling : (node : Node) (k t l : ℕ) → callee node k ≡ Some (t, l) → Calling node k t l
callee_calling (Letters sets) k t l h = absurd cc
callee_calling (Concat ms) k t l h = let n = with_next_is (slice_get ms k) (k + 1) t l h in
    subst (λ v. Calling (Concat ms) k t v) n.next (Calling.member n.is)
callee_calling (Alt ms) k t l h = let n = with_next_is (slice_get ms k) (length ms + k) t l h in
    subst (λ v. Calling (Alt ms) k t v) n.next (Calling.alternative n.is)
callee_calling (Rep a None m) k t l h = by (ltb k a) refl h
  where
    last : (b : Bool) → eqb k a ≡ b → ◌≡◌ {A = Option (ℕ × ℕ)} (if b then Some (m, a) else None) (Some (t, l))
        → Calling (Rep a None m) k t l
    last true is h =
        let pair = pair_same h in
        subst (λ v. Calling (Rep a None m) k v l) (ap (λ v. v.0) pair)
        (subst (λ v. Calling (Rep a None m) k m v) (ap (λ v. v.1) pair)
        (subst (λ v. Calling (Rep a None m) v m a) (sym (eqb_same k a is)) Calling.iteration_uncounted))
    last false is h = absurd cc

    by : (b : Bool) → ltb k a ≡ b → ◌≡◌ {A = Option (ℕ × ℕ)}
        (if b then Some (m, k + 1) else (if eqb k a then Some (m, a) else None)) (Some (t, l))
        → Calling (Rep a None m) k t l
    by true is h =
        let pair = pair_same h in
        subst (λ v. Calling (Rep a None m) k v l) (ap (λ v. v.0) pair)
        (subst (λ v. Calling (Rep a None m) k m v) (ap (λ v. v.1) pair) (Calling.iteration (ltb_less k a is)))
    by false is h = last (eqb k a) refl h
callee_calling (Rep a (Some b) m) k t l h = by (ltb k b) refl h
  where
    by : (c : Bool) → ltb k b ≡ c → ◌≡◌ {A = Option (ℕ × ℕ)} (if c then Some (m, k + 1) else None) (Some (t, l))
        → Calling (Rep a (Some b) m) k t l
    by true is h =
        let pair = pair_same h in
        subst (λ v. Calling (Rep a (Some b) m) k v l) (ap (λ v. v.0) pair)
        (subst (λ v. Calling (Rep a (Some b) m) k m v) (ap (λ v. v.1) pair) (Calling.iteration (ltb_less k b is)))
    by false is h = absurd cc
callee_calling (Iterations None m) k t l h = by (eqb k 0) refl h
  where
    by : (c : Bool) → eqb k 0 ≡ c → ◌≡◌ {A = Option (ℕ × ℕ)} (if c then Some (m, 0) else None) (Some (t, l))
        → Calling (Iterations None m) k t l
    by true is h =
        let pair = pair_same h in
        subst (λ v. Calling (Iterations None m) k v l) (ap (λ v. v.0) pair)
        (subst (λ v. Calling (Iterations None m) k m v) (ap (λ v. v.1) pair)
        (subst (λ v. Calling (Iterations None m) v m 0) (sym (eqb_same k 0 is)) Calling.takes_uncounted))
    by false is h = absurd cc
callee_calling (Iterations (Some b) m) k t l h = by (ltb k b) refl h
  where
    by : (c : Bool) → ltb k b ≡ c → ◌≡◌ {A = Option (ℕ × ℕ)} (if c then Some (m, k + 1) else None) (Some (t, l))
        → Calling (Iterations (Some b) m) k t l
    by true is h =
        let pair = pair_same h in
        subst (λ v. Calling (Iterations (Some b) m) k v l) (ap (λ v. v.0) pair)
        (subst (λ v. Calling (Iterations (Some b) m) k m v) (ap (λ v. v.1) pair) (Calling.takes (ltb_less k b is)))
    by false is h = absurd cc
callee_calling (Opt m) k t l h = by (eqb k 0) refl h
  where
    by : (c : Bool) → eqb k 0 ≡ c → ◌≡◌ {A = Option (ℕ × ℕ)} (if c then Some (m, 2) else None) (Some (t, l))
        → Calling (Opt m) k t l
    by true is h =
        let pair = pair_same h in
        subst (λ v. Calling (Opt m) k v l) (ap (λ v. v.0) pair)
        (subst (λ v. Calling (Opt m) k m v) (ap (λ v. v.1) pair)
        (subst (λ v. Calling (Opt m) v m 2) (sym (eqb_same k 0 is)) Calling.operand))
    by false is h = absurd cc
callee_calling (Name r) k t l h = absurd cc
callee_calling Nothing k t l h = absurd cc

and_both : (a b : Bool) → (a && b) ≡ true → (a ≡ true) × (b ≡ true)
and_both true true h = (refl, refl)
and_both true false h = absurd cc
and_both false b h = absurd cc

pub done_is : (node : Node) (k : ℕ) → is_done node k ≡ true → IsDone node k
done_is (Letters sets) k h = IsDone.letters (eqb_same k (length sets) h)
done_is (Concat ms) k h = IsDone.concat (eqb_same k (length ms) h)
done_is (Alt ms) k h =
    let both = and_both (leb (length ms) k) (ltb (k - length ms) (length ms)) h in
    let le = leb_le (length ms) k both.0 in let lt = ltb_less (k - length ms) (length ms) both.1 in
    let same : length ms + (k - length ms) ≡ k = omega arith in
    subst (λ v. IsDone (Alt ms) v) same (IsDone.alt lt)
done_is (Rep a None m) k h = let same = eqb_same k a h in IsDone.rep (omega arith) (omega arith)
done_is (Rep a (Some b) m) k h = let both = and_both (leb a k) (leb k b) h in
    IsDone.rep (leb_le a k both.0) (leb_le k b both.1)
done_is (Iterations None m) k h = let same = eqb_same k 0 h in IsDone.iterations (omega (arith, same))
done_is (Iterations (Some b) m) k h = IsDone.iterations (leb_le k b h)
done_is (Opt m) k h = by (eqb k 1) refl h
  where
    by : (c : Bool) → eqb k 1 ≡ c → (c || eqb k 2) ≡ true → IsDone (Opt m) k
    by true is h = subst (λ v. IsDone (Opt m) v) (sym (eqb_same k 1 is)) IsDone.opt_empty
    by false is h = subst (λ v. IsDone (Opt m) v) (sym (eqb_same k 2 h)) IsDone.opt
done_is (Name r) k h = absurd cc
done_is Nothing k h = absurd cc

pub begins_is : (node : Node) (k : ℕ) → k < begin_count node → Begins node k
begins_is (Letters sets) k lt = let zero_is : 0 ≡ k = omega arith in subst (λ v. Begins (Letters sets) v) zero_is
    Begins.letters
begins_is (Concat ms) k lt = let zero_is : 0 ≡ k = omega arith in
    subst (λ v. Begins (Concat ms) v) zero_is Begins.concat
begins_is (Alt ms) k lt = Begins.alt lt
begins_is (Rep a b m) k lt = let zero_is : 0 ≡ k = omega arith in subst (λ v. Begins (Rep a b m) v) zero_is Begins.rep
begins_is (Iterations b m) k lt = let zero_is : 0
    ≡ k = omega arith in subst (λ v. Begins (Iterations b m) v) zero_is Begins.iterations
begins_is (Opt m) zero lt = Begins.opt
begins_is (Opt m) (suc k) lt = let one_is : 1 ≡ suc k = omega arith in
    subst (λ v. Begins (Opt m) v) one_is Begins.opt_empty
begins_is (Name r) k lt = absurd (omega arith)
begins_is Nothing k lt = absurd (omega arith)

pub taking_takes : {node : Node} → IsTaking node → takes node ≡ true
taking_takes is_taking = refl

pub takes_taking : (node : Node) → takes node ≡ true → IsTaking node
takes_taking (Letters sets) h = absurd cc
takes_taking (Concat ms) h = absurd cc
takes_taking (Alt ms) h = absurd cc
takes_taking (Rep a b m) h = absurd cc
takes_taking (Iterations b m) h = is_taking
takes_taking (Opt m) h = absurd cc
takes_taking (Name r) h = absurd cc
takes_taking Nothing h = absurd cc
