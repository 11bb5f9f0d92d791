-- A list of evaluations in order is known by its evaluations.
-- Serves: one_farthest
use Rattle.std.proofs.Common.{◌≡◌, inl, inr, zero, suc, List, [], ◌∷◌, refl, sym, ap, arith}
use Rattle.matchfailure.specs.declared.farthest.visit.Visit.{Visit}
use Rattle.matchfailure.specs.VisitLists.{ListsVisit, StandsBefore, Ascends}

not_itself : (v w : Visit) → StandsBefore v w → v ≡ w → ⊥
not_itself v w (inl less) same = let e = ap (λ u. u.node) same in omega (arith, e)
not_itself v w (inr both) same = let e = ap (λ u. u.position) same in omega (arith, e, both.1)

not_both : (v w : Visit) → StandsBefore v w → StandsBefore w v → ⊥
not_both v w (inl a) (inl b) = omega arith
not_both v w (inl a) (inr b) = omega (arith, b.0)
not_both v w (inr a) (inl b) = omega (arith, a.0)
not_both v w (inr a) (inr b) = omega (arith, a.1, b.1)

tail_ascends : (v : Visit) (vs : List Visit) → Ascends (v ∷ vs) → Ascends vs
tail_ascends v vs a i j u w lt h g = a (suc i) (suc j) u w (omega arith) h g

-- the first of two lists with the same evaluations is the same
same_first : (v w : Visit) (vs ws : List Visit) → Ascends (v ∷ vs) → Ascends (w ∷ ws) → ListsVisit (w ∷ ws) v
    → ListsVisit (v ∷ vs) w → v ≡ w
same_first v w vs ws a b (zero, h) g = cc h
same_first v w vs ws a b (suc k, h) (zero, g) = cc g
same_first v w vs ws a b (suc k, h) (suc j, g) =
    absurd (not_both v w (a 0 (suc j) v w (omega arith) refl g) (b 0 (suc k) w v (omega arith) refl h))

-- what the tail of one has the tail of the other has
in_tail : (v w u : Visit) (vs ws : List Visit) → Ascends (v ∷ vs) → v ≡ w → ListsVisit vs u
    → ListsVisit (w ∷ ws) u → ListsVisit ws u
in_tail v w u vs ws a same (k, h) (zero, g) =
    absurd (not_itself v u (a 0 (suc k) v u (omega arith) refl h) (cc (same, g)))
in_tail v w u vs ws a same h (suc j, g) = (j, g)

pub one_list : (vs ws : List Visit) → Ascends vs → Ascends ws → ((v : Visit) → ListsVisit vs v → ListsVisit ws v)
    → ((v : Visit) → ListsVisit ws v → ListsVisit vs v) → vs ≡ ws
one_list [] [] a b to back = refl
one_list [] (w ∷ ws) a b to back = let h = back w (0, refl) in absurd (cc h.1)
one_list (v ∷ vs) [] a b to back = let h = to v (0, refl) in absurd (cc h.1)
one_list (v ∷ vs) (w ∷ ws) a b to back =
    let same = same_first v w vs ws a b (to v (0, refl)) (back w (0, refl)) in
    let rest = one_list vs ws (tail_ascends v vs a) (tail_ascends w ws b)
    (λ u h. in_tail v w u vs ws a same h (to u (suc h.0, h.1)))
    (λ u h. in_tail w v u ws vs b (sym same) h (back u (suc h.0, h.1))) in
    cc (same, rest)
