-- Numbers marked and stacked one by one.
-- Serves: reached (marks)
use Rattle.std.proofs.Common.{◌≡◌, ℕ, zero, suc, ◌+◌, ◌<◌, Bool, true, false, List, [], ◌∷◌, ◌++◌, length, take}
use Rattle.std.proofs.Common.{replicate, get_or, set, Contains, refl, sym, subst, arith, ⊎_elim, inl, inr, add-one}
use Rattle.std.proofs.Common.{length-append, ◌∙◌}
use Rattle.std.proofs.lemmas.Bool.{both_ways}
use Rattle.std.proofs.lemmas.List.{length-set}
use Rattle.std.proofs.lemmas.List.Elements.{Contains-push, Contains-push_cases, Contains-append_left}
use Rattle.std.proofs.Math.Seq.{take-suc}
use Rattle.fixpoint.specs.NumberMarks.{IsMarked}
use Rattle.fixpoint.specs.Reach.{Reaches, here, further, unset, Stacks, IsSpreading, AreReachedFrom}
use Rattle.fixpoint.specs.StepRows.{Step, row_at}
use Rattle.fixpoint.proofs.ContainsLemmas.{none_of, only_one, in_first}
use Rattle.fixpoint.proofs.IsMarkedLemmas.{marked_here, marked_set, set_marked, marked_lt, none_set}

pub unset_set : (marks : List Bool) (i : ℕ) → i < length marks → get_or marks i false ≡ false →
    unset (set marks i true) + 1 ≡ unset marks
unset_set [] i lt h = absurd (omega arith)
unset_set (true ∷ marks) zero lt h = absurd (both_ways true h refl)
unset_set (false ∷ marks) zero lt h = refl
unset_set (true ∷ marks) (suc i) lt h = unset_set marks i (omega arith) h
unset_set (false ∷ marks) (suc i) lt h = let k = unset_set marks i (omega arith) h in omega (arith, k)

pub stacks_none : (marks : List Bool) (stack : List ℕ) → Stacks [] marks stack marks stack
stacks_none marks stack = record {
  count = refl;
  kept = λ m h. h;
  all = λ m h. absurd (none_of m h);
  only = λ m h. inl h;
  stays = λ m h. h;
  stacked = λ m h. inl h;
  left = refl;
}

pub stacks_old : (x : ℕ) (marks : List Bool) (stack : List ℕ) → IsMarked marks x →
    Stacks (x ∷ []) marks stack marks stack
stacks_old x marks stack h = record {
  count = refl;
  kept = λ m k. k;
  all = λ m k. subst (λ v. IsMarked marks v) (only_one x m k) h;
  only = λ m k. inl k;
  stays = λ m k. k;
  stacked = λ m k. inl k;
  left = refl;
}

pub stacks_new : (x : ℕ) (marks : List Bool) (stack : List ℕ) → x < length marks → get_or marks x false ≡ false →
    Stacks (x ∷ []) marks stack (set marks x true) (stack ++ x ∷ [])
stacks_new x marks stack lt unmarked = record {
  count = length-set marks x true;
  kept = λ m h. marked_set marks x m lt h;
  all = λ m h. subst (λ v. IsMarked (set marks x true) v) (only_one x m h) (marked_here marks x lt);
  only = λ m h. ⊎_elim
      (λ is. inr (subst (λ v. Contains (x ∷ []) v × Contains (stack ++ x ∷ []) v) (sym is) (
        in_first x [],
        Contains-push stack x,
      )))
      (λ old. inl old)
      (set_marked marks x m h);
  stays = λ m h. Contains-append_left stack (x ∷ []) m h;
  stacked = λ m h. ⊎_elim (λ old. inl old) (λ is. inr (subst (λ v. Contains (x ∷ []) v) is (in_first x [])))
      (Contains-push_cases stack x m h);
  left = let u = unset_set marks x lt unmarked in let l = length-append stack (x ∷ []) in omega (arith, u, l);
}

stacks_push : (row : List ℕ) (x : ℕ) (a b c : List Bool) (s t u : List ℕ) → Stacks row a s b t →
    Stacks (x ∷ []) b t c u → Stacks (row ++ x ∷ []) a s c u
stacks_push row x a b c s t u g h = record {
  count = h.count ∙ g.count;
  kept = λ m k. h.kept m (g.kept m k);
  all = λ m k. ⊎_elim
      (λ old. h.kept m (g.all m old))
      (λ is. subst (λ v. IsMarked c v) is (h.all x (in_first x [])))
      (Contains-push_cases row x m k);
  only = λ m k. ⊎_elim
      (λ old. ⊎_elim (λ first. inl first)
      (λ new. inr (Contains-append_left row (x ∷ []) m new.0, h.stays m new.1)) (g.only m old))
      (λ new. inr (subst (λ v. Contains (row ++ x ∷ []) v) (only_one x m new.0) (Contains-push row x), new.1))
      (h.only m k);
  stays = λ m k. h.stays m (g.stays m k);
  stacked = λ m k. ⊎_elim
      (λ old. ⊎_elim (λ first. inl first) (λ new. inr (Contains-append_left row (x ∷ []) m new)) (g.stacked m old))
      (λ new. inr (subst (λ v. Contains (row ++ x ∷ []) v) (only_one x m new) (Contains-push row x)))
      (h.stacked m k);
  left = h.left ∙ g.left;
}

pub stacks_next : (row : List ℕ) (i x : ℕ) {a b c : List Bool} {s t u : List ℕ} → i < length row → x ≡ get_or row i 0 →
    Stacks (take i row) a s b t → Stacks (x ∷ []) b t c u →
    Stacks (take (i + 1) row) a s c u
stacks_next row i x {a} {b} {c} {s} {t} {u} lt is g h =
    rw (add-one i, take-suc row i 0, sym is) (stacks_push (take i row) x a b c s t u g h)

pub stack_falls : (ss : List ℕ) (n u a : ℕ) → a ≡ u + length ss → a < u + length (ss ++ n ∷ [])
stack_falls ss n u a e = let l = length-append ss (n ∷ []) in omega (arith, l, e)

module _ (rows : List (List ℕ)) (these : List ℕ) where
  -- these alone are marked and stacked
  pub spreading_start : (count : ℕ) (a b : List Bool) (o stack : List ℕ) → count ≡ length rows → length a ≡ count →
      a ≡ replicate count false → o ≡ [] → Stacks these a o b stack → IsSpreading rows these b stack
  spreading_start count a b o stack size full fresh empty g = record {
    count = g.count ∙ (full ∙ size);
    first = g.all;
    marked = λ n h. g.all n (alone n h);
    sound = λ n h. (n, alone n (on n h), here);
    done = λ n h. inl (on n h);
  }
    where
      alone : (n : ℕ) → Contains stack n → Contains these n
      alone n h = ⊎_elim (λ old. absurd (none_of n (subst (λ v. Contains v n) empty old))) (λ new. new) (g.stacked n h)

      on : (n : ℕ) → IsMarked b n → Contains stack n
      on n h = ⊎_elim (λ old. absurd (none_set count n (subst (λ v. IsMarked v n) fresh old)))
          (λ new. new.1) (g.only n h)

  pub spreading_next : (n : ℕ) {a b : List Bool} {old : List ℕ} (o : List ℕ) {stack : List ℕ} → old ≡ o ++ n ∷ [] →
      IsSpreading rows these a old → Stacks (row_at rows n) a o b stack → IsSpreading rows these b stack
  spreading_next n {a} {b} {old} o {stack} is k g = record {
    count = g.count ∙ k.count;
    first = λ m h. g.kept m (k.first m h);
    marked = λ m h. ⊎_elim (λ below. g.kept m (k.marked m (lower m below))) (λ new. g.all m new) (g.stacked m h);
    sound = λ m h. ⊎_elim (λ before. k.sound m before) (λ new. let r = k.sound n (k.marked n top) in
        (r.0, r.1, further r.2 new.0)) (g.only m h);
    done = λ m h. ⊎_elim
        (λ before. ⊎_elim
        (λ on. ⊎_elim
        (λ below. inl (g.stays m below))
        (λ here_too. inr (subst (λ v. (j : ℕ) → Step rows v j → IsMarked b j) here_too (λ j step. g.all j step)))
        (Contains-push_cases o n m (subst (λ v. Contains v m) is on)))
        (λ shut. inr (λ j step. g.kept j (shut j step)))
        (k.done m before))
        (λ new. inl new.1)
        (g.only m h);
  }
    where
      lower : (m : ℕ) → Contains o m → Contains old m
      lower m h = subst (λ v. Contains v m) (sym is) (Contains-append_left o (n ∷ []) m h)

      top : Contains old n
      top = subst (λ v. Contains v n) (sym is) (Contains-push o n)

  pub top_in : (n : ℕ) (a : List Bool) (old o : List ℕ) → old ≡ o ++ n ∷ [] →
      IsSpreading rows these a old → n < length rows
  top_in n a old o is k = let lt =
      marked_lt a n (k.marked n (subst (λ v. Contains v n) (sym is) (Contains-push o n))) in
      let c = k.count in omega (arith, lt, c)

  kept_on : (marks : List Bool) → ((n m : ℕ) → IsMarked marks n → Step rows n m → IsMarked marks m) → {s n : ℕ} →
      Reaches rows s n → IsMarked marks s → IsMarked marks n
  kept_on marks f here h = h
  kept_on marks f (further {n = n} {m = m} r step) h = f n m (kept_on marks f r h) step

  pub spreading_done : (marks : List Bool) (stack : List ℕ) → length stack ≡ 0 → IsSpreading rows these marks stack →
      AreReachedFrom rows these marks
  spreading_done marks (n ∷ stack) e k = absurd (omega arith)
  spreading_done marks [] e k = λ n. (
    k.sound n,
    λ r. kept_on marks (λ i m h step. ⊎_elim (λ on. absurd (none_of i on)) (λ shut. shut m step) (k.done i h)) r.2
        (k.first r.0 r.1),
  )
