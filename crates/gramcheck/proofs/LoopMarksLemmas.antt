-- Marks of repetitions of nullable expressions, operands first.
-- Serves: check_peg
use Rattle.std.proofs.Common.{◌≡◌, ◌↔◌, ℕ, ◌+◌, ◌<◌, ◌≤◌, Bool, true, false, List, [], ◌∷◌, ◌++◌, length, get_or}
use Rattle.std.proofs.Common.{Contains, refl, sym, subst, arith, ⊎_elim, inl, inr, ◌∙◌, Some, length-append}
use Rattle.std.specs.Prelude.{slice_get}
use Rattle.std.proofs.lemmas.Bool.{cases_lt}
use Rattle.std.proofs.lemmas.List.{get_or_at, get_or_append_left}
use Rattle.std.proofs.lemmas.Option.{slice_get_within}
use Rattle.pegread.specs.Pattern.{Pattern, Patterns, Rule}
use Rattle.pegnodes.specs.Bodies.{IsBuilt, IsOperand}
use Rattle.gramcheck.specs.Left.{RepeatsNullable, loop_star, loop_plus, in_star, in_plus, in_opt, in_and, in_not}
use Rattle.gramcheck.specs.Left.{in_seq, in_choice, SomeRepeats, repeats_first, repeats_later}
use Rattle.gramcheck.specs.Loops.{LoopsNow, LoopsTo, AreLoopMarks}
use Rattle.fixpoint.specs.NumberMarks.{IsMarked}
use Rattle.pegnodes.specs.Nodes as node
use Rattle.pegnodes.specs.Nodes.{Shape, Spells, spells_any, spells_bytes, spells_set, spells_name, spells_seq}
use Rattle.pegnodes.specs.Nodes.{spells_choice, spells_star, spells_plus, spells_opt, spells_and, spells_not}
use Rattle.pegnodes.specs.Nodes.{spells_act, spells_open, spells_close, SpellAll, spell_none, spell_more}
use Rattle.gramcheck.specs.Nulls.{AreNullMarks}
use Rattle.fixpoint.proofs.ContainsLemmas.{none_of, in_first, in_later, cons_cases}

-- what marks say of a node is said by marks that agree on its operands
marks_moved : (nulls a b : List Bool) (v : Shape) → ((m : ℕ) → IsOperand v m → IsMarked a m → IsMarked b m)
    → LoopsNow nulls a v → LoopsNow nulls b v
marks_moved nulls a b node.Any f h = h
marks_moved nulls a b (node.Bytes bs) f h = h
marks_moved nulls a b (node.Set s) f h = h
marks_moved nulls a b (node.Name id) f h = h
marks_moved nulls a b (node.Seq ms) f h = (h.0, h.1, f h.0 h.1 h.2)
marks_moved nulls a b (node.Choice ms) f h = (h.0, h.1, f h.0 h.1 h.2)
marks_moved nulls a b (node.Star m) f h = ⊎_elim (λ z. inl z) (λ k. inr (f m refl k)) h
marks_moved nulls a b (node.Plus m k) f h = ⊎_elim (λ z. inl z) (λ k. inr (f m refl k)) h
marks_moved nulls a b (node.Opt m) f h = f m refl h
marks_moved nulls a b (node.And m) f h = f m refl h
marks_moved nulls a b (node.Not m) f h = f m refl h
marks_moved nulls a b (node.Act t) f h = h
marks_moved nulls a b node.Open f h = h
marks_moved nulls a b node.Close f h = h

pub loops_next : (nodes : List Shape) (nulls marks : List Bool) (i : ℕ) (a : Shape) (c : Bool) → IsBuilt nodes
    → LoopsTo nodes nulls marks i → slice_get nodes i ≡ Some a →
    ((c ≡ true) ↔ LoopsNow nulls marks a) → LoopsTo nodes nulls (marks ++ c ∷ []) (i + 1)
loops_next nodes nulls marks i a c built g at test = record {
  count = let l = length-append marks (c ∷ []) in let k = g.count in omega (arith, l, k);
  sound = λ n b low h d. ⊎_elim
      (λ lt. longer n b (omega (arith, lt)) h (g.sound n b lt h (sym (old n lt) ∙ d)))
      (λ le.
      let here : n ≡ i = omega (arith, low, le) in
      let same : a ≡ b = cc (subst (λ v. slice_get nodes v ≡ Some b) here h, at) in
      longer n b (omega (arith, here)) h (subst (λ v. LoopsNow nulls marks v) same
      (test.0 (sym new ∙ subst (λ v. IsMarked (marks ++ c ∷ []) v) here d))))
      (cases_lt n i);
  whole = λ n b low h d. ⊎_elim
      (λ lt. old n lt ∙ g.whole n b lt h (shorter n b (omega (arith, lt)) h d))
      (λ le.
      let here : n ≡ i = omega (arith, low, le) in
      let same : b ≡ a = cc (subst (λ v. slice_get nodes v ≡ Some b) here h, at) in
      let now = shorter n b (omega (arith, here)) h d in
      subst (λ v. IsMarked (marks ++ c ∷ []) v) (sym here)
      (new ∙ test.1 (subst (λ v. LoopsNow nulls marks v) same now)))
      (cases_lt n i);
}
  where
    old : (m : ℕ) → m < i → get_or (marks ++ c ∷ []) m false ≡ get_or marks m false
    old m lt = let k = g.count in get_or_append_left marks (c ∷ []) false m (omega (arith, lt, k))

    new : get_or (marks ++ c ∷ []) i false ≡ c
    new = get_or_at marks c [] false i g.count

    longer : (n : ℕ) (b : Shape) → n ≤ i → slice_get nodes n ≡ Some b → LoopsNow nulls marks b
        → LoopsNow nulls (marks ++ c ∷ []) b
    longer n b le h d = marks_moved nulls marks (marks ++ c ∷ []) b (λ m o k. let lt = built.after n m b h o in
        old m (omega (arith, lt, le)) ∙ k) d

    shorter : (n : ℕ) (b : Shape) → n ≤ i → slice_get nodes n ≡ Some b → LoopsNow nulls (marks ++ c ∷ []) b
        → LoopsNow nulls marks b
    shorter n b le h d = marks_moved nulls (marks ++ c ∷ []) marks b (λ m o k. let lt = built.after n m b h o in
        sym (old m (omega (arith, lt, le))) ∙ k) d

module _ (nodes : List Shape) (nulls marks : List Bool) (i : ℕ) (all : i ≡ length nodes)
    (g : LoopsTo nodes nulls marks i) where
  pub sound_at : (n : ℕ) (a : Shape) → slice_get nodes n ≡ Some a → IsMarked marks n → LoopsNow nulls marks a
  sound_at n a h d = let lt = slice_get_within nodes n a h in g.sound n a (omega (arith, lt, all)) h d

  pub whole_at : (n : ℕ) (a : Shape) → slice_get nodes n ≡ Some a → LoopsNow nulls marks a → IsMarked marks n
  whole_at n a h d = let lt = slice_get_within nodes n a h in g.whole n a (omega (arith, lt, all)) h d

  module _ (rules : List Rule) (marked : AreNullMarks rules nodes nulls) where
    mutual
      mark_holds : {n : ℕ} {p : Pattern} → Spells rules nodes n p → IsMarked marks n → RepeatsNullable rules p
      mark_holds (spells_any {n = n} h) d = absurd (sound_at n node.Any h d)
      mark_holds (spells_bytes {n = n} {bs = bs} h) d = absurd (sound_at n (node.Bytes bs) h d)
      mark_holds (spells_set {n = n} {s = s} h) d = absurd (sound_at n (node.Set s) h d)
      mark_holds (spells_name {n = n} h) d = absurd (sound_at n (node.Name _) h d)
      mark_holds (spells_seq {n = n} {ms = ms} h ss) d = let k = sound_at n (node.Seq ms) h d in
          in_seq (some_holds ss k.0 k.1 k.2)
      mark_holds (spells_choice {n = n} {ms = ms} h ss) d = let k = sound_at n (node.Choice ms) h d in
          in_choice (some_holds ss k.0 k.1 k.2)
      mark_holds (spells_star {n = n} {m = m} {p = p} h s) d = let rest = mark_holds s in
          ⊎_elim (λ z. loop_star (marked.sound m p s z)) (λ k. in_star (rest k)) (sound_at n (node.Star m) h d)
      mark_holds (spells_plus {n = n} {m = m} {k = k} {p = p} h s a) d = let rest = mark_holds s in
          ⊎_elim (λ z. loop_plus (marked.sound m p s z)) (λ z. in_plus (rest z)) (sound_at n (node.Plus m k) h d)
      mark_holds (spells_opt {n = n} {m = m} h s) d = in_opt (mark_holds s (sound_at n (node.Opt m) h d))
      mark_holds (spells_and {n = n} {m = m} h s) d = in_and (mark_holds s (sound_at n (node.And m) h d))
      mark_holds (spells_not {n = n} {m = m} h s) d = in_not (mark_holds s (sound_at n (node.Not m) h d))
      mark_holds (spells_act {n = n} {t = t} h) d = absurd (sound_at n (node.Act t) h d)
      mark_holds (spells_open {n = n} h) d = absurd (sound_at n node.Open h d)
      mark_holds (spells_close {n = n} h) d = absurd (sound_at n node.Close h d)

      some_holds : {ms : List ℕ} {ps : Patterns} → SpellAll rules nodes ms ps → (m : ℕ) → Contains ms m
          → IsMarked marks m → SomeRepeats rules ps
      some_holds spell_none m h d = absurd (none_of m h)
      some_holds (spell_more {n = n} {ns = ns} s ss) m h d =
          ⊎_elim (λ is. repeats_first (mark_holds s (subst (λ v. IsMarked marks v) (sym is) d)))
          (λ k. repeats_later (some_holds ss m k d)) (cons_cases n m ns h)

    mutual
      marks_it : {p : Pattern} → RepeatsNullable rules p → (n : ℕ) → Spells rules nodes n p → IsMarked marks n
      marks_it (loop_star z) n (spells_star {m = m} {p = p} h s) =
          whole_at n (node.Star m) h (inl (marked.whole m p s z))
      marks_it (loop_plus z) n (spells_plus {m = m} {k = k} {p = p} h s a) =
          whole_at n (node.Plus m k) h (inl (marked.whole m p s z))
      marks_it (in_star d) n (spells_star {m = m} h s) = whole_at n (node.Star m) h (inr (marks_it d m s))
      marks_it (in_plus d) n (spells_plus {m = m} {k = k} h s a) = whole_at n (node.Plus m k) h (inr (marks_it d m s))
      marks_it (in_opt d) n (spells_opt {m = m} h s) = whole_at n (node.Opt m) h (marks_it d m s)
      marks_it (in_and d) n (spells_and {m = m} h s) = whole_at n (node.And m) h (marks_it d m s)
      marks_it (in_not d) n (spells_not {m = m} h s) = whole_at n (node.Not m) h (marks_it d m s)
      marks_it (in_seq ds) n (spells_seq {ms = ms} h ss) = whole_at n (node.Seq ms) h (marks_one ds ms ss)
      marks_it (in_choice ds) n (spells_choice {ms = ms} h ss) = whole_at n (node.Choice ms) h (marks_one ds ms ss)

      marks_one : {ps : Patterns} → SomeRepeats rules ps → (ms : List ℕ) → SpellAll rules nodes ms ps → (m : ℕ)
          × Contains ms m × IsMarked marks m
      marks_one (repeats_first d) ms (spell_more {n = n} {ns = ns} s ss) = (n, in_first n ns, marks_it d n s)
      marks_one (repeats_later ds) ms (spell_more {n = n} {ns = ns} s ss) = let m = marks_one ds ns ss in
          (m.0, in_later n m.0 ns m.1, m.2)

    pub loop_marks : AreLoopMarks rules nodes marks
    loop_marks = record { sound = λ n p s d. mark_holds s d; whole = λ n p s d. marks_it d n s }
