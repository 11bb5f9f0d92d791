-- The names that reach one without a rule, or prose, and the rules by which lines could be judged.
-- Serves: sound_rules
use Rattle.std.proofs.Common.{◌≡◌, ℕ, ◌+◌, ◌<◌, ◌≤◌, inl, ⊎_elim, Bool, true, false, not, List, []}
use Rattle.std.proofs.Common.{◌∷◌, ◌++◌, length, map, take, get_or, Option, Some, refl, sym, ◌∙◌, ap, subst, arith}
use Rattle.std.specs.Prelude.{slice_get, slice_index_or, Contains}
use Rattle.std.proofs.lemmas.Bool.{cases_eq, cases_lt}
use Rattle.std.proofs.lemmas.List.{length-append, length-map, length-take, get_or-take, get_or_past}
use Rattle.std.proofs.lemmas.Option.{slice_get_within}
use Rattle.fixpoint.specs.Demands.{Demand, All, One, row_of, AreNeedsWithin}
use Rattle.fixpoint.specs.Least.{Comes, by_all, by_one, AreMarksOfThose}
use Rattle.fixpoint.specs.Reach.{Reaches, here as start, further}
use Rattle.fixpoint.specs.StepRows.{Step, row_at, AreStepsWithin}
use Rattle.fixpoint.proofs.AtLemmas.{at_append_left, at_push}
use Rattle.fixpoint.proofs.ContainsLemmas.{none_of}
use Rattle.fixpoint.specs.IdMarks.{AreMarks}
use Rattle.fixpoint.proofs.AreMarksLemmas.{marks-opposite}
use Rattle.abnfread.specs.Element.{Rule, id_of}
use Rattle.abnfcheck.specs.AbnfGrammar.{Reachable, judged_rule, by_name, IsSound}
use Rattle.abnfcheck.specs.AbnfNotes.{AreOthersRefused, IsRefused, by_prose}
use Rattle.abnfcheck.specs.AbnfNotes as n
use Rattle.abnfcheck.specs.BrokenNeeds.{AreBrokenNeeds, AreBrokenNeedsTo, broken_demand}
use Rattle.abnfcheck.specs.NameIds.{IsIdAt, IsGraph}
use Rattle.abnfcheck.specs.ProseIn.{prose_in, prose_marks}
use Rattle.abnfcheck.proofs.GraphLemmas.{step_use, uses_for, id_at, user_below, steps_within, rows_long, body_below}
use Rattle.abnfcheck.proofs.GraphLemmas.{marked_prose, prose_marked}

-- one more need
pub needs_next : (rows : List (List ℕ)) (prose : List Bool) (needs : List Demand) (i : ℕ) (need : Demand)
    → AreBrokenNeedsTo rows prose needs i → need ≡ broken_demand (slice_index_or prose i true) (row_at rows i) →
    AreBrokenNeedsTo rows prose (needs ++ need ∷ []) (i + 1)
needs_next rows prose needs i need are is = record {
  count_is = length-append needs (need ∷ []) ∙ ap (λ (k : ℕ). k + 1) are.count_is;
  needs_are = λ n lt. ⊎_elim
      (λ same. subst (λ v. slice_get (needs ++ need ∷ []) v
      ≡ Some (broken_demand (slice_index_or prose v true) (row_at rows v))) (sym same)
      (ap (λ v. slice_get (needs ++ need ∷ []) v) (sym are.count_is) ∙ at_push needs need ∙ ap Some is))
      (λ ne. at_append_left needs (need ∷ []) n _ (are.needs_are n (omega (arith, lt, ne))))
      (cases_eq n i);
}

module _ (rows : List (List ℕ)) (prose : List Bool) (needs : List Demand) (are : AreBrokenNeeds rows prose needs) where
  need_at : (n : ℕ) (need : Demand) → slice_get needs n ≡ Some need
      → need ≡ broken_demand (slice_index_or prose n true) (row_at rows n)
  need_at n need at = let lt : n < length rows = (let l = slice_get_within needs n need at in let k = are.count_is in
      omega (arith, l, k)) in let is = are.needs_are n lt in cc (at, is)

  pub needs_within : AreStepsWithin rows → AreNeedsWithin needs
  needs_within steps = record {
    within = λ n m need at h.
        let lt = steps.within n m (from n m need (slice_index_or prose n true) (need_at n need at) h) in
        let k = are.count_is in omega (arith, lt, k);
  }
    where
      from : (n m : ℕ) (need : Demand) (b : Bool) → need ≡ broken_demand b (row_at rows n) → Contains (row_of need) m
          → Step rows n m
      from n m need true is h = absurd (none_of m (subst (λ v. Contains (row_of v) m) is h))
      from n m need false is h = subst (λ v. Contains (row_of v) m) is h

  -- a name that is broken by itself
  record ReachesBad (n : ℕ) : Type 0 where
    pub bad : ℕ
    pub reaches : Reaches rows n bad
    pub broken : slice_index_or prose bad true ≡ true

  reaches_before : {n m b : ℕ} → Step rows n m → Reaches rows m b → Reaches rows n b
  reaches_before step start = further start step
  reaches_before step (further r last) = further (reaches_before step r) last

  all_breaks : (n : ℕ) (row : List ℕ) (b : Bool) → slice_get needs n ≡ Some (All row)
      → slice_index_or prose n true ≡ b → slice_index_or prose n true ≡ true
  all_breaks n row true at is = is
  all_breaks n row false at is =
      let d = need_at n (All row) at in
      let one : broken_demand (slice_index_or prose n true) (row_at rows n) ≡ One (row_at rows n) = rw is refl in
      absurd (cc (d, one))

  one_names : (n m : ℕ) (row : List ℕ) (b : Bool) → slice_get needs n ≡ Some (One row) → Contains row m
      → slice_index_or prose n true ≡ b → ReachesBad m → ReachesBad n
  one_names n m row true at h is old = record { bad = n; reaches = start; broken = is }
  one_names n m row false at h is old =
      let d = need_at n (One row) at in
      let one : broken_demand (slice_index_or prose n true) (row_at rows n) ≡ One (row_at rows n) = rw is refl in
      let same : row ≡ row_at rows n = cc (d, one) in
      record {
        bad = old.bad;
        reaches = reaches_before (subst (λ v. Contains v m) same h) old.reaches;
        broken = old.broken;
      }

  comes_reaches : {n : ℕ} → Comes needs n → ReachesBad n
  comes_reaches (by_all {n = n} {row = row} at each) =
      record { bad = n; reaches = start; broken = all_breaks n row (slice_index_or prose n true) at refl }
  comes_reaches (by_one {n = n} {m = m} {row = row} at h c) =
      one_names n m row (slice_index_or prose n true) at h refl (comes_reaches c)

  bad_comes : (n : ℕ) → n < length rows → slice_index_or prose n true ≡ true → Comes needs n
  bad_comes n lt is =
      let all : broken_demand (slice_index_or prose n true) (row_at rows n) ≡ All [] = rw is refl in
      by_all (are.needs_are n lt ∙ ap Some all) (λ m h. absurd (none_of m h))

  step_comes : (n m : ℕ) (b : Bool) → n < length rows → slice_index_or prose n true ≡ b → Step rows n m
      → Comes needs m → Comes needs n
  step_comes n m true lt is step c = bad_comes n lt is
  step_comes n m false lt is step c =
      let one : broken_demand (slice_index_or prose n true) (row_at rows n) ≡ One (row_at rows n) = rw is refl in
      by_one (are.needs_are n lt ∙ ap Some one) step c

  has_row : (n m : ℕ) → Step rows n m → n < length rows
  has_row n m step = ⊎_elim (λ lt. lt)
      (λ le. absurd (none_of m (subst (λ v. Contains v m) (get_or_past rows n [] le) step)))
      (cases_lt n (length rows))

  reaches_comes : {n m : ℕ} → Reaches rows n m → Comes needs m → Comes needs n
  reaches_comes start c = c
  reaches_comes (further {n = k} {m = m} r step) c =
      reaches_comes r (step_comes k m (slice_index_or prose k true) (has_row k m step) refl step c)

-- what chains of steps from a rule reach is what can be reached from it
module _ (rules : List Rule) (given : Option (List ℕ)) (names : List (List ℕ)) (rows : List (List ℕ)) (judged : ℕ)
    (graph : IsGraph rules given names rows judged) (s : ℕ) (lt : s < length rules) where
  pub record ReachedFrom (m : ℕ) : Type 0 where
    pub id : ℕ
    pub is : IsIdAt (length rules) m id
    pub reachable : Reachable rules s id

  pub reached_from : {m : ℕ} → Reaches rows s m → ReachedFrom m
  reached_from start = record { id = s; is = inl (lt, refl); reachable = judged_rule }
  reached_from (further {n = n} {m = m} r step) =
      let old = reached_from r in
      let u = step_use rules given names rows judged graph n m step in
      let below = user_below rules given names rows judged graph n m step in
      let same : old.id ≡ n = ⊎_elim (λ low. low.1) (λ high. absurd (let le = high.0 in omega (arith, below, le)))
      old.is in
      record {
        id = id_of rules u.name;
        is = id_at rules given names rows judged graph u.position_is;
        reachable = by_name (subst (λ v. Reachable rules s v) same old.reachable) u.body_is u.within;
      }

  pub record ReachedAt (id : ℕ) : Type 0 where
    pub position : ℕ
    pub is : IsIdAt (length rules) position id
    pub reaches : Reaches rows s position

  pub reached_at : {id : ℕ} → Reachable rules s id → ReachedAt id
  reached_at judged_rule = record { position = s; is = inl (lt, refl); reaches = start }
  reached_at (by_name {id = user} {body = body} {name = name} r at within) =
      let old = reached_at r in
      let below = body_below rules user body at in
      let same : old.position ≡ user = ⊎_elim (λ low. sym low.1)
      (λ high. absurd (let is = high.1 in omega (arith, below, is))) old.is in
      let t = uses_for rules given names rows judged graph user body name at within in
      record {
        position = t.target;
        is = t.is;
        reaches = further (subst (λ v. Reaches rows s v) same old.reaches) t.step;
      }

  module _ (needs : List Demand) (are : AreBrokenNeeds rows (prose_marks rules) needs) where
    comes_unsound : Comes needs s → IsSound rules s → ⊥
    comes_unsound c sound =
        let b = comes_reaches rows (prose_marks rules) needs are c in
        let r = reached_from b.reaches in
        ⊎_elim
        (λ low. let h = marked_prose rules b.bad true low.0 b.broken in
        sound.plain b.bad h.body h.text (subst (λ v. Reachable rules s v) low.1 r.reachable) h.body_is h.within)
        (λ high. let below = sound.defined r.id r.reachable in let is = high.1 in omega (arith, below, is))
        r.is

    comes_refused : Comes needs s → (file : List Rule) (again : List ℕ) → IsRefused file rules again s
    comes_refused c file again =
        let b = comes_reaches rows (prose_marks rules) needs are c in
        let r = reached_from b.reaches in
        ⊎_elim
        (λ low. by_prose (subst (λ v. Reachable rules s v) low.1 r.reachable)
        (marked_prose rules b.bad true low.0 b.broken))
        (λ high. n.by_name (subst (λ v. Reachable rules s v) high.1 r.reachable)) r.is

    position_comes : (position : ℕ) → Reaches rows s position → position < length rows
        → slice_index_or (prose_marks rules) position true ≡ true → Comes needs s
    position_comes position r below is = reaches_comes rows (prose_marks rules) needs are r
        (bad_comes rows (prose_marks rules) needs are position below is)

    target_below : {m : ℕ} → Reaches rows s m → m < length rows
    target_below start = let long = rows_long rules given names rows judged graph in omega (arith, lt, long)
    target_below (further {n = n} {m = m} r step) =
        (steps_within rules given names rows judged graph).within n m step

    no_rule_marked : (position : ℕ) → length rules ≤ position → slice_index_or (prose_marks rules) position true ≡ true
    no_rule_marked position le = get_or_past (prose_marks rules) position true
        (let l = length-map rules (λ (rule : Rule). prose_in rule.body) in omega (arith, l, le))

    sound_unless_comes : (Comes needs s → ⊥) → IsSound rules s
    sound_unless_comes never = record {
      judged_is_rule = lt;
      defined = λ id r. ⊎_elim (λ below. below) (λ le.
          let b = reached_at r in
          let past : length rules ≤ b.position = ⊎_elim
          (λ low. absurd (let under = low.0 in let is = low.1 in omega (arith, under, is, le))) (λ high. high.0)
          b.is in
          absurd (never (position_comes b.position b.reaches (target_below b.reaches)
          (no_rule_marked b.position past))))
          (cases_lt id (length rules));
      plain = λ id body text r at within.
          let b = reached_at r in
          let below = body_below rules id body at in
          let same : b.position ≡ id = ⊎_elim (λ low. sym low.1)
          (λ high. absurd (let is = high.1 in omega (arith, below, is))) b.is in
          never (position_comes b.position b.reaches (target_below b.reaches)
          (ap (λ v. slice_index_or (prose_marks rules) v true) same
          ∙ prose_marked rules id true (record { body = body; text = text; body_is = at; within = within })));
    }

-- the marks
not_set : (b : Bool) → not b ≡ true → b ≡ true → ⊥
not_set true h g = absurd (cc h)
not_set false h g = absurd (cc g)

set_not : (b : Bool) → (b ≡ true → ⊥) → not b ≡ true
set_not true h = absurd (h refl)
set_not false h = refl

not_unset : (b : Bool) → (not b ≡ true → ⊥) → b ≡ true
not_unset true h = refl
not_unset false h = absurd (h refl)

module _ (rules : List Rule) (given : Option (List ℕ)) (names : List (List ℕ)) (rows : List (List ℕ))
    (judged : ℕ) (graph : IsGraph rules given names rows judged) (needs : List Demand) (broken : List Bool) (n : ℕ)
    (are : AreBrokenNeeds rows (prose_marks rules) needs) (marks : AreMarksOfThose needs broken)
    (count : length broken ≡ length needs) (same : n ≡ length rules) where
  count_of : length (take n broken) ≡ length rules
  count_of =
      let l = length-take n broken in
      let k = are.count_is in
      let long = rows_long rules given names rows judged graph in
      omega (arith, l, k, long, count, same)

  mark_at : (id : ℕ) → id < length rules → get_or (map not (take n broken)) id false ≡ not (get_or broken id false)
  mark_at id lt = marks-opposite (take n broken) id (let l = count_of in omega (arith, lt, l))
      ∙ ap not (get_or-take n broken id false (omega (arith, lt, same)))

  pub sound_marks : AreMarks (IsSound rules) (length rules) (map not (take n broken))
  sound_marks = record {
    count_is = length-map (take n broken) not ∙ count_of;
    exact = λ id lt. (
      (λ on. sound_unless_comes rules given names rows judged graph id lt needs are
          (λ c. not_set (get_or broken id false) (sym (mark_at id lt) ∙ on) ((marks id).1 c))),
      (λ sound. mark_at id lt ∙ set_not (get_or broken id false)
          (λ on. comes_unsound rules given names rows judged graph id lt needs are ((marks id).0 on) sound)),
    );
  }

  pub others_refused : AreOthersRefused rules (map not (take n broken))
  others_refused id lt off file again =
      let on = not_unset (get_or broken id false) (λ is. off (mark_at id lt ∙ is)) in
      comes_refused rules given names rows judged graph id lt needs are ((marks id).0 on) file again
