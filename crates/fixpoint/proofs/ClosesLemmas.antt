-- The search ends the last part of its path.
-- Serves: on_cycle (marks)
use Rattle.std.proofs.Common.{◌≡◌, ◌⊎◌, ℕ, ◌+◌, ◌<◌, ◌≤◌, List, [], ◌∷◌, ◌++◌, length, take, drop, refl, sym, subst}
use Rattle.std.proofs.Common.{⊎_elim, inl, inr, arith, length-drop, ◌∙◌}
use Rattle.std.proofs.lemmas.Bool.{cases_eq, cases_lt}
use Rattle.std.proofs.lemmas.List.{length-take}
use Rattle.std.proofs.lemmas.Option.{slice_get_within}
use Rattle.fixpoint.specs.Leads.{Leads, one, more}
use Rattle.fixpoint.specs.NumberMarks.{IsMarked}
use Rattle.fixpoint.specs.StepRows.{Step}
use Rattle.fixpoint.specs.Way.{Way, At, AreOfOnePart, IsSeen, to_done, to_later, to_same, to_ahead, IsKept, IsWay}
use Rattle.fixpoint.specs.Way.{Closes}
use Rattle.fixpoint.specs.declared.cycles.Part.{Part}
use Rattle.fixpoint.specs.declared.cycles.SearchPosition.{SearchPosition}
use Rattle.fixpoint.specs.declared.cycles.SearchPosition.TheVariants as position
use Rattle.fixpoint.proofs.LeadsLemmas.{leads_joined}
use Rattle.fixpoint.proofs.OpensLemmas.{same_way}
use Rattle.fixpoint.proofs.AtLemmas.{at_one, at_append_left, at_push, at_push_cases, at_take, take_at, drop_in, in_drop}
use Rattle.fixpoint.proofs.AtLemmas.{at_some}

-- from the last part steps lead to what is done, or into it: later, or to what is marked
module _ (rows : List (List ℕ)) (w : Way) (parts' : List Part) (last : Part) (g : IsWay rows w)
    (split : w.parts ≡ parts' ++ last ∷ []) (none_ahead : length w.ahead ≤ last.rest) where
  leads_from : (j m : ℕ) → last.first ≤ j → IsSeen rows w j m →
      At w.positions m position.Done ⊎ ((i : ℕ) × (last.first ≤ i) × At w.path i m × ((j < i) ⊎ IsMarked w.marks m))
  leads_from j m le (to_done h) = inl h
  leads_from j m le (to_later i h less) = inr (i, omega (arith, le, less), h, inl less)
  leads_from j m le (to_same i h marked same) =
      inr (
        i,
        ⊎_elim (λ lt. absurd (same (length parts') last
            (subst (λ v. At v (length parts') last) (sym split) (at_push parts' last)) lt le)) (λ x. x)
            (cases_lt i last.first),
        h,
        inr marked,
      )
  leads_from j m le (to_ahead a h below) =
      let r = below (length parts') last
      (subst (λ v. At v (length parts') last) (sym split) (at_push parts' last)) le in
      let lt = slice_get_within w.ahead a m h in
      absurd (omega (arith, r, lt, none_ahead))

  -- from a number that is alone a step leads to what is done, unless it is marked
  pub last_step : (j n : ℕ) → last.first ≤ j → At w.path j n → length (drop last.first w.path) ≤ 1 → (m : ℕ) →
      Step rows n m → At w.positions m position.Done ⊎ IsMarked w.marks n
  last_step j n le h few m step = ⊎_elim
      (λ done. inl done)
      (λ on. let a = slice_get_within w.path j n h in
      let b = slice_get_within w.path on.0 m on.2 in
      let size = length-drop last.first w.path in
      let high = on.1 in
      let same : j ≡ on.0 = omega (arith, a, b, size, high, le, few) in
      ⊎_elim
      (λ lt. absurd (omega (arith, lt, same)))
      (λ marked. inr (subst (λ v. IsMarked w.marks v)
      (at_one w.path j m n (subst (λ v. At w.path v m) (sym same) on.2) h) marked))
      on.3)
      (leads_from j m le (g.seen j n m h step))

-- a chain whose first step leads to what is done stays with what is done
stays_in : (rows : List (List ℕ)) (positions : List SearchPosition) (P : Type 0) (n : ℕ) →
    ((k m : ℕ) → At positions k position.Done → Step rows k m → At positions m position.Done) →
    ((m : ℕ) → Step rows n m → At positions m position.Done ⊎ P) → (m : ℕ) → Leads rows n m
    → At positions m position.Done ⊎ P
stays_in rows positions P n closed first m (one step) = first m step
stays_in rows positions P n closed first m (more {n = z} chain step) =
    ⊎_elim (λ done. inl (closed z m done step)) (λ p. inr p) (stays_in rows positions P n closed first z chain)

module _ (rows : List (List ℕ)) (w : Way) (parts' : List Part) (last : Part) (w' : Way) where
  pub closed_is_way : IsWay rows w → w.parts ≡ parts' ++ last ∷ [] → length w.ahead ≤ last.rest → w'.parts ≡ parts' →
      Closes last.first (record w { parts = parts' }) w' → IsWay rows w'
  closed_is_way g split none_ahead e c =
      same_way rows w'.positions w'.positions
      (take f w.path) w'.path w.ahead w'.ahead parts' w'.parts w'.marks w'.marks refl c.path c.ahead e refl
      (record {
        kept = record {
          positions = c.positions.count ∙ k.positions;
          marks = ⊎_elim (λ many. (c.many many).count ∙ k.marks)
              (λ few. subst (λ v. length v ≡ length rows) (sym (c.few few)) k.marks)
              (cases_lt 1 (length (drop f w.path)));
          here = λ i n h. let b = take_at f w.path i n h in ⊎_elim
              (λ same. same)
              (λ shut. let d = in_drop f w.path n shut in
              let is = on_one n i d.0 (k.here i n b.1) (k.here d.0 n d.2) in let lt = b.0 in let le = d.1 in
              absurd (omega (arith, lt, le, is)))
              (c.positions.other n (position.On i) (k.here i n b.1));
          there = λ i n h. ⊎_elim
              (λ old. ⊎_elim
              (λ lt. at_take f w.path i n lt (k.there i n old))
              (λ le. absurd (not_done n i h (c.positions.all n (drop_in f w.path i n le (k.there i n old)))))
              (cases_lt i f))
              (λ new. let is : position.On i ≡ position.Done = new.1 in absurd (cc is))
              (c.positions.only n (position.On i) h);
          closed = λ n m h step. ⊎_elim
              (λ old. done_stays m (k.closed n m old step))
              (λ shut. let d = in_drop f w.path n shut.0 in ⊎_elim
              (λ done. done_stays m done)
              (λ on. c.positions.all m (drop_in f w.path on.0 m on.1 on.2))
              (leads_to d.0 n m d.1 d.2 step))
              (c.positions.only n position.Done h);
          forth = λ i j n m lt a b. k.forth i j n m lt (take_at f w.path i n a).1 (take_at f w.path j m b).1;
          back = λ i j n m lt a b same. let lower = (take_at f w.path j m b).0 in
              k.back i j n m lt (take_at f w.path i n a).1 (take_at f w.path j m b).1
              (λ l s at below above. ⊎_elim
              (λ old. same l s old below above)
              (λ new. let is : s.first ≡ f = subst (λ (v : Part). v.first ≡ f) (sym new.1) refl in
              omega (arith, is, above, lower))
              (parts_cases l s at));
          from = λ a m h. let o = k.from a m h in
              let lt = slice_get_within w.ahead a m h in
              let lower : o.position < f = ⊎_elim (λ x. x) (λ le. let r = (o.part (length parts') last the_last).0 le in
              absurd (omega (arith, r, lt, none_ahead))) (cases_lt o.position f) in
              record {
                position = o.position;
                number = o.number;
                at = at_take f w.path o.position o.number lower o.at;
                step = o.step;
                part = λ l s at. o.part l s (was l s at);
              };
          covered = λ j n h. let b = take_at f w.path j n h in let d = k.covered j n b.1 in ⊎_elim
              (λ old. (d.0, d.1, old, d.3))
              (λ new. let is : d.1.first ≡ f = subst (λ (v : Part). v.first ≡ f) (sym new.1) refl in let le = d.3 in
              let lt = b.0 in absurd (omega (arith, is, le, lt)))
              (parts_cases d.0 d.1 d.2);
          filled = λ l s at. let lt = (k.ascend l (length parts') s last (slice_get_within parts' l s at)
              (was l s at) the_last).0 in
              let size = length-take f w.path in let low = k.filled (length parts') last the_last in
              omega (arith, lt, size, low);
          short = λ l s at. k.short l s (was l s at);
          ascend = λ i j s u lt a b. k.ascend i j s u lt (was i s a) (was j u b);
          sound = λ n h. ⊎_elim
              (λ many. ⊎_elim
              (λ old. k.sound n old)
              (λ these. let d = in_drop f w.path n these in comes_back d.0 n d.1 d.2 many)
              ((c.many many).only n h))
              (λ few. k.sound n (subst (λ v. IsMarked v n) (c.few few) h))
              (cases_lt 1 (length (drop f w.path)));
          whole = λ n h back. ⊎_elim
              (λ old. marks_stay n (k.whole n old back))
              (λ these. let d = in_drop f w.path n these.0 in ⊎_elim
              (λ many. (c.many many).all n these.0)
              (λ few. marks_stay n (⊎_elim
              (λ done. absurd (not_both n d.0 (k.here d.0 n d.2) done))
              (λ marked. marked)
              (stays_in rows w.positions (IsMarked w.marks n) n k.closed
              (last_step rows w parts' last g split none_ahead d.0 n d.1 d.2 few) n back)))
              (cases_lt 1 (length (drop f w.path))))
              (c.positions.only n position.Done h);
        };
        seen = λ j n m h step. let b = take_at f w.path j n h in go j m b.0 (g.seen j n m b.1 step);
      })
    where
      k : IsKept rows w
      k = g.kept

      f : ℕ
      f = last.first

      the_last : At w.parts (length parts') last
      the_last = subst (λ v. At v (length parts') last) (sym split) (at_push parts' last)

      was : (l : ℕ) (s : Part) → At parts' l s → At w.parts l s
      was l s at = subst (λ v. At v l s) (sym split) (at_append_left parts' (last ∷ []) l s at)

      parts_cases : (l : ℕ) (s : Part) → At w.parts l s → At parts' l s ⊎ ((l ≡ length parts') × (s ≡ last))
      parts_cases l s at = at_push_cases parts' last l s (subst (λ v. At v l s) split at)

      latest : (l : ℕ) (s : Part) → At w.parts l s → s.first ≤ f
      latest l s at = ⊎_elim
          (λ old. let lt = (k.ascend l (length parts') s last (slice_get_within parts' l s old) at the_last).0 in
          omega (arith, lt))
          (λ new. let is : s.first ≡ f = subst (λ (v : Part). v.first ≡ f) (sym new.1) refl in omega (arith, is))
          (parts_cases l s at)

      on_one : (n i j : ℕ) → At w.positions n (position.On i) → At w.positions n (position.On j) → i ≡ j
      on_one n i j a b = let is = at_one w.positions n (position.On i) (position.On j) a b in cc is

      not_both : (n i : ℕ) → At w.positions n (position.On i) → At w.positions n position.Done → ⊥
      not_both n i a b = let is = at_one w.positions n (position.On i) position.Done a b in cc is

      not_done : (n i : ℕ) → At w'.positions n (position.On i) → At w'.positions n position.Done → ⊥
      not_done n i a b = let is = at_one w'.positions n (position.On i) position.Done a b in cc is

      done_stays : (n : ℕ) → At w.positions n position.Done → At w'.positions n position.Done
      done_stays n h = ⊎_elim (λ same. same) (λ these. c.positions.all n these) (c.positions.other n position.Done h)

      marks_stay : (n : ℕ) → IsMarked w.marks n → IsMarked w'.marks n
      marks_stay n h = ⊎_elim (λ many. (c.many many).kept n h) (λ few. subst (λ v. IsMarked v n) (sym (c.few few)) h)
          (cases_lt 1 (length (drop f w.path)))

      leads_to : (j n m : ℕ) → f ≤ j → At w.path j n → Step rows n m →
          At w.positions m position.Done ⊎ ((i : ℕ) × (f ≤ i) × At w.path i m)
      leads_to j n m le h step = ⊎_elim (λ done. inl done) (λ on. inr (on.0, on.1, on.2))
          (leads_from rows w parts' last g split none_ahead j m le (g.seen j n m h step))

      -- of several numbers each comes back by another
      comes_back : (i n : ℕ) → f ≤ i → At w.path i n → 1 < length (drop f w.path) → Leads rows n n
      comes_back i n le h many =
          let size = length-drop f w.path in
          ⊎_elim
          (λ is. let o = at_some w.path (f + 1) (omega (arith, size, many)) in
          by i (f + 1) n o.0 (omega (arith, is)) le h o.1)
          (λ ne. let o = at_some w.path f (omega (arith, size, many)) in
          back_by f i o.0 n (omega (arith, le, ne)) (omega arith) o.1 h)
          (cases_eq i f)
        where
          one_part : (i j : ℕ) → f ≤ i → AreOfOnePart w.parts i j
          one_part i j le l s at below above = let low = latest l s at in omega (arith, low, below, le)

          by : (i j n m : ℕ) → i < j → f ≤ i → At w.path i n → At w.path j m → Leads rows n n
          by i j n m lt le a b = leads_joined rows (k.forth i j n m lt a b) (k.back i j n m lt a b (one_part i j le))

          back_by : (i j n m : ℕ) → i < j → f ≤ i → At w.path i n → At w.path j m → Leads rows m m
          back_by i j n m lt le a b =
              leads_joined rows (k.back i j n m lt a b (one_part i j le)) (k.forth i j n m lt a b)

      go : (j m : ℕ) → j < f → IsSeen rows w j m →
          IsSeen rows (record {
            positions = w'.positions;
            path = take f w.path;
            ahead = w.ahead;
            parts = parts';
            marks = w'.marks;
          }) j m
      go j m lt (to_done h) = to_done (done_stays m h)
      go j m lt (to_later i h less) =
          ⊎_elim (λ low. to_later i (at_take f w.path i m low h) less)
          (λ le. to_done (c.positions.all m (drop_in f w.path i m le h))) (cases_lt i f)
      go j m lt (to_same i h marked same) = ⊎_elim
          (λ low. to_same i (at_take f w.path i m low h) (marks_stay m marked) (λ l s at. same l s (was l s at)))
          (λ le. to_done (c.positions.all m (drop_in f w.path i m le h)))
          (cases_lt i f)
      go j m lt (to_ahead a h below) = to_ahead a h (λ l s at. below l s (was l s at))
