-- A step back to the path joins parts.
-- Serves: on_cycle (marks)
use Rattle.std.proofs.Common.{◌≡◌, ◌⊎◌, ℕ, ◌<◌, ◌≤◌, true, List, [], ◌∷◌, ◌++◌, length, set, sym, subst, ⊎_elim, inl}
use Rattle.std.proofs.Common.{inr, arith, ◌∙◌}
use Rattle.std.proofs.lemmas.Bool.{cases_eq, cases_lt}
use Rattle.std.proofs.lemmas.List.{length-set}
use Rattle.std.proofs.lemmas.Option.{slice_get_within}
use Rattle.fixpoint.specs.Leads.{Leads}
use Rattle.fixpoint.specs.NumberMarks.{IsMarked}
use Rattle.fixpoint.specs.Way.{Way, At, IsSeen, to_done, to_later, to_same, to_ahead, IsKept, IsWay, IsOwing, IsSource}
use Rattle.fixpoint.specs.Way.{Joins, Meets}
use Rattle.fixpoint.specs.declared.cycles.Part.{Part}
use Rattle.fixpoint.specs.declared.cycles.SearchPosition.TheVariants as position
use Rattle.fixpoint.proofs.JoinsLemmas.{last_of}
use Rattle.fixpoint.proofs.LeadsLemmas.{leads_joined}
use Rattle.fixpoint.proofs.IsMarkedLemmas.{marked_here, marked_set, set_marked}
use Rattle.fixpoint.proofs.OpensLemmas.{all_lead, same_way}
use Rattle.fixpoint.proofs.AtLemmas.{at_one, at_append_left, at_append_cases, at_push, only_at}

module _ (rows : List (List ℕ)) (w : Way) (t p : ℕ) (parts' : List Part) where
  -- the way once t was met
  abbrev next : Way
  next = record { positions = w.positions; path = w.path; ahead = w.ahead; parts = parts'; marks = set w.marks t true }

  met_next : IsOwing rows w t → IsSource rows w t → At w.positions t (position.On p) →
      Joins p w.parts parts' → IsWay rows next
  met_next o source is_on joins = record {
    kept = record {
      positions = k.positions;
      marks = length-set w.marks t true ∙ k.marks;
      here = k.here;
      there = k.there;
      closed = k.closed;
      forth = k.forth;
      back = λ i j n m lt g h same. ⊎_elim
          (λ after. ⊎_elim
          (λ before. leads_joined rows (lead j m h)
          (k.back i p n t before g at_t (λ l s at below above. same l s (stays l s at above) below
          (omega (arith, above, after)))))
          (λ le. ⊎_elim
          (λ is. subst (λ v. Leads rows m v) (at_one w.path i t n (subst (λ v. At w.path v t) is at_t) g) (lead j m h))
          (λ ne. leads_joined rows (lead j m h) (k.forth p i t n (omega (arith, le, ne)) at_t g))
          (cases_eq p i))
          (cases_lt i p))
          (λ le. k.back i j n m lt g h (λ l s at below above. same l s
          (stays l s at (omega (arith, above, le))) below above))
          (cases_lt p j);
      from = λ a m h. let f = k.from a m h in
          record {
            position = f.position;
            number = f.number;
            at = f.at;
            step = f.step;
            part = λ l s at. f.part l s (was l s at);
          };
      covered = λ j n h. let c = k.covered j n h in ⊎_elim
          (λ low. (c.0, c.1, stays c.0 c.1 c.2 low, c.3))
          (λ high. let d = k.covered p t at_t in let below = d.3 in let above = c.3 in
          (d.0, d.1, stays d.0 d.1 d.2 below, omega (arith, high, below, above)))
          (low_or_high c.1);
      filled = λ l s at. k.filled l s (was l s at);
      short = λ l s at. k.short l s (was l s at);
      ascend = λ i j s u lt g h. k.ascend i j s u lt (was i s g) (was j u h);
      sound = λ n h. ⊎_elim (λ is. subst (λ v. Leads rows v v) (sym is) (lead p t at_t)) (λ old. k.sound n old)
          (set_marked w.marks t n h);
      whole = λ n h back. marked_set w.marks t n in_it (k.whole n h back);
    };
    seen = λ j n m h step. ⊎_elim
        (λ s. go j m s)
        (λ is. to_same p (subst (λ v. At w.path p v) (sym is) at_t)
        (subst (λ v. IsMarked next.marks v) (sym is) (marked_here w.marks t in_it))
        (λ l s at below above. let l = low l s at in omega (arith, l, below)))
        (o.seen j n m h step);
  }
    where
      k : IsKept rows w
      k = o.kept

      at_t : At w.path p t
      at_t = k.there p t is_on

      lead : (i n : ℕ) → At w.path i n → Leads rows n t
      lead = all_lead rows w t k source

      in_it : t < length w.marks
      in_it = let lt = slice_get_within w.positions t (position.On p) is_on in let e = k.positions in
          let f = k.marks in omega (arith, lt, e, f)

      was : (l : ℕ) (s : Part) → At parts' l s → At w.parts l s
      was l s at = subst (λ v. At v l s) (sym joins.drops.is) (at_append_left parts' joins.drops.gone l s at)

      stays : (l : ℕ) (s : Part) → At w.parts l s → s.first ≤ p → At parts' l s
      stays l s at le = ⊎_elim
          (λ old. old)
          (λ out. let lt = joins.drops.past out.0 s out.2 in absurd (omega (arith, lt, le)))
          (at_append_cases parts' joins.drops.gone l s (subst (λ v. At v l s) joins.drops.is at))

      low_or_high : (s : Part) → (s.first ≤ p) ⊎ (p < s.first)
      low_or_high s = ⊎_elim (λ lt. inr lt) (λ le. inl le) (cases_lt p s.first)

      low : (l : ℕ) (s : Part) → At parts' l s → s.first ≤ p
      low l s at =
          let e = last_of parts' l s at in
          let least = joins.last e.0 e.1 e.2 in
          let end : At parts' (length e.0) e.1 = subst (λ v. At v (length e.0) e.1) (sym e.2) (at_push e.0 e.1) in
          let size = slice_get_within parts' l s at in
          ⊎_elim
          (λ lt. let a = (k.ascend l (length e.0) s e.1 lt (was l s at) (was (length e.0) e.1 end)).0 in
          omega (arith, a, least))
          (λ le. at_the_end l s at e.0 e.1 e.2 le least)
          (cases_lt l (length e.0))
        where
          at_the_end : (l : ℕ) (s : Part) → At parts' l s → (ps : List Part) (x : Part) → parts' ≡ ps ++ x ∷ [] →
              length ps ≤ l → x.first ≤ p → s.first ≤ p
          at_the_end l s at ps x e le least = ⊎_elim
              (λ old. let lt = slice_get_within ps l s old in absurd (omega (arith, lt, le)))
              (λ new. subst (λ (v : Part). v.first ≤ p) (only_at x new.0 s new.2) least)
              (at_append_cases ps (x ∷ []) l s (subst (λ v. At v l s) e at))

      go : (j m : ℕ) → IsSeen rows w j m → IsSeen rows next j m
      go j m (to_done h) = to_done h
      go j m (to_later i h less) = to_later i h less
      go j m (to_same i h marked same) =
          to_same i h (marked_set w.marks t m in_it marked) (λ l s at. same l s (was l s at))
      go j m (to_ahead a h below) = to_ahead a h (λ l s at. below l s (was l s at))

  pub met_is_way : (w' : Way) → IsOwing rows w t → IsSource rows w t → At w.positions t (position.On p) → w'.parts
      ≡ parts' →
      Meets p t w w' → IsWay rows w'
  met_is_way w' o source is_on e m =
      same_way rows next.positions w'.positions next.path w'.path next.ahead w'.ahead next.parts w'.parts next.marks
      w'.marks
      m.positions m.path m.ahead e m.marks
      (met_next o source is_on (subst (λ v. Joins p w.parts v) e m.parts))

-- a step to what is done
pub skipped_is_way : (rows : List (List ℕ)) (w : Way) (t : ℕ) → IsOwing rows w t → At w.positions t position.Done
    → IsWay rows w
skipped_is_way rows w t o is_done = record {
  kept = o.kept;
  seen = λ j n m h step. ⊎_elim (λ s. s)
      (λ is. to_done (subst (λ v. At w.positions v position.Done) (sym is) is_done)) (o.seen j n m h step);
}
