-- A number appended to the path.
-- Serves: on_cycle (marks)
use Rattle.std.proofs.Common.{◌≡◌, ◌≢◌, ◌⊎◌, ℕ, ◌+◌, ◌<◌, ◌≤◌, Bool, List, [], ◌∷◌, ◌++◌, length, set, sym, ap, subst}
use Rattle.std.proofs.Common.{⊎_elim, inl, inr, arith, length-append}
use Rattle.std.proofs.lemmas.Bool.{cases_eq, cases_lt}
use Rattle.std.proofs.lemmas.List.{length-set}
use Rattle.std.proofs.lemmas.Option.{slice_get_within}
use Rattle.fixpoint.proofs.ContainsLemmas.{get_in, in_get}
use Rattle.fixpoint.specs.Leads.{Leads, one, more}
use Rattle.fixpoint.specs.StepRows.{Step, row_at}
use Rattle.fixpoint.specs.Way.{Way, At, IsSeen, to_done, to_later, to_same, to_ahead, IsKept, IsWay, IsOwing, IsSource}
use Rattle.fixpoint.specs.Way.{Opens}
use Rattle.fixpoint.specs.declared.cycles.Part.{Part}
use Rattle.fixpoint.specs.declared.cycles.SearchPosition.{SearchPosition}
use Rattle.fixpoint.specs.declared.cycles.SearchPosition.TheVariants as position
use Rattle.fixpoint.proofs.AtLemmas.{at_one, at_append_left, at_append_right, at_append_cases, at_push, at_push_cases}
use Rattle.fixpoint.proofs.AtLemmas.{set_same, set_other, set_cases}

module _ (rows : List (List ℕ)) where
  pub same_way : (p p' : List SearchPosition) (h h' a a' : List ℕ) (q q' : List Part) (m m' : List Bool) → p' ≡ p
      → h' ≡ h →
      a' ≡ a → q' ≡ q → m' ≡ m →
      IsWay rows (record { positions = p; path = h; ahead = a; parts = q; marks = m }) →
      IsWay rows (record { positions = p'; path = h'; ahead = a'; parts = q'; marks = m' })
  same_way p p' h h' a a' q q' m m' e f g i j k = rw (e, f, g, i, j) k

  -- what was ahead at last has a source in the last part
  pub source_of : (w : Way) (t : ℕ) → IsWay rows (record w { ahead = w.ahead ++ t ∷ [] }) →
      ((k : ℕ) (s : Part) → At w.parts k s → s.rest ≤ length w.ahead) → IsSource rows w t
  source_of w t g short =
      let f = g.kept.from (length w.ahead) t (at_push w.ahead t) in
      record {
        position = f.position;
        number = f.number;
        at = f.at;
        step = f.step;
        last = λ k s h. (f.part k s h).1 (short k s h);
      }

  -- what was ahead at last is owed once it is taken
  pub owing_of : (w : Way) (t : ℕ) → IsWay rows (record w { ahead = w.ahead ++ t ∷ [] }) →
      ((k : ℕ) (s : Part) → At w.parts k s → s.rest ≤ length w.ahead) → IsOwing rows w t
  owing_of w t g short = record {
    kept = record {
      positions = g.kept.positions;
      marks = g.kept.marks;
      here = g.kept.here;
      there = g.kept.there;
      closed = g.kept.closed;
      forth = g.kept.forth;
      back = g.kept.back;
      from = λ a m h. let f = g.kept.from a m (at_append_left w.ahead (t ∷ []) a m h) in
          record { position = f.position; number = f.number; at = f.at; step = f.step; part = f.part };
      covered = g.kept.covered;
      filled = g.kept.filled;
      short = short;
      ascend = g.kept.ascend;
      sound = g.kept.sound;
      whole = g.kept.whole;
    };
    seen = λ j n m h step. lift j m (g.seen j n m h step);
  }
    where
      lift : (j m : ℕ) → IsSeen rows (record w { ahead = w.ahead ++ t ∷ [] }) j m → IsSeen rows w j m ⊎ (m ≡ t)
      lift j m (to_done h) = inl (to_done h)
      lift j m (to_later i h lt) = inl (to_later i h lt)
      lift j m (to_same i h marked same) = inl (to_same i h marked same)
      lift j m (to_ahead a h below) =
          ⊎_elim (λ old. inl (to_ahead a old below)) (λ new. inr new.1) (at_push_cases w.ahead t a m h)

  -- where nothing is owed, nothing is
  pub owing_none : (w : Way) (t : ℕ) → IsWay rows w → IsOwing rows w t
  owing_none w t g = record { kept = g.kept; seen = λ j n m h step. inl (g.seen j n m h step) }

  -- all of the path leads to what the last part leads to
  pub all_lead : (w : Way) (t : ℕ) → IsKept rows w → IsSource rows w t → (i n : ℕ) → At w.path i n → Leads rows n t
  all_lead w t k s i n h = ⊎_elim
      (λ lt. more (k.forth i s.position n s.number lt h s.at) s.step)
      (λ le. ⊎_elim
      (λ is. one (subst (λ v. Step rows v t)
      (at_one w.path i s.number n (subst (λ v. At w.path v s.number) (sym is) s.at) h) s.step))
      (λ ne. more (k.back s.position i s.number n (omega (arith, le, ne)) s.at h
      (λ l q at below above. let low = s.last l q at in omega (arith, low, below))) s.step)
      (cases_eq i s.position))
      (cases_lt i s.position)

  module _ (w : Way) (t : ℕ) where
    -- the way once t is opened
    abbrev next : Way
    next = record {
      positions = set w.positions t (position.On (length w.path));
      path = w.path ++ t ∷ [];
      ahead = w.ahead ++ row_at rows t;
      parts = w.parts ++ record { first = length w.path; rest = length w.ahead } ∷ [];
      marks = w.marks;
    }

    opened_next : IsOwing rows w t → ((i n : ℕ) → At w.path i n → Leads rows n t) →
        At w.positions t position.New → IsWay rows next
    opened_next o lead is_new = record {
      kept = record {
        positions = let e = length-set w.positions t (position.On (length w.path)) in let f = k.positions in omega
            (arith, e, f);
        marks = k.marks;
        here = λ i n h. ⊎_elim
            (λ old. stays n (position.On i) (k.here i n old) (λ e. cc e))
            (λ new. subst (λ v. At next.positions v (position.On i)) (sym new.1)
            (subst (λ v. At next.positions t (position.On v)) (sym new.0)
            (set_same w.positions t (position.On (length w.path)) in_it)))
            (at_push_cases w.path t i n h);
        there = λ i n h. ⊎_elim
            (λ is. let e : i ≡ length w.path = cc is.1 in
            subst (λ v. At next.path i v) (sym is.0) (subst (λ v. At next.path v t) (sym e) (at_push w.path t)))
            (λ old. at_append_left w.path (t ∷ []) i n (k.there i n old.1))
            (set_cases w.positions t n (position.On (length w.path)) (position.On i) h);
        closed = λ n m h step. stays m position.Done (k.closed n m (was n position.Done h (λ e. cc e)) step)
            (λ e. cc e);
        forth = λ i j n m lt g h. ⊎_elim
            (λ old. ⊎_elim
            (λ low. k.forth i j n m lt low old)
            (λ new. let e = new.0 in let below = slice_get_within w.path j m old in
            absurd (omega (arith, e, below, lt)))
            (at_push_cases w.path t i n g))
            (λ new. ⊎_elim
            (λ low. subst (λ v. Leads rows n v) (sym new.1) (lead i n low))
            (λ both. let e = new.0 in let f = both.0 in absurd (omega (arith, e, f, lt)))
            (at_push_cases w.path t i n g))
            (at_push_cases w.path t j m h);
        back = λ i j n m lt g h same. ⊎_elim
            (λ old. ⊎_elim
            (λ low. k.back i j n m lt low old (λ l s at. same l s (at_append_left w.parts (part ∷ []) l s at)))
            (λ new. let e = new.0 in let below = slice_get_within w.path j m old in
            absurd (omega (arith, e, below, lt)))
            (at_push_cases w.path t i n g))
            (λ new. let e = new.0 in absurd
            (same (length w.parts) part (at_push w.parts part) (omega (arith, e, lt)) (omega (arith, e))))
            (at_push_cases w.path t j m h);
        from = λ a m h. ⊎_elim
            (λ old. let f = k.from a m old in
            let low = slice_get_within w.path f.position f.number f.at in
            let below = slice_get_within w.ahead a m old in
            record {
              position = f.position;
              number = f.number;
              at = at_append_left w.path (t ∷ []) f.position f.number f.at;
              step = f.step;
              part = λ l s at. ⊎_elim
                  (λ before. f.part l s before)
                  (λ new. let e = ap (λ (v : Part). v.first) new.1 in let g = ap (λ (v : Part). v.rest) new.1 in
                  ((λ le. absurd (omega (arith, e, low, le))), (λ le. absurd (omega (arith, g, below, le)))))
                  (at_push_cases w.parts part l s at);
            })
            (λ new. record {
              position = length w.path;
              number = t;
              at = at_push w.path t;
              step = in_get (row_at rows t) new.0 m new.2;
              part = λ l s at. ⊎_elim
                  (λ before. let low = k.filled l s before in let rest = k.short l s before in let e = new.1 in
                  ((λ le. omega (arith, rest, e)), (λ le. omega (arith, low))))
                  (λ is. let e = ap (λ (v : Part). v.first) is.1 in let g = ap (λ (v : Part). v.rest) is.1 in
                  let i = new.1 in ((λ le. omega (arith, g, i)), (λ le. omega (arith, e))))
                  (at_push_cases w.parts part l s at);
            })
            (at_append_cases w.ahead (row_at rows t) a m h);
        covered = λ j n h. ⊎_elim
            (λ old. let c = k.covered j n old in (c.0, c.1, at_append_left w.parts (part ∷ []) c.0 c.1 c.2, c.3))
            (λ new. let e = new.0 in (length w.parts, part, at_push w.parts part, omega (arith, e)))
            (at_push_cases w.path t j n h);
        filled = λ l s at. let size = length-append w.path (t ∷ []) in ⊎_elim
            (λ before. let low = k.filled l s before in omega (arith, low, size))
            (λ is. let e = ap (λ (v : Part). v.first) is.1 in omega (arith, e, size))
            (at_push_cases w.parts part l s at);
        short = λ l s at. let size = length-append w.ahead (row_at rows t) in ⊎_elim
            (λ before. let low = k.short l s before in omega (arith, low, size))
            (λ is. let e = ap (λ (v : Part). v.rest) is.1 in omega (arith, e, size))
            (at_push_cases w.parts part l s at);
        ascend = λ i j s u lt g h. ⊎_elim
            (λ old. ⊎_elim
            (λ low. k.ascend i j s u lt low old)
            (λ new. let e = new.0 in let below = slice_get_within w.parts j u old in
            absurd (omega (arith, e, below, lt)))
            (at_push_cases w.parts part i s g))
            (λ new. ⊎_elim
            (λ low. let f = ap (λ (v : Part). v.first) new.1 in let r = ap (λ (v : Part). v.rest) new.1 in
            let a = k.filled i s low in let b = k.short i s low in (omega (arith, f, a), omega (arith, r, b)))
            (λ both. let e = new.0 in let f = both.0 in absurd (omega (arith, e, f, lt)))
            (at_push_cases w.parts part i s g))
            (at_push_cases w.parts part j u h);
        sound = k.sound;
        whole = λ n h. k.whole n (was n position.Done h (λ e. cc e));
      };
      seen = λ j n m h step. ⊎_elim
          (λ old. let low = slice_get_within w.path j n old in ⊎_elim
          (λ s. go j m low s)
          (λ is. to_later (length w.path) (subst (λ v. At next.path (length w.path) v) (sym is) (at_push w.path t)) low)
          (o.seen j n m old step))
          (λ new. let at = get_in (row_at rows t) m (subst (λ v. Step rows v m) new.1 step) in
          to_ahead (length w.ahead + at.0) (at_append_right w.ahead (row_at rows t) at.0 m at.1)
          (λ l s g le. ⊎_elim
          (λ before. let low = k.short l s before in omega (arith, low))
          (λ is. let e = ap (λ (v : Part). v.rest) is.1 in omega (arith, e))
          (at_push_cases w.parts part l s g)))
          (at_push_cases w.path t j n h);
    }
      where
        k : IsKept rows w
        k = o.kept

        part : Part
        part = record { first = length w.path; rest = length w.ahead }

        in_it : t < length w.positions
        in_it = slice_get_within w.positions t position.New is_new

        apart : (n : ℕ) (p : SearchPosition) → At w.positions n p → (p ≡ position.New → ⊥) → n ≢ t
        apart n p h not e = not (at_one w.positions t p position.New (subst (λ v. At w.positions v p) e h) is_new)

        stays : (n : ℕ) (p : SearchPosition) → At w.positions n p → (p ≡ position.New → ⊥) → At next.positions n p
        stays n p h not = set_other w.positions t n (position.On (length w.path)) p (apart n p h not) h

        was : (n : ℕ) (p : SearchPosition) → At next.positions n p → (p ≡ position.On (length w.path) → ⊥)
            → At w.positions n p
        was n p h not = ⊎_elim (λ is. absurd (not is.1)) (λ old. old.1)
            (set_cases w.positions t n (position.On (length w.path)) p h)

        go : (j m : ℕ) → j < length w.path → IsSeen rows w j m → IsSeen rows next j m
        go j m lt (to_done h) = to_done (stays m position.Done h (λ e. cc e))
        go j m lt (to_later i h less) = to_later i (at_append_left w.path (t ∷ []) i m h) less
        go j m lt (to_same i h marked same) =
            to_same i (at_append_left w.path (t ∷ []) i m h) marked (λ l s at below above. ⊎_elim
            (λ old. same l s old below above)
            (λ new. let e = ap (λ (v : Part). v.first) new.1 in omega (arith, e, above, lt))
            (at_push_cases w.parts part l s at))
        go j m lt (to_ahead a h below) = to_ahead a (at_append_left w.ahead (row_at rows t) a m h) (λ l s at le. ⊎_elim
            (λ old. below l s old le)
            (λ new. let e = ap (λ (v : Part). v.first) new.1 in absurd (omega (arith, e, le, lt)))
            (at_push_cases w.parts part l s at))

    pub opened_is_way : (w' : Way) → IsOwing rows w t → ((i n : ℕ) → At w.path i n → Leads rows n t) →
        At w.positions t position.New → Opens t (row_at rows t) w w' → IsWay rows w'
    opened_is_way w' o lead is_new p =
        same_way next.positions w'.positions next.path w'.path next.ahead w'.ahead next.parts w'.parts next.marks
        w'.marks
        p.positions p.path p.ahead p.parts p.marks (opened_next o lead is_new)
