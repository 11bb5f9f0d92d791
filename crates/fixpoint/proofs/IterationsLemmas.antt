-- Each iteration of the search leaves fewer iterations.
-- Serves: on_cycle (marks)
use Rattle.std.proofs.Common.{◌≡◌, ◌⊎◌, ℕ, zero, suc, ◌+◌, ◌<◌, ◌≤◌, List, [], ◌∷◌, ◌++◌, length, set, replicate, Bool}
use Rattle.std.proofs.Common.{false, refl, sym, ap, subst, ⊎_elim, inl, inr, arith, length-append, ◌∙◌}
use Rattle.std.proofs.lemmas.Bool.{cases_eq}
use Rattle.std.proofs.lemmas.List.{length-replicate}
use Rattle.std.proofs.lemmas.Option.{slice_get_within}
use Rattle.fixpoint.specs.Leads.{Leads, one, more, AreCycleMarks}
use Rattle.fixpoint.specs.StepRows.{row_at, Step}
use Rattle.fixpoint.specs.Way.{Way, At, IsWay, IsOwing, Opens, Meets, Closes, GoesOn, IsThrough, ComesToEnd, AreShort}
use Rattle.fixpoint.specs.Way.{before_step, cost}
use Rattle.fixpoint.specs.declared.cycles.Part.{Part}
use Rattle.fixpoint.specs.declared.cycles.SearchPosition.{SearchPosition}
use Rattle.fixpoint.specs.declared.cycles.SearchPosition.TheVariants as position
use Rattle.fixpoint.proofs.ClosesLemmas.{closed_is_way}
use Rattle.fixpoint.proofs.IsMarkedLemmas.{none_set}
use Rattle.fixpoint.proofs.MeetsLemmas.{met_is_way, skipped_is_way}
use Rattle.fixpoint.proofs.OpensLemmas.{opened_is_way, owing_of, owing_none, source_of, all_lead}
use Rattle.fixpoint.proofs.AtLemmas.{at_some, at_one, set_cases, set_same}

cost_open : (positions : List SearchPosition) (rows : List (List ℕ)) (n i : ℕ) → At positions n position.New
    → n < length rows →
    cost (set positions n (position.On i)) rows + length (row_at rows n) + 2 ≡ cost positions rows
cost_open [] rows n i h lt = absurd (cc h)
cost_open (p ∷ positions) [] n i h lt = absurd (omega arith)
cost_open (position.New ∷ positions) (row ∷ rows) zero i h lt = refl
cost_open (position.On j ∷ positions) (row ∷ rows) zero i h lt = absurd (cc h)
cost_open (position.Done ∷ positions) (row ∷ rows) zero i h lt = absurd (cc h)
cost_open (position.New ∷ positions) (row ∷ rows) (suc n) i h lt = let k =
    cost_open positions rows n i h (omega (arith, lt)) in omega (arith, k)
cost_open (position.On j ∷ positions) (row ∷ rows) (suc n) i h lt = cost_open positions rows n i h (omega (arith, lt))
cost_open (position.Done ∷ positions) (row ∷ rows) (suc n) i h lt = cost_open positions rows n i h (omega (arith, lt))

cost_more : (p : SearchPosition) (positions : List SearchPosition) (row : List ℕ) (rows : List (List ℕ)) →
    cost positions rows ≤ cost (p ∷ positions) (row ∷ rows)
cost_more position.New positions row rows = omega arith
cost_more (position.On i) positions row rows = omega arith
cost_more position.Done positions row rows = omega arith

cost_le : (a b : List SearchPosition) (rows : List (List ℕ)) → length a ≡ length b →
    ((n : ℕ) → At a n position.New → At b n position.New) → cost a rows ≤ cost b rows
cost_le [] b rows e h = omega arith
cost_le (p ∷ a) [] rows e h = absurd (omega (arith, e))
cost_le (p ∷ a) (q ∷ b) [] e h = omega arith
cost_le (position.New ∷ a) (position.New ∷ b) (row ∷ rows) e h = let k =
    cost_le a b rows (omega (arith, e)) (λ n g. h (suc n) g) in omega (arith, k)
cost_le (position.New ∷ a) (position.On i ∷ b) (row ∷ rows) e h = let g = h zero refl in absurd (cc g)
cost_le (position.New ∷ a) (position.Done ∷ b) (row ∷ rows) e h = let g = h zero refl in absurd (cc g)
cost_le (position.On i ∷ a) (q ∷ b) (row ∷ rows) e h = let k = cost_le a b rows (omega (arith, e))
    (λ n g. h (suc n) g) in
    let m = cost_more q b row rows in omega (arith, k, m)
cost_le (position.Done ∷ a) (q ∷ b) (row ∷ rows) e h = let k = cost_le a b rows (omega (arith, e))
    (λ n g. h (suc n) g) in
    let m = cost_more q b row rows in omega (arith, k, m)

module _ (rows : List (List ℕ)) (w : Way) (t : ℕ) (w' : Way) where
  still_new : Opens t (row_at rows t) w w' → (n : ℕ) → At w'.positions n position.New → At w.positions n position.New
  still_new p n h = ⊎_elim
      (λ is. let e : position.New ≡ position.On (length w.path) = is.1 in absurd (cc e))
      (λ old. old.1)
      (set_cases w.positions t n (position.On (length w.path)) position.New
      (subst (λ v. At v n position.New) p.positions h))

  pub on_new : t < length rows → IsWay rows (before_step w t) → AreShort w → At w.positions t position.New →
      Opens t (row_at rows t) w w' → GoesOn rows (before_step w t) w'
  on_new lt g s is_new p = record {
    way = opened_is_way rows w t w' o (all_lead rows w t o.kept (source_of rows w t g s.short)) is_new p;
    fresh = still_new p;
    fewer =
        let c = cost_open w.positions rows t (length w.path) is_new lt in
        let e = ap (λ v. cost v rows) p.positions in
        let a = ap length p.ahead ∙ length-append w.ahead (row_at rows t) in
        let b = length-append w.ahead (t ∷ []) in
        let d = ap length p.parts ∙ length-append w.parts
        (record { first = length w.path; rest = length w.ahead } ∷ []) in
        omega (arith, c, e, a, b, d);
  }
    where
      o : IsOwing rows w t
      o = owing_of rows w t g s.short

  pub on_path : (p : ℕ) → IsWay rows (before_step w t) → AreShort w → At w.positions t (position.On p) → Meets p t w w'
      →
      GoesOn rows (before_step w t) w'
  on_path p g s is_on m = record {
    way = met_is_way rows w t p w'.parts w' (owing_of rows w t g s.short) (source_of rows w t g s.short) is_on refl m;
    fresh = λ n h. subst (λ v. At v n position.New) m.positions h;
    fewer =
        let e = ap (λ v. cost v rows) m.positions in
        let a = ap length m.ahead in
        let b = length-append w.ahead (t ∷ []) in
        let d = ap length m.parts.drops.is ∙ length-append w'.parts m.parts.drops.gone in
        omega (arith, e, a, b, d);
  }

  pub on_done : IsWay rows (before_step w t) → AreShort w → At w.positions t position.Done
      → GoesOn rows (before_step w t) w
  on_done g s is_done = record {
    way = skipped_is_way rows w t (owing_of rows w t g s.short) is_done;
    fresh = λ n h. h;
    fewer = let b = length-append w.ahead (t ∷ []) in omega (arith, b);
  }

pub on_end : (rows : List (List ℕ)) (w : Way) (parts' : List Part) (last : Part) (w' : Way) → IsWay rows w →
    w.parts ≡ parts' ++ last ∷ [] → length w.ahead ≤ last.rest → w'.parts ≡ parts' →
    Closes last.first (record w { parts = parts' }) w' → GoesOn rows w w'
on_end rows w parts' last w' g split none_ahead e c = record {
  way = closed_is_way rows w parts' last w' g split none_ahead e c;
  fresh = fresh;
  fewer =
      let k = cost_le w'.positions w.positions rows c.positions.count fresh in
      let a = ap length c.ahead in
      let d = ap length split ∙ length-append parts' (last ∷ []) in
      let f = ap length e in
      omega (arith, k, a, d, f);
}
  where
    fresh : (n : ℕ) → At w'.positions n position.New → At w.positions n position.New
    fresh n h = ⊎_elim (λ old. old) (λ new. let is : position.New ≡ position.Done = new.1 in
        absurd (cc is)) (c.positions.only n position.New h)

-- where no part is left, no number is on the path
pub empty_path : (rows : List (List ℕ)) (w : Way) → IsWay rows w → w.parts ≡ [] → (n i : ℕ) →
    At w.positions n (position.On i) → ⊥
empty_path rows w g none n i h =
    let c = g.kept.covered i n (g.kept.there i n h) in
    let at = subst (λ v. At v c.0 c.1) none c.2 in
    cc at

pub new_or_done : (rows : List (List ℕ)) (w : Way) → IsWay rows w → w.parts ≡ [] → (n : ℕ) → n < length rows →
    At w.positions n position.New ⊎ At w.positions n position.Done
new_or_done rows w g none n lt = let e = g.kept.positions in
    let s = at_some w.positions n (omega (arith, e, lt)) in cases s.0 s.1
  where
    cases : (p : SearchPosition) → At w.positions n p → At w.positions n position.New ⊎ At w.positions n position.Done
    cases position.New h = inl h
    cases position.Done h = inr h
    cases (position.On i) h = absurd (empty_path rows w g none n i h)

pub through_more : (rows : List (List ℕ)) (w w' w'' : Way) (n : ℕ) → n < length rows → IsThrough rows w n →
    At w.positions n position.New → Opens n (row_at rows n) w w' → ComesToEnd rows w' w'' → IsThrough rows w'' (n + 1)
through_more rows w w' w'' n lt g is_new p c = record {
  way = c.way;
  parts = c.parts;
  done = λ m le. ⊎_elim
      (λ new. absurd (not_new m (omega (arith, le)) (still_new rows w n w' p m (c.fresh m new)) (c.fresh m new)))
      (λ done. done)
      (new_or_done rows w'' c.way c.parts m (omega (arith, le, lt)));
}
  where
    not_new : (m : ℕ) → m ≤ n → At w.positions m position.New → At w'.positions m position.New → ⊥
    not_new m le h now = ⊎_elim
        (λ is.
        let here = subst (λ v. At v n (position.On (length w.path))) (sym p.positions)
        (set_same w.positions n (position.On (length w.path)) (slice_get_within w.positions n position.New is_new)) in
        let e = at_one w'.positions n (position.On (length w.path)) position.New here
        (subst (λ v. At w'.positions v position.New) is now) in cc e)
        (λ ne. let e = at_one w.positions m position.New position.Done h (g.done m (omega (arith, le, ne))) in cc e)
        (cases_eq m n)

pub through_done : (rows : List (List ℕ)) (w : Way) (n : ℕ) (p : SearchPosition) → n < length rows → IsThrough rows w n
    →
    At w.positions n p → (p ≡ position.New → ⊥) → IsThrough rows w (n + 1)
through_done rows w n p lt g h not = record {
  way = g.way;
  parts = g.parts;
  done = λ m le. ⊎_elim
      (λ is. subst (λ v. At w.positions v position.Done) (sym is)
      (⊎_elim (λ new. absurd (not (at_one w.positions n p position.New h new))) (λ done. done)
      (new_or_done rows w g.way g.parts n lt)))
      (λ ne. g.done m (omega (arith, le, ne)))
      (cases_eq m n);
}

-- a number that is opened where there is no way
pub opened_first : (rows : List (List ℕ)) (w w' : Way) (n : ℕ) → IsThrough rows w n → At w.positions n position.New →
    Opens n (row_at rows n) w w' → IsWay rows w'
opened_first rows w w' n g is_new p =
    opened_is_way rows w n w' (owing_none rows w n g.way)
    (λ i m h. absurd (empty_path rows w g.way g.parts m i (g.way.kept.here i m h))) is_new p

chain_step : (rows : List (List ℕ)) {n m : ℕ} → Leads rows n m → (k : ℕ) × Step rows n k
chain_step rows (one {m = m} step) = (m, step)
chain_step rows (more chain step) = chain_step rows chain

pub row_within : (rows : List (List ℕ)) (n k : ℕ) → Step rows n k → n < length rows
row_within [] n k step = absurd (let lt = step.1 in omega (arith, lt))
row_within (row ∷ rows) zero k step = omega arith
row_within (row ∷ rows) (suc n) k step = let lt = row_within rows n k step in omega (arith, lt)

pub replicate_is_new : (count n : ℕ) (p : SearchPosition) → At (replicate count position.New) n p → p ≡ position.New
replicate_is_new zero n p h = absurd (cc h)
replicate_is_new (suc count) zero p h = cc h
replicate_is_new (suc count) (suc n) p h = replicate_is_new count n p h

-- all numbers are done
pub all_through : (rows : List (List ℕ)) (w : Way) → IsThrough rows w (length rows) → AreCycleMarks rows w.marks
all_through rows w g = λ n. (
  g.way.kept.sound n,
  λ back. g.way.kept.whole n (g.done n (has_row n (first_step back))) back,
)
  where
    first_step : {n m : ℕ} → Leads rows n m → (k : ℕ) × Step rows n k
    first_step back = chain_step rows back

    has_row : (n : ℕ) → (k : ℕ) × Step rows n k → n < length rows
    has_row n s = row_within rows n s.0 s.1

-- at first nothing is seen
pub none_through : (rows : List (List ℕ)) (count : ℕ) → count ≡ length rows →
    IsThrough rows (record {
      positions = replicate count position.New;
      path = [];
      ahead = [];
      parts = [];
      marks = replicate count false;
    }) 0
none_through rows count size = record {
  way = record {
    kept = record {
      positions = length-replicate count position.New ∙ size;
      marks = length-replicate count false ∙ size;
      here = λ i n h. absurd (cc h);
      there = λ i n h. absurd (all_new count n (position.On i) h (λ e. cc e));
      closed = λ n m h step. absurd (all_new count n position.Done h (λ e. cc e));
      forth = λ i j n m lt g h. absurd (cc g);
      back = λ i j n m lt g h same. absurd (cc g);
      from = λ a m h. absurd (cc h);
      covered = λ j n h. absurd (cc h);
      filled = λ k s h. absurd (cc h);
      short = λ k s h. absurd (cc h);
      ascend = λ k l s t lt g h. absurd (cc g);
      sound = λ n h. absurd (none_set count n h);
      whole = λ n h back. absurd (all_new count n position.Done h (λ e. cc e));
    };
    seen = λ j n m h step. absurd (cc h);
  };
  parts = refl;
  done = λ n lt. absurd (omega (arith, lt));
}
  where
    all_new : (count n : ℕ) (p : SearchPosition) → At (replicate count position.New) n p → (p ≡ position.New → ⊥) → ⊥
    all_new count n p h not = not (replicate_is_new count n p h)

pub none_through_of : (rows : List (List ℕ)) (count : ℕ) (positions : List SearchPosition) (path ahead : List ℕ)
    (parts : List Part) (marks : List Bool) → count ≡ length rows →
    positions ≡ replicate count position.New → path ≡ [] → ahead ≡ [] → parts ≡ [] → marks ≡ replicate count false →
    IsThrough rows (record { positions = positions; path = path; ahead = ahead; parts = parts; marks = marks }) 0
none_through_of rows count positions path ahead parts marks size a b c d e =
    rw (a, b, c, d, e) (none_through rows count size)
