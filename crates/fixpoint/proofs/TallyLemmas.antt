-- Ranks set as parts end.
-- Serves: on_cycle (ranks)
use Rattle.std.proofs.Common.{◌≡◌, ℕ, zero, suc, ◌+◌, ◌<◌, ◌≤◌, List, [], ◌∷◌, ◌++◌, length, take, drop, get_or, set}
use Rattle.std.proofs.Common.{replicate, Contains, refl, sym, ap, subst, arith, ⊎_elim, inl, inr, add-one, ◌∙◌}
use Rattle.std.proofs.lemmas.Bool.{cases_eq, cases_lt}
use Rattle.std.proofs.lemmas.List.{length-set, get_or-set_same, get_or-set_other, get_or_past}
use Rattle.std.proofs.lemmas.List.Elements.{Contains-push, Contains-push_cases, Contains-append_left}
use Rattle.std.proofs.Math.Seq.{take-suc}
use Rattle.fixpoint.specs.Leads.{AreRanksBut}
use Rattle.fixpoint.specs.NumberMarks.{IsMarked}
use Rattle.fixpoint.specs.Way.{Way, At, IsWay, IsThrough, Opens, Closes, Tally, SetsAll, IsRanked, KeepsDone}
use Rattle.fixpoint.specs.Way.{Ranks, undone, rank_at}
use Rattle.fixpoint.specs.declared.cycles.Part.{Part}
use Rattle.fixpoint.specs.declared.cycles.SearchPosition.{SearchPosition}
use Rattle.fixpoint.specs.declared.cycles.SearchPosition.TheVariants as position
use Rattle.fixpoint.proofs.ClosesLemmas.{last_step}
use Rattle.fixpoint.proofs.ContainsLemmas.{none_of}
use Rattle.fixpoint.proofs.AtLemmas.{at_one, at_some, at_push, drop_in, in_drop, set_cases, set_other}
use Rattle.fixpoint.proofs.IterationsLemmas.{row_within, replicate_is_new}

pub sets_none : (v : ℕ) (ranks : List ℕ) → SetsAll [] v ranks ranks
sets_none v ranks = record { count = refl; all = λ n h. absurd (none_of n h); other = λ n h. refl }

sets_push : (row : List ℕ) (x v : ℕ) (a b : List ℕ) → SetsAll row v a b → x < length b →
    SetsAll (row ++ x ∷ []) v a (set b x v)
sets_push row x v a b g lt = record {
  count = length-set b x v ∙ g.count;
  all = λ n h. ⊎_elim
      (λ is. subst (λ k. rank_at (set b x v) k ≡ v) (sym is) (get_or-set_same b x v 0 lt))
      (λ ne. get_or-set_other b x n v 0 ne
      ∙ g.all n (⊎_elim (λ old. old) (λ is. absurd (ne (sym is))) (Contains-push_cases row x n h)))
      (cases_eq n x);
  other = λ n h. ⊎_elim
      (λ is. absurd (h (subst (λ k. Contains (row ++ x ∷ []) k) (sym is) (Contains-push row x))))
      (λ ne. get_or-set_other b x n v 0 ne ∙ g.other n (λ old. h (Contains-append_left row (x ∷ []) n old)))
      (cases_eq n x);
}

pub sets_next : (row : List ℕ) (i x v : ℕ) (a b : List ℕ) → i < length row → x ≡ get_or row i 0 →
    SetsAll (take i row) v a b → x < length b → SetsAll (take (i + 1) row) v a (set b x v)
sets_next row i x v a b lt is g in_it =
    rw (add-one i, take-suc row i 0, sym is) (sets_push (take i row) x v a b g in_it)

undone_one : (q : SearchPosition) (b : List SearchPosition) → undone (q ∷ b) ≤ undone b + 1
undone_one position.New b = omega arith
undone_one (position.On i) b = omega arith
undone_one position.Done b = omega arith

undone_le : (a b : List SearchPosition) → length a ≡ length b →
    ((n : ℕ) → At a n position.Done → At b n position.Done) → undone b ≤ undone a
undone_le [] [] e h = omega arith
undone_le [] (q ∷ b) e h = absurd (omega (arith, e))
undone_le (p ∷ a) [] e h = absurd (omega (arith, e))
undone_le (position.Done ∷ a) (position.Done ∷ b) e h = undone_le a b (omega (arith, e)) (λ n g. h (suc n) g)
undone_le (position.Done ∷ a) (position.New ∷ b) e h = let g = h zero refl in absurd (cc g)
undone_le (position.Done ∷ a) (position.On i ∷ b) e h = let g = h zero refl in absurd (cc g)
undone_le (position.New ∷ a) (q ∷ b) e h = let k = undone_le a b (omega (arith, e)) (λ n g. h (suc n) g) in
    let m = undone_one q b in omega (arith, k, m)
undone_le (position.On i ∷ a) (q ∷ b) e h = let k = undone_le a b (omega (arith, e)) (λ n g. h (suc n) g) in
    let m = undone_one q b in omega (arith, k, m)

undone_lt : (a b : List SearchPosition) (n i : ℕ) → length a ≡ length b
    → ((m : ℕ) → At a m position.Done → At b m position.Done) →
    At a n (position.On i) → At b n position.Done → undone b < undone a
undone_lt [] b n i e h x y = absurd (cc x)
undone_lt (p ∷ a) [] n i e h x y = absurd (cc y)
undone_lt (p ∷ a) (q ∷ b) zero i e h x y =
    let is : p ≡ position.On i = cc x in
    let done : q ≡ position.Done = cc y in
    let k = undone_le a b (omega (arith, e)) (λ m g. h (suc m) g) in
    rw (is, done) (omega (arith, k))
undone_lt (position.Done ∷ a) (position.Done ∷ b) (suc n) i e h x y =
    undone_lt a b n i (omega (arith, e)) (λ m g. h (suc m) g) x y
undone_lt (position.Done ∷ a) (position.New ∷ b) (suc n) i e h x y = let g = h zero refl in absurd (cc g)
undone_lt (position.Done ∷ a) (position.On j ∷ b) (suc n) i e h x y = let g = h zero refl in absurd (cc g)
undone_lt (position.New ∷ a) (q ∷ b) (suc n) i e h x y = let k =
    undone_lt a b n i (omega (arith, e)) (λ m g. h (suc m) g) x y in let m = undone_one q b in omega (arith, k, m)
undone_lt (position.On j ∷ a) (q ∷ b) (suc n) i e h x y = let k =
    undone_lt a b n i (omega (arith, e)) (λ m g. h (suc m) g) x y in let m = undone_one q b in omega (arith, k, m)

undone_some : (a : List SearchPosition) (n i : ℕ) → At a n (position.On i) → 0 < undone a
undone_some [] n i h = absurd (cc h)
undone_some (position.New ∷ a) n i h = omega arith
undone_some (position.On j ∷ a) n i h = omega arith
undone_some (position.Done ∷ a) zero i h = absurd (cc h)
undone_some (position.Done ∷ a) (suc n) i h = undone_some a n i h

-- opening, meeting
pub open_keeps : (w w' : Way) (t : ℕ) (row : List ℕ) → At w.positions t position.New → Opens t row w w' → KeepsDone w w'
open_keeps w w' t row is_new p = record {
  back = λ n h. ⊎_elim
      (λ is. let e : position.Done ≡ position.On (length w.path) = is.1 in absurd (cc e))
      (λ old. old.1)
      (set_cases w.positions t n (position.On (length w.path)) position.Done
      (subst (λ v. At v n position.Done) p.positions h));
  there = λ n h. subst (λ v. At v n position.Done) (sym p.positions)
      (set_other w.positions t n (position.On (length w.path)) position.Done
      (λ e. let k = at_one w.positions t position.Done position.New
      (subst (λ v. At w.positions v position.Done) e h) is_new in
      cc k) h);
  marks = λ n h. subst (λ v. IsMarked v n) (sym p.marks) h;
}

pub ranked_kept : (rows : List (List ℕ)) (w w' : Way) (t t' : Tally) → length w'.positions ≡ length w.positions →
    t'.ranks ≡ t.ranks → t'.parts ≡ t.parts → KeepsDone w w' → IsRanked rows w t → IsRanked rows w' t'
ranked_kept rows w w' t t' size same same_parts k r = record {
  count = ap length same ∙ r.count;
  bound = let le = undone_le w.positions w'.positions (sym size) k.there in let b = r.bound in
      omega (arith, le, b, same_parts);
  low = λ n h. let lt = r.low n (k.back n h) in let e = ap (λ v. rank_at v n) same in omega (arith, lt, e, same_parts);
  falls = λ n m h step. ⊎_elim
      (λ marked. inl (k.marks n marked))
      (λ lt. let e = ap (λ v. rank_at v n) same in let f = ap (λ v. rank_at v m) same in inr (omega (arith, lt, e, f)))
      (r.falls n m (k.back n h) step);
}

module _ (rows : List (List ℕ)) (w : Way) (parts' : List Part) (last : Part) (w' : Way) (t t' : Tally) where
  pub ranked_close : IsWay rows w → w.parts ≡ parts' ++ last ∷ [] → length w.ahead ≤ last.rest →
      Closes last.first (record w { parts = parts' }) w' → Ranks (drop last.first w.path) t t' → IsRanked rows w t →
      IsRanked rows w' t'
  ranked_close g split none_ahead c k r = record {
    count = k.ranks.count ∙ r.count;
    bound = let lt = fewer in let e = k.parts in let b = r.bound in omega (arith, lt, e, b);
    low = λ n h. ⊎_elim
        (λ old. let lt = r.low n old in let e = k.ranks.other n (λ these. done_apart n old these) in let f = k.parts in
        omega (arith, lt, e, f))
        (λ these. let e = k.ranks.all n these.0 in let f = k.parts in omega (arith, e, f))
        (c.positions.only n position.Done h);
    falls = λ n m h step. ⊎_elim
        (λ old. let now = g.kept.closed n m old step in
        let e = k.ranks.other n (λ these. done_apart n old these) in
        let f = k.ranks.other m (λ these. done_apart m now these) in
        ⊎_elim
        (λ marked. inl (marks_stay n marked))
        (λ lt. inr (omega (arith, lt, e, f)))
        (r.falls n m old step))
        (λ these. let d = in_drop last.first w.path n these.0 in
        ⊎_elim
        (λ many. inl ((c.many many).all n these.0))
        (λ few. ⊎_elim
        (λ done. let lt = r.low m done in
        let e = k.ranks.all n these.0 in
        let f = k.ranks.other m (λ in_it. done_apart m done in_it) in
        inr (omega (arith, lt, e, f)))
        (λ marked. inl (marks_stay n marked))
        (last_step rows w parts' last g split none_ahead d.0 n d.1 d.2 few m step))
        (cases_lt 1 (length (drop last.first w.path))))
        (c.positions.only n position.Done h);
  }
    where
      done_apart : (n : ℕ) → At w.positions n position.Done → Contains (drop last.first w.path) n → ⊥
      done_apart n h these = let d = in_drop last.first w.path n these in
          let e = at_one w.positions n (position.On d.0) position.Done (g.kept.here d.0 n d.2) h in cc e

      marks_stay : (n : ℕ) → IsMarked w.marks n → IsMarked w'.marks n
      marks_stay n h = ⊎_elim (λ many. (c.many many).kept n h) (λ few. subst (λ v. IsMarked v n) (sym (c.few few)) h)
          (cases_lt 1 (length (drop last.first w.path)))

      fewer : undone w'.positions < undone w.positions
      fewer =
          let low = g.kept.filled (length parts') last
          (subst (λ v. At v (length parts') last) (sym split) (at_push parts' last)) in
          let s = at_some w.path last.first low in
          undone_lt w.positions w'.positions s.0 last.first (sym c.positions.count)
          (λ m h. ⊎_elim (λ same. same) (λ these. c.positions.all m these) (c.positions.other m position.Done h))
          (g.kept.here last.first s.0 s.1)
          (c.positions.all s.0 (drop_in last.first w.path last.first s.0 (omega arith) s.1))

-- a part that is done leaves room for one more
pub ranks_have_room : (rows : List (List ℕ)) (w : Way) (t : Tally) (i n : ℕ) → IsWay rows w → IsRanked rows w t
    → At w.path i n →
    t.parts < length t.ranks
ranks_have_room rows w t i n g r h = let some = undone_some w.positions n i (g.kept.here i n h) in let b = r.bound in
    let c = r.count in omega (arith, some, b, c)

undone_all : (count : ℕ) → undone (replicate count position.New) ≡ count
undone_all zero = refl
undone_all (suc count) = let k = undone_all count in omega (arith, k)

pub ranked_none : (rows : List (List ℕ)) (w : Way) (t : Tally) (count : ℕ) → count ≡ length rows →
    w.positions ≡ replicate count position.New → length t.ranks ≡ count → t.parts ≡ 0 → IsRanked rows w t
ranked_none rows w t count size fresh same none = record {
  count = same ∙ size;
  bound = let e = ap undone fresh in let f = undone_all count in omega (arith, e, f, none, size);
  low = λ n h. absurd (never n h);
  falls = λ n m h step. absurd (never n h);
}
  where
    never : (n : ℕ) → At w.positions n position.Done → ⊥
    never n h = let e = replicate_is_new count n position.Done (subst (λ v. At v n position.Done) fresh h) in cc e

-- all numbers are done
pub all_ranked : (rows : List (List ℕ)) (w : Way) (t : Tally) → IsThrough rows w (length rows) → IsRanked rows w t →
    AreRanksBut rows w.marks t.ranks
all_ranked rows w t g r = record {
  count = r.count;
  bound = λ n. ⊎_elim
      (λ lt. let low = r.low n (g.done n lt) in let b = r.bound in omega (arith, low, b))
      (λ le. let c = r.count in let e = get_or_past t.ranks n 0 (omega (arith, le, c)) in omega (arith, e))
      (cases_lt n (length rows));
  falls = λ n m not step. ⊎_elim (λ marked. absurd (not marked)) (λ lt. lt)
      (r.falls n m (g.done n (row_within rows n m step)) step);
}
