-- What a breadth-first search says of the lines of the old rule alone.
-- Serves: conclude.
use Rattle.std.proofs.Common.{◌≡◌, ℕ, zero, suc, ◌+◌, ◌<◌, ◌≤◌, List, [], ◌∷◌, ◌++◌, length, refl, sym, ◌∙◌, ap, subst}
use Rattle.std.proofs.Common.{arith, inl, inr, ◌⊎◌, length-append, take, drop, append_assoc, append-nil}
use Rattle.std.specs.Prelude.{Bool, true, false, slice_get, Some, Contains}
use Rattle.std.proofs.lemmas.Bool.{cases_lt}
use Rattle.std.proofs.lemmas.List.{take-append-drop}
use Rattle.std.proofs.lemmas.Option.{slice_get_within}
use Rattle.abnfread.specs.Element.{Rule}
use Rattle.abnfcheck.specs.Derivable.{AreLetters}
use Rattle.flatgrammar.specs.Flat.{Flat, Dot}
use Rattle.flatgrammar.specs.Stacks.{Accepts, ReadBy, Reach, begins, moved, has_read}
use Rattle.flatgrammar.proofs.StackClosureLemmas.{taken_by_tops, nothing_below}
use Rattle.rulelines.specs.FirstLines.{ComesFirst, HasNoLineUpTo, IsFirstLine, IsOfOldAlone, IsShortlexBefore, shorter}
use Rattle.rulelines.specs.FirstLines.{sort_key}
use Rattle.rulelines.specs.FoundPairs.{AreFound, AreSearched, EndWithNew, FoundPair, IsFoundBefore, IsOldDead, IsWordOf}
use Rattle.rulelines.specs.FoundPairs.{LeadsToFound, next, start}
use Rattle.rulelines.specs.StatePairs.{AcceptsRule, AreSamples, HasSample}
use Rattle.rulelines.proofs.ComesFirstLemmas.{before_extends, first_append, first_length, first_trans, last_before}
use Rattle.rulelines.proofs.ComesFirstLemmas.{last_first, nothing_before, nothing_first, prefix_first}
use Rattle.rulelines.proofs.StatePairsLemmas.{accepted_derived, ArePairClosures, derived_accepted, element_at}
use Rattle.rulelines.proofs.StatePairsLemmas.{next_closures, start_closures, symbol_at}

pub take_suc : (x : List ℕ) (j c : ℕ) → slice_get x j ≡ Some c → take (suc j) x ≡ take j x ++ c ∷ []
take_suc [] j c is = cc is
take_suc (b ∷ x) zero c is = ap (λ v. v ∷ []) (cc is)
take_suc (b ∷ x) (suc j) c is = ap (λ v. b ∷ v) (take_suc x j c is)

pub take_next : (x : List ℕ) (j c : ℕ) → slice_get x j ≡ Some c → take (j + 1) x ≡ take j x ++ c ∷ []
take_next x j c is =
    let same : suc j ≡ j + 1 = omega arith in
    subst (λ v. take v x ≡ take j x ++ c ∷ []) same (take_suc x j c is)

pub symbols_then : (has : ℕ → Bool) (w : List ℕ) (c : ℕ) → AreLetters has w → has c ≡ true
    → AreLetters has (w ++ c ∷ [])
symbols_then has [] c all is = (is, tt)
symbols_then has (b ∷ w) c all is = (all.0, symbols_then has w c all.1 is)

-- where a stack is reached, stacks were reached before
pub reached_before : (flat : Flat) (last : Dot → Bool) (x : List ℕ) {m : ℕ} {s : List Dot} → Reach flat last x m s
    → (j : ℕ) → j ≤ m → (t : List Dot) × Reach flat last x j t
reached_before flat last x (begins {p = p} st) j le =
    (p ∷ [], subst (λ v. Reach flat last x v (p ∷ [])) (omega (arith, le)) (begins st))
reached_before flat last x (moved {j = m} h mv) j le = reached_before flat last x h j le
reached_before flat last x (has_read {j = m} {c = c} {q = q} {r = r} {set = set} {below = below} h rd at lies) j le =
    by (λ less. reached_before flat last x h j less) (cases_lt m j)
  where
    by : (j ≤ m → (t : List Dot) × Reach flat last x j t) → (m < j) ⊎ (j ≤ m)
        → (t : List Dot) × Reach flat last x j t
    by up (inl lt) = (
      r ∷ below,
      subst (λ v. Reach flat last x v (r ∷ below)) (omega (arith, lt, le)) (has_read h rd at lies),
    )
    by up (inr less) = up less

pub none_read : (flat : Flat) (last : Dot → Bool) (tops : List (List Dot)) (c : ℕ) (s : List Dot) → tops ≡ []
    → ReadBy flat last (Contains tops) c s → ⊥
none_read flat last tops c s none (ReadBy.reads {q = q} {below = below} h rd lies) = omega (arith, ap length none, h.1)

pub word_length : {found : List FoundPair} {i : ℕ} {w : List ℕ} → IsWordOf found i w → length w ≤ i
word_length start = omega arith
word_length (next {e = e} {w = w} is earlier h) =
    omega (arith, word_length h, earlier, length-append w (e.symbol ∷ []))

pub one_word : {found : List FoundPair} {i j : ℕ} {u v : List ℕ} → IsWordOf found i u → IsWordOf found j v → i ≡ j
    → u ≡ v
one_word start start same = refl
one_word start (next is earlier h) same = absurd (omega (arith, earlier, same))
one_word (next is earlier h) start same = absurd (omega (arith, earlier, same))
one_word (next {e = e} {w = u} is earlier h) (next {e = f} {w = v} at below g) same =
    let one : e ≡ f = cc (is, at, same) in
    let words : u ≡ v = one_word h g (ap (λ t. t.parent) one) in
    ap (λ t. t ++ e.symbol ∷ []) words ∙ ap (λ t. v ++ t.symbol ∷ []) one

-- no symbols lead to what was not found
pub none_after : (found : List FoundPair) (first : FoundPair) → slice_get found 0 ≡ Some first → {i : ℕ} {w : List ℕ}
    → IsWordOf found i w → length found ≤ i → ⊥
none_after found first is_first start le = omega (arith, le, slice_get_within found 0 first is_first)
none_after found first is_first (next {i = i} {e = e} is earlier h) le =
    omega (arith, le, slice_get_within found i e is)

module _ (has : ℕ → Bool) (old : Flat) (old_last : Dot → Bool) (new : Flat) (new_last : Dot → Bool)
    (found : List FoundPair) (found_so : AreFound old old_last new new_last found has) where
  pub words_ascend : {i j : ℕ} {u v : List ℕ} → IsWordOf found i u → IsWordOf found j v → i < j
      → IsShortlexBefore u v
  words_ascend start start lt = absurd (omega (arith, lt))
  words_ascend start (next {e = f} {w = v} at below g) lt = nothing_before v f.symbol
  words_ascend (next is earlier h) start lt = absurd (omega (arith, lt))
  words_ascend (next {i = i} {e = e} {w = u} is earlier h) (next {i = j} {e = f} {w = v} at below g) lt =
      by (λ less. words_ascend h g less) (found_so.order i j e f (omega (arith, earlier)) lt is at)
    where
      by : (e.parent < f.parent → IsShortlexBefore u v) → IsFoundBefore e f
          → IsShortlexBefore (u ++ e.symbol ∷ []) (v ++ f.symbol ∷ [])
      by up (inl less) = before_extends e.symbol f.symbol (up less)
      by up (inr g') = subst (λ t. IsShortlexBefore (u ++ e.symbol ∷ []) (t ++ f.symbol ∷ [])) (one_word h g g'.0)
          (last_before u e.symbol f.symbol g'.1)

  pub words_in_order : {i j : ℕ} {u v : List ℕ} → IsWordOf found i u → IsWordOf found j v → i ≤ j → ComesFirst u v
  words_in_order {i = i} {j = j} {u = u} {v = v} h g le = by (cases_lt i j)
    where
      by : (i < j) ⊎ (j ≤ i) → ComesFirst u v
      by (inl lt) = inr (words_ascend h g lt)
      by (inr ge) = inl (one_word h g (omega (arith, le, ge)))

  word_below : (n i : ℕ) (e : FoundPair) → i < n → slice_get found i ≡ Some e → (w : List ℕ) × IsWordOf found i w
  word_below zero i e lt is = absurd (omega (arith, lt))
  word_below (suc n) zero e lt is = ([], start)
  word_below (suc n) (suc i) e lt is =
      let p = found_so.parents (suc i) e (omega arith) is in
      let g = word_below n e.parent p.parent (omega (arith, lt, p.earlier)) p.is in
      (g.0 ++ e.symbol ∷ [], next is p.earlier g.1)

  pub word_found : (i : ℕ) (e : FoundPair) → slice_get found i ≡ Some e → (w : List ℕ) × IsWordOf found i w
  word_found i e is = word_below (i + 1) i e (omega arith) is

  pub word_symbols : {i : ℕ} {w : List ℕ} → IsWordOf found i w → AreLetters has w
  word_symbols start = tt
  word_symbols (next {i = i} {e = e} {w = w} is earlier h) =
      symbols_then has w e.symbol (word_symbols h) (found_so.parents i e (omega (arith, earlier)) is).symbol

  -- the symbols of a pair lead to its closures
  pub word_closures : {i : ℕ} {w : List ℕ} → IsWordOf found i w → (e : FoundPair) → slice_get found i ≡ Some e
      → (rest : List ℕ) → ArePairClosures old old_last new new_last (w ++ rest) (length w) e.pair
  word_closures start e is rest =
      let one : found_so.first ≡ e = cc (is, found_so.is_first) in
      subst (λ v. ArePairClosures old old_last new new_last rest 0 v.pair) one
      (start_closures old old_last new new_last rest found_so.first.pair found_so.starts)
  word_closures (next {i = i} {e = f} {w = w} at earlier h) e is rest =
      let one : f ≡ e = cc (is, at) in
      let p = found_so.parents i f (omega (arith, earlier)) at in
      let g = next_closures old old_last new new_last (w ++ f.symbol ∷ rest) (length w) f.symbol f.symbol
      (at_seam w f.symbol rest) (λ q r set rd. (λ k. k, λ k. k)) (λ q r set rd. (λ k. k, λ k. k)) p.parent.pair
      f.pair p.leads (word_closures h p.parent p.is (f.symbol ∷ rest)) in
      subst (λ v. ArePairClosures old old_last new new_last ((w ++ f.symbol ∷ []) ++ rest) (length (w ++ f.symbol ∷ []))
      v.pair) one
      (subst (λ v. ArePairClosures old old_last new new_last v (length (w ++ f.symbol ∷ [])) f.pair)
      (sym (append_assoc w (f.symbol ∷ []) rest))
      (subst (λ v. ArePairClosures old old_last new new_last (w ++ f.symbol ∷ rest) v f.pair)
      (sym (length-append w (f.symbol ∷ []))) g))
    where
      at_seam : (w : List ℕ) (c : ℕ) (rest : List ℕ) → slice_get (w ++ c ∷ rest) (length w) ≡ Some c
      at_seam [] c rest = refl
      at_seam (b ∷ w) c rest = at_seam w c rest

  -- the symbols to where a pair leads come no later than those to it and one more
  pub lead_order : {i k : ℕ} {u v : List ℕ} {e : FoundPair} {c : ℕ} → IsWordOf found i u → IsWordOf found k v
      → (l : LeadsToFound old old_last new new_last found i e c) → k ≡ l.index → ComesFirst v (u ++ c ∷ [])
  lead_order {u = u} {c = c} h start l same = nothing_first (u ++ c ∷ [])
  lead_order {i = i} {u = u} {c = c} h (next {i = k} {e = f} {w = v} at below g) l same = by l.order
    where
      one : f ≡ l.next
      one = cc (at, l.is, same)

      by : (l.index ≡ 0) ⊎ ((l.next.parent < i) ⊎ ((l.next.parent ≡ i) × (sort_key l.next.symbol ≤ sort_key c)))
          → ComesFirst (v ++ f.symbol ∷ []) (u ++ c ∷ [])
      by (inl none) = absurd (omega (arith, below, same, none))
      by (inr (inl lt)) = inr (before_extends f.symbol c (words_ascend g h
          (subst (λ t. t.parent < i) (sym one) lt)))
      by (inr (inr le)) =
          let words : v ≡ u = one_word g h (subst (λ t. t.parent ≡ i) (sym one) le.0) in
          subst (λ t. ComesFirst (t ++ f.symbol ∷ []) (u ++ c ∷ [])) (sym words)
          (last_first u f.symbol c (subst (λ t. sort_key t.symbol ≤ sort_key c) (sym one) le.1))

  module _ (samples : List ℕ) (each : AreSamples old new has samples) (n : ℕ)
      (searched : AreSearched old old_last new new_last found IsOldDead samples n) (agree : EndWithNew found n)
      (x : List ℕ) (symbols : AreLetters has x) where
    -- a pair holds the closures after j symbols, and its symbols come no later than those
    record AtFound (j : ℕ) : Type 0 where
      pub index : ℕ
      pub entry : FoundPair
      pub is : slice_get found index ≡ Some entry
      pub word : List ℕ
      pub word_is : IsWordOf found index word
      pub closures : ArePairClosures old old_last new new_last x j entry.pair
      pub order : ComesFirst word (take j x)

    -- the symbols of a pair that was not searched come no later than the line
    pub record IsNotAfter : Type 0 where
      pub index : ℕ
      pub entry : FoundPair
      pub is : slice_get found index ≡ Some entry
      pub past : n ≤ index
      pub word : List ℕ
      pub word_is : IsWordOf found index word
      pub order : ComesFirst word x

    at_start : AtFound 0
    at_start = record {
      index = 0;
      entry = found_so.first;
      is = found_so.is_first;
      word = [];
      word_is = start;
      closures = start_closures old old_last new new_last x found_so.first.pair found_so.starts;
      order = inl refl;
    }

    stop_there : (j : ℕ) (here : AtFound j) → n ≤ here.index → IsNotAfter
    stop_there j here le = record {
      index = here.index;
      entry = here.entry;
      is = here.is;
      past = le;
      word = here.word;
      word_is = here.word_is;
      order = first_trans here.word (take j x) x here.order
          (subst (λ v. ComesFirst (take j x) v) (take-append-drop j x) (prefix_first (take j x) (drop j x)));
    }

    go_on : (j c : ℕ) → slice_get x j ≡ Some c → (here : AtFound j) → (s : HasSample old new samples c)
        → LeadsToFound old old_last new new_last found here.index here.entry s.sample → AtFound (j + 1)
    go_on j c is here s l =
        let g = word_found l.index l.next l.is in
        record {
          index = l.index;
          entry = l.next;
          is = l.is;
          word = g.0;
          word_is = g.1;
          closures = next_closures old old_last new new_last x j c s.sample is s.old_alike s.new_alike here.entry.pair
              l.next.pair l.leads here.closures;
          order = subst (λ v. ComesFirst g.0 v) (sym (take_next x j c is))
              (first_trans g.0 (here.word ++ c ∷ []) (take j x ++ c ∷ [])
              (first_trans g.0 (here.word ++ s.sample ∷ []) (here.word ++ c ∷ [])
              (lead_order here.word_is g.1 l refl) (last_first here.word s.sample c s.order))
              (first_append here.word (take j x) (c ∷ []) here.order));
        }

    module _ (accepted : Accepts old old_last x (length x)) where
      -- a stack of the old state is left before each symbol
      some_left : (j c : ℕ) → slice_get x j ≡ Some c → j < length x → (here : AtFound j) → here.entry.pair.old ≡ []
          → ⊥
      some_left j c is lt here none =
          let tops = here.entry.pair.old in
          let plain = nothing_below old old_last x j
          (Contains tops) here.entry.pair.old_ended here.closures.old_closure in
          let g = (taken_by_tops old old_last x j c c is (λ q r set rd. (λ h. h, λ h. h)) (Contains tops) [] plain).0
          (reached_before old old_last x accepted.reached (j + 1) (omega (arith, lt))) in
          none_read old old_last tops c g.0 none g.1

      go_or_stop : (j c : ℕ) → slice_get x j ≡ Some c → j < length x → AtFound j ⊎ IsNotAfter
          → AtFound (j + 1) ⊎ IsNotAfter
      go_or_stop j c is lt (inr done) = inr done
      go_or_stop j c is lt (inl here) = by (cases_lt here.index n)
        where
          s : HasSample old new samples c
          s = each c (symbol_at has x j c symbols is)

          on : (here.entry.pair.old ≡ [])
              ⊎ LeadsToFound old old_last new new_last found here.index here.entry s.sample
              → AtFound (j + 1) ⊎ IsNotAfter
          on (inl none) = absurd (some_left j c is lt here none)
          on (inr l) = inl (go_on j c is here s l)

          by : (here.index < n) ⊎ (n ≤ here.index) → AtFound (j + 1) ⊎ IsNotAfter
          by (inl less) = on (searched here.index here.entry less here.is s.sample s.is)
          by (inr le) = inr (stop_there j here le)

      at_each : (j : ℕ) → j ≤ length x → AtFound j ⊎ IsNotAfter
      at_each zero le = inl at_start
      at_each (suc j) le =
          let g = element_at x j (omega (arith, le)) in
          let same : j + 1 ≡ suc j = omega arith in
          subst (λ v. AtFound v ⊎ IsNotAfter) same
          (go_or_stop j g.0 g.1 (omega (arith, le)) (at_each j (omega (arith, le))))

      -- a line that the old grammar alone accepts
      pub alone_past : (Accepts new new_last x (length x) → ⊥) → IsNotAfter
      alone_past not_new = by (at_each (length x) (omega arith))
        where
          at_end : (here : AtFound (length x)) → (here.index < n) ⊎ (n ≤ here.index) → IsNotAfter
          at_end here (inl less) = absurd (not_new (here.closures.new_closure.accepts.1 (
            agree here.index here.entry less here.is (here.closures.old_closure.accepts.0 accepted).0,
            inl refl,
          )))
          at_end here (inr le) = stop_there (length x) here le

          by : AtFound (length x) ⊎ IsNotAfter → IsNotAfter
          by (inr done) = done
          by (inl here) = at_end here (cases_lt here.index n)

module _ (has : ℕ → Bool) (old_rules new_rules : List Rule) (old_rule new_rule : ℕ) (old : Flat)
    (old_last : Dot → Bool) (new : Flat) (new_last : Dot → Bool) (most : ℕ)
    (old_reports : AcceptsRule has old_rules old_rule old old_last most)
    (new_reports : AcceptsRule has new_rules new_rule new new_last most) (samples : List ℕ)
    (each : AreSamples old new has samples) (found : List FoundPair)
    (found_so : AreFound old old_last new new_last found has) (n : ℕ)
    (searched : AreSearched old old_last new new_last found IsOldDead samples n) (agree : EndWithNew found n) where
  abbrev Alone : List ℕ → Type 0
  Alone = IsOfOldAlone has old_rules old_rule new_rules new_rule

  line_past : (x : List ℕ) → length x ≤ most → (alone : Alone x)
      → IsNotAfter has old old_last new new_last found found_so samples each n searched agree x alone.symbols
  line_past x le alone =
      alone_past has old old_last new new_last found found_so samples each n searched agree x alone.symbols
      (derived_accepted has old_rules old_rule old old_last most old_reports x le alone.symbols alone.derives)
      (λ a. alone.not_new (accepted_derived has new_rules new_rule new new_last most new_reports x le alone.symbols a))

  pub none_up_to : (m : ℕ) → m ≤ most → ((w : List ℕ) → IsWordOf found n w → m < length w) → HasNoLineUpTo Alone m
  none_up_to m le long x short alone =
      let g = line_past x (omega (arith, short, le)) alone in
      let e = element_at found n (omega (arith, slice_get_within found g.index g.entry g.is, g.past)) in
      let w = word_found has old old_last new new_last found found_so n e.0 e.1 in
      let order = words_in_order has old old_last new new_last found found_so w.1 g.word_is g.past in
      omega (arith, short, long w.0 w.1, first_length w.0 g.word order, first_length g.word x g.order)

  module _ (e : FoundPair) (w : List ℕ) (is : slice_get found n ≡ Some e) (word_is : IsWordOf found n w)
      (short : n ≤ most) (ended : e.pair.old_ended ≡ true) (runs : e.pair.new_ended ≡ false) where
    within_most : length w ≤ most
    within_most = omega (arith, short, word_length word_is)

    symbols_are : AreLetters has w
    symbols_are = word_symbols has old old_last new new_last found found_so word_is

    closures_there : ArePairClosures old old_last new new_last w (length w) e.pair
    closures_there = subst (λ v. ArePairClosures old old_last new new_last v (length w) e.pair) (append-nil w)
        (word_closures has old old_last new new_last found found_so word_is e is [])

    of_old : Alone w
    of_old = record {
      symbols = symbols_are;
      derives = accepted_derived has old_rules old_rule old old_last most old_reports w within_most symbols_are
          (closures_there.old_closure.accepts.1 (ended, inl refl));
      not_new = λ d. cc (
        runs,
        (closures_there.new_closure.accepts.0
            (derived_accepted has new_rules new_rule new new_last most new_reports w within_most symbols_are d)).0,
      );
    }

    by_length : (v : List ℕ) → Alone v → (most < length v) ⊎ (length v ≤ most) → ComesFirst w v
    by_length v alone (inl lt) = inr (shorter (omega (arith, lt, within_most)))
    by_length v alone (inr le) =
        let g = line_past v le alone in
        first_trans w g.word v
        (words_in_order has old old_last new new_last found found_so word_is g.word_is g.past) g.order

    pub comes_first : IsFirstLine Alone w
    comes_first = (of_old, λ v alone. by_length v alone (cases_lt most (length v)))
