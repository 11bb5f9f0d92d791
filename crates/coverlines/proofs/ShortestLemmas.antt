-- Shortest lists of sets that are made of others.
-- Serves: shorter, joined, repeated, shortest
use Rattle.std.proofs.Common.{◌≡◌, ◌⊎◌, inl, inr, ⊎_elim, ℕ, zero, suc, ◌+◌, ◌-◌, ◌<◌, ◌≤◌, List}
use Rattle.std.proofs.Common.{[], ◌∷◌}
use Rattle.std.proofs.Common.{◌++◌, length, length-append, Option, Some, None, Vec, Global, refl, sym, ◌∙◌, ap, subst}
use Rattle.std.proofs.Common.{arith, append-nil, append_assoc}
use Rattle.abnfread.specs.Element.{Element, Elements, Rep, Rule, none, more, append}
use Rattle.abnfcheck.specs.Derivable as der
use Rattle.abnfcheck.specs.Derivable.{AreLetters, Derives, DerivesAll, DerivesSome, DerivesTimes}
use Rattle.abnfcheck.proofs.YieldsLemmas.{letters_both, letters_parts}
use Rattle.ruletable.specs.Letters.{has}
use Rattle.coverlines.specs.Shortest.{IsShortest, IsShortestOf, Joined, may, Spells, SpellsAll, SpellsSome}
use Rattle.coverlines.specs.Shortest.{SpellsTimes}
use Rattle.coverlines.specs.declared.bounds.LineBounds.{LineBounds}

-- two sets of which each list of the one is as short as one of the other
pub same_shortest : {P Q : List ℕ → Type 0} (limit : ℕ) (found : Option (Vec ℕ Global)) →
    ((w : List ℕ) → P w → Q w) → ((w : List ℕ) → Q w → (v : List ℕ) × P v × length v ≤ length w)
    → IsShortest P limit found → IsShortest Q limit found
same_shortest limit None to from h = λ w q. let v = from w q in let l = h v.0 v.1 in let k = v.2 in omega (arith, l, k)
same_shortest limit (Some w) to from h = record {
  is = to w.items h.is;
  within = h.within;
  least = λ u q. let v = from u q in let l = h.least v.0 v.1 in let k = v.2 in omega (arith, l, k);
}

-- two sets with the same lists
pub alike_shortest : {P Q : List ℕ → Type 0} (limit : ℕ) (found : Option (Vec ℕ Global)) →
    ((w : List ℕ) → P w → Q w) → ((w : List ℕ) → Q w → P w) → IsShortest P limit found → IsShortest Q limit found
alike_shortest limit found to from h = same_shortest limit found to (λ w q. (w, from w q, omega arith)) h

-- the shorter one of two lists
pub first_shorter : {P Q : List ℕ → Type 0} {limit : ℕ} (u v : List ℕ) → length u ≤ length v
    → IsShortestOf P limit u → IsShortestOf Q limit v → IsShortestOf (λ w. P w ⊎ Q w) limit u
first_shorter u v le p q = record {
  is = inl p.is;
  within = p.within;
  least = λ w. ⊎_elim (λ a. p.least w a) (λ c. let l = q.least w c in omega (arith, l, le));
}

pub second_shorter : {P Q : List ℕ → Type 0} {limit : ℕ} (u v : List ℕ) → length v ≤ length u
    → IsShortestOf P limit u → IsShortestOf Q limit v → IsShortestOf (λ w. P w ⊎ Q w) limit v
second_shorter u v le p q = record {
  is = inr q.is;
  within = q.within;
  least = λ w. ⊎_elim (λ a. let l = p.least w a in omega (arith, l, le)) (λ c. q.least w c);
}

pub first_alone : {P Q : List ℕ → Type 0} {limit : ℕ} (u : List ℕ) → IsShortestOf P limit u
    → ((v : List ℕ) → Q v → limit < length v) → IsShortestOf (λ w. P w ⊎ Q w) limit u
first_alone u p q = record {
  is = inl p.is;
  within = p.within;
  least = λ w. ⊎_elim (λ a. p.least w a) (λ c. let l = q w c in let k = p.within in omega (arith, l, k));
}

pub second_alone : (P Q : List ℕ → Type 0) (limit : ℕ) (found : Option (Vec ℕ Global))
    → ((v : List ℕ) → P v → limit < length v) → IsShortest Q limit found → IsShortest (λ w. P w ⊎ Q w) limit found
second_alone P Q limit None p q = λ w. ⊎_elim (λ a. p w a) (λ c. q w c)
second_alone P Q limit (Some u) p q = record {
  is = inr q.is;
  within = q.within;
  least = λ w. ⊎_elim (λ a. let l = p w a in let k = q.within in omega (arith, l, k)) (λ c. q.least w c);
}

-- one list and then another
pub both_joined : {P Q : List ℕ → Type 0} {limit : ℕ} (u v : List ℕ) → length u + length v ≤ limit
    → IsShortestOf P limit u → IsShortestOf Q limit v → IsShortestOf (Joined P Q) limit (u ++ v)
both_joined u v le p q = record {
  is = record { front = u; back = v; first = p.is; second = q.is; is = refl };
  within = let n = length-append u v in omega (arith, n, le);
  least = λ w j.
      let a = p.least j.front j.first in
      let c = q.least j.back j.second in
      let n = ap length j.is ∙ length-append j.front j.back in
      let m = length-append u v in omega (arith, a, c, n, m);
}

pub too_long : {P Q : List ℕ → Type 0} {limit : ℕ} (u v : List ℕ) → limit < length u + length v
    → IsShortestOf P limit u → IsShortestOf Q limit v → (w : List ℕ) → Joined P Q w → limit < length w
too_long u v over p q w j =
    let a = p.least j.front j.first in
    let c = q.least j.back j.second in
    let n = ap length j.is ∙ length-append j.front j.back in omega (arith, a, c, n, over)

pub no_front : {P Q : List ℕ → Type 0} {limit : ℕ} → ((v : List ℕ) → P v → limit < length v)
    → (w : List ℕ) → Joined P Q w → limit < length w
no_front p w j = let a = p j.front j.first in
    let n = ap length j.is ∙ length-append j.front j.back in omega (arith, a, n)

pub no_back : {P Q : List ℕ → Type 0} {limit : ℕ} → ((v : List ℕ) → Q v → limit < length v)
    → (w : List ℕ) → Joined P Q w → limit < length w
no_back q w j = let a = q j.back j.second in
    let n = ap length j.is ∙ length-append j.front j.back in omega (arith, a, n)

module _ (b : LineBounds) (rules : List Rule) where
  all_snoc : {es : Elements} {e : Element} {u v : List ℕ} → DerivesAll (has b.alphabet) rules es u
      → Derives (has b.alphabet) rules e v → DerivesAll (has b.alphabet) rules (append es (more e none)) (u ++ v)
  all_snoc {e = e} {v = v} der.all_done d =
      subst (λ w. DerivesAll (has b.alphabet) rules (more e none) w) (append-nil v) (der.then d der.all_done)
  all_snoc {es = more f fs} {e = e} {v = v} (der.then {w = w} {v = x} c cs) d =
      subst (λ y. DerivesAll (has b.alphabet) rules (more f (append fs (more e none))) y) (sym (append_assoc w x v))
      (der.then c (all_snoc cs d))

  all_parts : (es : Elements) (e : Element) (w : List ℕ) → DerivesAll (has b.alphabet) rules (append es (more e none)) w
      → Joined (DerivesAll (has b.alphabet) rules es) (Derives (has b.alphabet) rules e) w
  all_parts none e w (der.then {w = u} d der.all_done) = record {
    front = [];
    back = u;
    first = der.all_done;
    second = d;
    is = append-nil u;
  }
  all_parts (more f fs) e w (der.then {w = u} {v = x} c cs) =
      let h = all_parts fs e x cs in record {
        front = u ++ h.front;
        back = h.back;
        first = der.then c h.first;
        second = h.second;
        is = ap (λ y. u ++ y) h.is ∙ sym (append_assoc u h.front h.back);
      }

  -- the members so far, and one more
  pub all_joined : (es : Elements) (e : Element) (limit : ℕ) (found : Option (Vec ℕ Global))
      → IsShortest (Joined (SpellsAll b rules es) (Spells b rules e)) limit found
      → IsShortest (SpellsAll b rules (append es (more e none))) limit found
  all_joined es e limit found h = alike_shortest limit found
      (λ w j. record {
        symbols = subst (AreLetters (may b)) (sym j.is) (letters_both (may b) j.front j.back j.first.symbols
            j.second.symbols);
        is = subst (DerivesAll (has b.alphabet) rules (append es (more e none))) (sym j.is)
            (all_snoc j.first.is j.second.is);
      })
      (λ w s. let j = all_parts es e w s.is in
      let two = letters_parts (may b) j.front j.back (subst (AreLetters (may b)) j.is s.symbols) in record {
        front = j.front;
        back = j.back;
        first = record { symbols = two.0; is = j.first };
        second = record { symbols = two.1; is = j.second };
        is = j.is;
      }) h

  some_snoc : {es : Elements} (e : Element) {w : List ℕ} → DerivesSome (has b.alphabet) rules es w
      → DerivesSome (has b.alphabet) rules (append es (more e none)) w
  some_snoc e (der.this d) = der.this d
  some_snoc e (der.later s) = der.later (some_snoc e s)

  some_last : (es : Elements) {e : Element} {w : List ℕ} → Derives (has b.alphabet) rules e w
      → DerivesSome (has b.alphabet) rules (append es (more e none)) w
  some_last none d = der.this d
  some_last (more f fs) d = der.later (some_last fs d)

  some_parts : (es : Elements) (e : Element) (w : List ℕ) →
      DerivesSome (has b.alphabet) rules (append es (more e none)) w
      → DerivesSome (has b.alphabet) rules es w ⊎ Derives (has b.alphabet) rules e w
  some_parts none e w (der.this d) = inr d
  some_parts none e w (der.later s) = elim s [ ]
  some_parts (more f fs) e w (der.this d) = inl (der.this d)
  some_parts (more f fs) e w (der.later s) = ⊎_elim (λ l. inl (der.later l)) (λ r. inr r) (some_parts fs e w s)

  -- the alternatives so far, and one more
  pub some_or : (es : Elements) (e : Element) (limit : ℕ) (found : Option (Vec ℕ Global))
      → IsShortest (λ w. SpellsSome b rules es w ⊎ Spells b rules e w) limit found
      → IsShortest (SpellsSome b rules (append es (more e none))) limit found
  some_or es e limit found h = alike_shortest limit found
      (λ w. ⊎_elim (λ s. record { symbols = s.symbols; is = some_snoc e s.is })
      (λ s. record { symbols = s.symbols; is = some_last es s.is }))
      (λ w s. ⊎_elim (λ l. inl (record { symbols = s.symbols; is = l }))
      (λ r. inr (record { symbols = s.symbols; is = r })) (some_parts es e w s.is)) h

  -- so many rounds, and the first of them
  pub times_front : {e : Element} (k l : ℕ) (w : List ℕ) → DerivesTimes (has b.alphabet) rules e (k + l) w
      → Joined (DerivesTimes (has b.alphabet) rules e k) (DerivesTimes (has b.alphabet) rules e l) w
  times_front {e} zero l w d = record {
    front = [];
    back = w;
    first = der.no_more;
    second = subst (λ n. DerivesTimes (has b.alphabet) rules e n w) (omega arith) d;
    is = refl;
  }
  times_front {e} (suc k) l w d = by (λ x cs. times_front k l x cs)
      (subst (λ n. DerivesTimes (has b.alphabet) rules e n w) (omega arith) d)
    where
      by : {w : List ℕ} → ((x : List ℕ) → DerivesTimes (has b.alphabet) rules e (k + l) x
          → Joined (DerivesTimes (has b.alphabet) rules e k) (DerivesTimes (has b.alphabet) rules e l) x)
          → DerivesTimes (has b.alphabet) rules e (suc (k + l)) w
          → Joined (DerivesTimes (has b.alphabet) rules e (suc k)) (DerivesTimes (has b.alphabet) rules e l) w
      by fewer (der.one_more {w = u} {v = x} c cs) = let h = fewer x cs in record {
        front = u ++ h.front;
        back = h.back;
        first = der.one_more c h.first;
        second = h.second;
        is = ap (λ y. u ++ y) h.is ∙ sym (append_assoc u h.front h.back);
      }

  pub times_both : {e : Element} {k l : ℕ} {u v : List ℕ} → DerivesTimes (has b.alphabet) rules e k u
      → DerivesTimes (has b.alphabet) rules e l v → DerivesTimes (has b.alphabet) rules e (k + l) (u ++ v)
  times_both {e} {l = l} {v = v} der.no_more d = subst (λ n. DerivesTimes (has b.alphabet) rules e n v) (omega arith) d
  times_both {e} {k = suc k} {l = l} {v = v} (der.one_more {w = w} {v = x} c cs) d =
      subst (λ n. DerivesTimes (has b.alphabet) rules e n ((w ++ x) ++ v)) (omega arith)
      (subst (λ y. DerivesTimes (has b.alphabet) rules e (suc (k + l)) y) (sym (append_assoc w x v))
      (der.one_more c (times_both cs d)))

  pub once_derived : {e : Element} {w : List ℕ} → Derives (has b.alphabet) rules e w
      → DerivesTimes (has b.alphabet) rules e 1 w
  once_derived {e} {w} d = subst (λ y. DerivesTimes (has b.alphabet) rules e 1 y) (append-nil w)
      (der.one_more d der.no_more)

  one_derived : {e : Element} {w : List ℕ} → DerivesTimes (has b.alphabet) rules e 1 w
      → Derives (has b.alphabet) rules e w
  one_derived {e} (der.one_more {w = w} d der.no_more) = subst (Derives (has b.alphabet) rules e) (sym (append-nil w)) d

  -- the rounds so far, and one more
  pub times_next : (e : Element) (k limit : ℕ) (found : Option (Vec ℕ Global))
      → IsShortest (Joined (SpellsTimes b rules e k) (Spells b rules e)) limit found
      → IsShortest (SpellsTimes b rules e (k + 1)) limit found
  times_next e k limit found h = alike_shortest limit found
      (λ w j. record {
        symbols = subst (AreLetters (may b)) (sym j.is) (letters_both (may b) j.front j.back j.first.symbols
            j.second.symbols);
        is = subst (DerivesTimes (has b.alphabet) rules e (k + 1)) (sym j.is) (times_both j.first.is
            (once_derived j.second.is));
      })
      (λ w s. let j = times_front k 1 w s.is in
      let two = letters_parts (may b) j.front j.back (subst (AreLetters (may b)) j.is s.symbols) in record {
        front = j.front;
        back = j.back;
        first = record { symbols = two.0; is = j.first };
        second = record { symbols = two.1; is = one_derived j.second };
        is = j.is;
      }) h

  -- more rounds are no shorter than fewer
  pub fewer_rounds : (e : Element) (k l : ℕ) (w : List ℕ) → k ≤ l → SpellsTimes b rules e l w
      → (v : List ℕ) × SpellsTimes b rules e k v × length v ≤ length w
  fewer_rounds e k l w le s =
      let j = times_front k (l - k) w (subst (λ n. DerivesTimes (has b.alphabet) rules e n w) (omega (arith, le))
      s.is) in
      let two = letters_parts (may b) j.front j.back (subst (AreLetters (may b)) j.is s.symbols) in
      let n = ap length j.is ∙ length-append j.front j.back in
      (j.front, record { symbols = two.0; is = j.first }, omega (arith, n))

  -- a repetition takes as few rounds as it may
  pub rep_least : (a : ℕ) (most : Option ℕ) (e : Element) (limit : ℕ) (found : Option (Vec ℕ Global))
      → der.AtMost a most
      → IsShortest (SpellsTimes b rules e a) limit found
      → IsShortest (Spells b rules (Rep a most e)) limit found
  rep_least a most e limit found allowed h = same_shortest limit found
      (λ w s. record { symbols = s.symbols; is = der.rep (omega arith) allowed s.is })
      (λ w s. by w s.symbols s.is) h
    where
      by : (w : List ℕ) → AreLetters (may b) w → Derives (has b.alphabet) rules (Rep a most e) w
          → (v : List ℕ) × SpellsTimes b rules e a v × length v ≤ length w
      by w good (der.rep {k = k} low within d) = fewer_rounds e a k w low (record { symbols = good; is = d })

  -- so many rounds, of which none has a symbol
  pub empty_times : {e : Element} (k : ℕ) → Derives (has b.alphabet) rules e []
      → DerivesTimes (has b.alphabet) rules e k []
  empty_times zero d = der.no_more
  empty_times (suc k) d = der.one_more d (empty_times k d)

  -- no round at all
  pub no_rounds : (e : Element) (limit : ℕ) (w : List ℕ) → w ≡ [] → IsShortestOf (SpellsTimes b rules e 0) limit w
  no_rounds e limit w is = subst (IsShortestOf (SpellsTimes b rules e 0) limit) (sym is) (record {
    is = record { symbols = tt; is = der.no_more };
    within = omega arith;
    least = λ v s. omega arith;
  })

  pub empty_rounds : (e : Element) (k limit : ℕ) (w : List ℕ) → length w ≡ 0 → IsShortestOf (Spells b rules e) limit w
      → IsShortestOf (SpellsTimes b rules e k) limit w
  empty_rounds e k limit [] is h = record {
    is = record { symbols = tt; is = empty_times k h.is.is };
    within = h.within;
    least = λ v s. omega arith;
  }
  empty_rounds e k limit (c ∷ w) is h = absurd (omega (arith, is))

  -- where no list of one round fits, none of more does
  pub no_round : (e : Element) (k limit : ℕ) → 0 < k → ((v : List ℕ) → Spells b rules e v → limit < length v)
      → (w : List ℕ) → SpellsTimes b rules e k w → limit < length w
  no_round e k limit some never w s =
      let f = fewer_rounds e 1 k w (omega (arith, some)) s in
      let l = never f.0 (record { symbols = f.1.symbols; is = one_derived f.1.is }) in
      let n = f.2 in omega (arith, l, n)

  -- where no list of some rounds fits, none of more does
  pub no_more_rounds : (e : Element) (k l limit : ℕ) → k ≤ l
      → ((v : List ℕ) → SpellsTimes b rules e k v → limit < length v)
      → (w : List ℕ) → SpellsTimes b rules e l w → limit < length w
  no_more_rounds e k l limit le never w s =
      let f = fewer_rounds e k l w le s in let m = never f.0 f.1 in let n = f.2 in omega (arith, m, n)
