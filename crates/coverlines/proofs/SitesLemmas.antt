-- The sites of an operand as those of the whole.
-- Serves: sites
use Rattle.std.proofs.Common.{◌≡◌, ◌⊎◌, ⊎_elim, Bool, ℕ, zero, suc, ◌+◌, ◌-◌, ◌<◌, ◌≤◌, List, [], ◌∷◌, ◌++◌, map}
use Rattle.std.proofs.Common.{take, drop}
use Rattle.std.proofs.Common.{get_or, length, length-append, length-drop, append-nil, Contains, Option}
use Rattle.std.proofs.Common.{Some, None, Vec}
use Rattle.std.proofs.Common.{Global, refl, sym, ◌∙◌, ap, subst, arith}
use Rattle.std.proofs.lemmas.Bool.{cases_eq}
use Rattle.std.proofs.lemmas.List.Elements.{Contains-append_left, Contains-append_right, Contains-append_cases}
use Rattle.std.proofs.lemmas.List.{take-append-drop}
use Rattle.abnfread.specs.AbnfViews.{element_of, elements_of}
use Rattle.abnfread.specs.Element as e
use Rattle.abnfread.specs.Element.{Element, Elements, Rule}
use Rattle.abnfread.specs.declared.elem.Elem.{Elem}
use Rattle.abnfcheck.specs.Derivable as der
use Rattle.abnfcheck.specs.Derivable.{AreLetters, AtMost, DerivesAll}
use Rattle.abnfcheck.proofs.YieldsLemmas.{letters_both, letters_parts}
use Rattle.ruletable.specs.Letters.{has}
use Rattle.coverlines.specs.Goals as g
use Rattle.coverlines.specs.Goals.{Beside, Inside, member_at}
use Rattle.coverlines.specs.Sites.{AddsSites, AreSites, AreSitesTo, HasShorter, IsLeastAt, IsSiteBelow, MayAddSites}
use Rattle.coverlines.specs.Sites.{OtherRounds, StandsAt, Stood, room_of, stood_in, stood_of}
use Rattle.coverlines.specs.Shortest.{IsShortest, may, SpellsAll, SpellsTimes}
use Rattle.coverlines.specs.declared.bounds.LineBounds.{LineBounds}
use Rattle.coverlines.specs.declared.sites.Site.{Site}
use Rattle.coverlines.proofs.MemberLemmas.{first_in, from_mapped, mapped_in, only_in}
use Rattle.coverlines.proofs.ShortestLemmas.{fewer_rounds, same_shortest, times_both}

-- with the first list before it and the second after it, in shortest lists
abbrev pub LeastPair : (List ℕ → List ℕ → Type 0) → ℕ → Option (Vec ℕ Global) → Option (Vec ℕ Global) → Type 0
LeastPair C limit None back = (u v : List ℕ) → C u v → limit < length u + length v
LeastPair C limit (Some f) None = (u v : List ℕ) → C u v → limit < length u + length v
LeastPair C limit (Some f) (Some k) = C f.items k.items
    × ((u v : List ℕ) → C u v → length f.items + length k.items ≤ length u + length v)

-- what stands round an operand
pub record Split (C : List ℕ → List ℕ → Type 0) (P : Stood → Type 0) (s : Stood) : Type 0 where
  pub front : List ℕ
  pub back : List ℕ
  pub inner : Stood
  pub round : C front back
  pub stands : P inner
  pub is : s ≡ stood_in front back inner

pub room_in : (u v : List ℕ) (s : Stood) → room_of (stood_in u v s) ≡ (length u + length v) + room_of s
room_in u v s = let n = length-append u s.before in let m = length-append s.after v in omega (arith, n, m)

take_all : {A : Type 0} (xs : List A) → take (length xs) xs ≡ xs
take_all [] = refl
take_all (x ∷ xs) = ap (λ v. x ∷ v) (take_all xs)

-- the members from one on
pub rest_taken : (es : List Elem) (k : ℕ) → take (length es - k) (drop k es) ≡ drop k es
rest_taken es k = ap (λ n. take n (drop k es)) (sym (length-drop k es)) ∙ take_all (drop k es)

module _ (b : LineBounds) (rules : List Rule) where
  module _ (whole d : Element) (i : ℕ) (C : List ℕ → List ℕ → Type 0)
      (make : (p : List ℕ) (s : Stood) (u v : List ℕ) → C u v → StandsAt b rules d p s
      → StandsAt b rules whole (i ∷ p) (stood_in u v s))
      (split : (p : List ℕ) (s : Stood) → StandsAt b rules whole (i ∷ p) s → Split C (StandsAt b rules d p) s) where
    nothing_added : (old : List Stood) → ((u v : List ℕ) → C u v → b.limit < length u + length v)
        → AreSitesTo b rules whole i old → AreSitesTo b rules whole (i + 1) old
    nothing_added old never h = record {
      right = h.right;
      complete = complete;
    }
      where
        complete : (p : List ℕ) (s : Stood) → IsSiteBelow (i + 1) p → StandsAt b rules whole p s
            → room_of s ≤ b.limit → HasShorter b rules whole old p s
        complete [] s below at le = h.complete [] s tt at le
        complete (j ∷ p) s below at le = ⊎_elim
            (λ same. let t = split p s (subst (λ k. StandsAt b rules whole (k ∷ p) s) same at) in
            let far = never t.front t.back t.round in
            let n = ap room_of t.is ∙ room_in t.front t.back t.inner in absurd (omega (arith, far, n, le)))
            (λ other. h.complete (j ∷ p) s (omega (arith, below, other)) at le) (cases_eq j i)

    sites_added : (f k : List ℕ) (old new : List Stood) → C f k
        → ((u v : List ℕ) → C u v → length f + length k ≤ length u + length v)
        → AreSitesTo b rules whole i old → AddsSites b rules d f k old new
        → AreSitesTo b rules whole (i + 1) new
    sites_added f k old new here least h a = record {
      right = λ s among. ⊎_elim (λ l. h.right s l)
          (λ r. let m = from_mapped (stood_in f k) s a.inner r in
          let at = a.sites.right m.0 m.1 in (
            i ∷ at.0,
            subst (IsLeastAt b rules whole (i ∷ at.0)) m.2
                (fewest at.0 m.0 at.1),
          ))
          (Contains-append_cases old (map (stood_in f k) a.inner) s (subst (λ xs. Contains xs s) a.is among));
      complete = complete;
    }
      where
        fewest : (p : List ℕ) (s : Stood) → IsLeastAt b rules d p s
            → IsLeastAt b rules whole (i ∷ p) (stood_in f k s)
        fewest p s at = record {
          stands = make p s f k here at.stands;
          least = λ t there.
              let o = split p t there in
              let n = ap room_of o.is ∙ room_in o.front o.back o.inner in
              let few = least o.front o.back o.round in
              let m = at.least o.inner o.stands in
              let l = room_in f k s in omega (arith, n, few, m, l);
        }

        longer : (p : List ℕ) (s : Stood) → HasShorter b rules whole old p s → HasShorter b rules whole new p s
        longer p s m = record {
          other = m.other;
          among = subst (λ xs. Contains xs m.other) (sym a.is)
              (Contains-append_left old (map (stood_in f k) a.inner) m.other m.among);
          stands = m.stands;
          same = m.same;
          within = m.within;
        }

        own : (p : List ℕ) (s : Stood) → StandsAt b rules whole (i ∷ p) s → room_of s ≤ b.limit
            → HasShorter b rules whole new (i ∷ p) s
        own p s at le =
            let t = split p s at in
            let n = ap room_of t.is ∙ room_in t.front t.back t.inner in
            let few = least t.front t.back t.round in
            let m = a.sites.complete p t.inner t.stands (omega (arith, n, le)) in
            let l = room_in f k m.other in
            let w = m.within in record {
              other = stood_in f k m.other;
              among = subst (λ xs. Contains xs (stood_in f k m.other)) (sym a.is)
                  (Contains-append_right old (map (stood_in f k) a.inner) (stood_in f k m.other)
                  (mapped_in (stood_in f k) m.other a.inner m.among));
              stands = make p m.other f k here m.stands;
              same = m.same ∙ sym (ap (λ (x : Stood). x.element) t.is);
              within = omega (arith, n, few, l, w);
            }

        complete : (p : List ℕ) (s : Stood) → IsSiteBelow (i + 1) p → StandsAt b rules whole p s
            → room_of s ≤ b.limit → HasShorter b rules whole new p s
        complete [] s below at le = longer [] s (h.complete [] s tt at le)
        complete (j ∷ p) s below at le = ⊎_elim
            (λ same. subst (λ k. HasShorter b rules whole new (k ∷ p) s) (sym same)
            (own p s (subst (λ k. StandsAt b rules whole (k ∷ p) s) same at) le))
            (λ other. longer (j ∷ p) s (h.complete (j ∷ p) s (omega (arith, below, other)) at le)) (cases_eq j i)

    -- an operand more
    pub operand_added : (front back : Option (Vec ℕ Global)) (old new : List Stood) → LeastPair C b.limit front back
        → AreSitesTo b rules whole i old → MayAddSites b rules d front back old new
        → AreSitesTo b rules whole (i + 1) new
    operand_added None back old new never h is = subst (AreSitesTo b rules whole (i + 1)) (sym is)
        (nothing_added old never h)
    operand_added (Some f) None old new never h is = subst (AreSitesTo b rules whole (i + 1)) (sym is)
        (nothing_added old never h)
    operand_added (Some f) (Some k) old new least h a = sites_added f.items k.items old new least.0 least.1 h a

  -- the whole stands in itself alone
  pub whole_placed : (whole : Element) (only : Stood) → only.element ≡ whole → only.before ≡ [] → only.after ≡ []
      → AreSitesTo b rules whole 0 (only ∷ [])
  whole_placed whole only same front back = record {
    right = λ s among. ([], subst (IsLeastAt b rules whole []) (only_in only s among) fewest);
    complete = complete;
  }
    where
      there : StandsAt b rules whole [] only
      there = record {
        inside = rw (same, front, back) g.itself;
        before = rw front tt;
        after = rw back tt;
      }

      fewest : IsLeastAt b rules whole [] only
      fewest = record {
        stands = there;
        least = λ t at. let n = ap length front in let m = ap length back in omega (arith, n, m);
      }

      element_is : {a el : Element} {x y : List ℕ} → Inside (has b.alphabet) (may b) rules a [] el x y → a ≡ el
      element_is g.itself = refl

      complete : (p : List ℕ) (s : Stood) → IsSiteBelow 0 p → StandsAt b rules whole p s → room_of s ≤ b.limit
          → HasShorter b rules whole (only ∷ []) p s
      complete [] s below at le = record {
        other = only;
        among = first_in only [];
        stands = there;
        same = same ∙ element_is at.inside;
        within = let n = ap length front in let m = ap length back in omega (arith, n, m);
      }
      complete (j ∷ p) s below at le = absurd (omega (arith, below))

  -- all sites lead through the operands
  pub all_placed : (whole : Element) (n : ℕ) (all : List Stood) →
      ((i : ℕ) (p : List ℕ) (s : Stood) → StandsAt b rules whole (i ∷ p) s → i < n) →
      AreSitesTo b rules whole n all → AreSites b rules whole all
  all_placed whole n all below h = record {
    right = h.right;
    complete = complete;
  }
    where
      complete : (p : List ℕ) (s : Stood) → StandsAt b rules whole p s → room_of s ≤ b.limit
          → HasShorter b rules whole all p s
      complete [] s at le = h.complete [] s tt at le
      complete (i ∷ p) s at le = h.complete (i ∷ p) s (below i p s at) at le

  -- an operand of an option
  pub opt_make : (d : Element) (p : List ℕ) (s : Stood) (u v : List ℕ) → (u ≡ []) × (v ≡ []) → StandsAt b rules d p s
      → StandsAt b rules (e.Opt d) (0 ∷ p) (stood_in u v s)
  opt_make d p s u v bare at = rw (bare.0, bare.1, append-nil s.after) (record {
    inside = g.in_opt at.inside;
    before = at.before;
    after = at.after;
  })

  pub opt_split : (d : Element) (p : List ℕ) (s : Stood) → StandsAt b rules (e.Opt d) (0 ∷ p) s
      → Split (λ u v. (u ≡ []) × (v ≡ [])) (StandsAt b rules d p) s
  opt_split d p s at = record {
    front = [];
    back = [];
    inner = s;
    round = (refl, refl);
    stands = record { inside = inside at.inside; before = at.before; after = at.after };
    is = rw (append-nil s.after) refl;
  }
    where
      inside : {x y : List ℕ} {el : Element} → Inside (has b.alphabet) (may b) rules (e.Opt d) (0 ∷ p) el x y
          → Inside (has b.alphabet) (may b) rules d p el x y
      inside (g.in_opt i) = i

  pub opt_below : (d : Element) (i : ℕ) (p : List ℕ) (s : Stood) → StandsAt b rules (e.Opt d) (i ∷ p) s → i < 1
  opt_below d i p s at = by at.inside
    where
      by : {i : ℕ} {x y p : List ℕ} {el : Element} → Inside (has b.alphabet) (may b) rules (e.Opt d) (i ∷ p) el x y
          → i < 1
      by (g.in_opt h) = omega arith

  -- an alternative
  pub alt_make : (es : Elements) (d : Element) (i : ℕ) → member_at es i ≡ Some d → (p : List ℕ) (s : Stood)
      (u v : List ℕ) → (u ≡ []) × (v ≡ []) → StandsAt b rules d p s
      → StandsAt b rules (e.Alt es) (i ∷ p) (stood_in u v s)
  alt_make es d i is p s u v bare at = rw (bare.0, bare.1, append-nil s.after) (record {
    inside = g.in_alt is at.inside;
    before = at.before;
    after = at.after;
  })

  pub alt_split : (es : Elements) (d : Element) (i : ℕ) → member_at es i ≡ Some d → (p : List ℕ) (s : Stood)
      → StandsAt b rules (e.Alt es) (i ∷ p) s → Split (λ u v. (u ≡ []) × (v ≡ [])) (StandsAt b rules d p) s
  alt_split es d i is p s at = record {
    front = [];
    back = [];
    inner = s;
    round = (refl, refl);
    stands = record { inside = inside at.inside; before = at.before; after = at.after };
    is = rw (append-nil s.after) refl;
  }
    where
      inside : {x y : List ℕ} {el : Element} → Inside (has b.alphabet) (may b) rules (e.Alt es) (i ∷ p) el x y
          → Inside (has b.alphabet) (may b) rules d p el x y
      inside {x} {y} {el} (g.in_alt {m = m} at h) = let same : m ≡ d = cc (at, is) in
          subst (λ k. Inside (has b.alphabet) (may b) rules k p el x y) same h

  -- the other rounds of a repetition
  pub record Rounds (a : ℕ) (most : Option ℕ) (d : Element) (u v : List ℕ) : Type 0 where
    pub front : ℕ
    pub back : ℕ
    pub low : a ≤ front + 1 + back
    pub high : AtMost (front + 1 + back) most
    pub before : SpellsTimes b rules d front u
    pub after : SpellsTimes b rules d back v

  pub rep_make : (a : ℕ) (most : Option ℕ) (d : Element) (p : List ℕ) (s : Stood) (u v : List ℕ) → Rounds a most d u v
      → StandsAt b rules d p s → StandsAt b rules (e.Rep a most d) (0 ∷ p) (stood_in u v s)
  rep_make a most d p s u v t at = record {
    inside = g.in_rep t.low t.high t.before.is t.after.is at.inside;
    before = letters_both (may b) u s.before t.before.symbols at.before;
    after = letters_both (may b) s.after v at.after t.after.symbols;
  }

  pub rep_split : (a : ℕ) (most : Option ℕ) (d : Element) (p : List ℕ) (s : Stood)
      → StandsAt b rules (e.Rep a most d) (0 ∷ p) s → Split (Rounds a most d) (StandsAt b rules d p) s
  rep_split a most d p s at = by s.before s.after refl refl at.inside
    where
      by : (x y : List ℕ) → x ≡ s.before → y ≡ s.after
          → Inside (has b.alphabet) (may b) rules (e.Rep a most d) (0 ∷ p) s.element x y
          → Split (Rounds a most d) (StandsAt b rules d p) s
      by x y same alike (g.in_rep {k = k} {l = l} {u = u} {v = v} {x = m} {y = n} low high front back h) =
          let one = letters_parts (may b) u m (subst (AreLetters (may b)) (sym same) at.before) in
          let two = letters_parts (may b) n v (subst (AreLetters (may b)) (sym alike) at.after) in record {
            front = u;
            back = v;
            inner = record { element = s.element; before = m; after = n };
            round = record {
              front = k;
              back = l;
              low = low;
              high = high;
              before = record { symbols = one.0; is = front };
              after = record { symbols = two.1; is = back };
            };
            stands = record { inside = h; before = one.1; after = two.0 };
            is = rw (same, alike) refl;
          }

  pub rep_below : (a : ℕ) (most : Option ℕ) (d : Element) (i : ℕ) (p : List ℕ) (s : Stood)
      → StandsAt b rules (e.Rep a most d) (i ∷ p) s → i < 1
  rep_below a most d i p s at = by at.inside
    where
      by : {i : ℕ} {x y p : List ℕ} {el : Element}
          → Inside (has b.alphabet) (may b) rules (e.Rep a most d) (i ∷ p) el x y → i < 1
      by (g.in_rep low high front back h) = omega arith

  -- the members before one and those after it
  beside_parts : (es : List Elem) (i : ℕ) {m : Element} {u v : List ℕ}
      → Beside (has b.alphabet) (may b) rules (elements_of es) i m u v
      → DerivesAll (has b.alphabet) rules (elements_of (take i es)) u
      × DerivesAll (has b.alphabet) rules (elements_of (drop (suc i) es)) v
  beside_parts [] i h = elim h [ ]
  beside_parts (x ∷ es) zero (g.first_member d) = (der.all_done, d)
  beside_parts (x ∷ es) (suc i) (g.later_member d h) = let r = beside_parts es i h in (der.then d r.0, r.1)

  member_is : {es : Elements} {i : ℕ} {m : Element} {u v : List ℕ} → Beside (has b.alphabet) (may b) rules es i m u v
      → member_at es i ≡ Some m
  member_is (g.first_member d) = refl
  member_is (g.later_member d h) = member_is h

  beside_of : (es : List Elem) (i : ℕ) (el : Elem) {u v : List ℕ} → i < length es → el ≡ get_or es i el
      → DerivesAll (has b.alphabet) rules (elements_of (take i es)) u
      → DerivesAll (has b.alphabet) rules (elements_of (drop (suc i) es)) v
      → Beside (has b.alphabet) (may b) rules (elements_of es) i (element_of el) u v
  beside_of [] i el lt is front back = absurd (omega (arith, lt))
  beside_of (x ∷ es) zero el {v = v} lt is der.all_done back =
      subst (λ m. Beside (has b.alphabet) (may b) rules (elements_of (x ∷ es)) 0 (element_of m) [] v) (sym is)
      (g.first_member back)
  beside_of (x ∷ es) (suc i) el lt is (der.then d ds) back =
      g.later_member d (beside_of es i el (omega (arith, lt)) is ds back)

  -- what stands round a member
  pub record Members (es : Elements) (d : Element) (i : ℕ) (u v : List ℕ) : Type 0 where
    pub beside : Beside (has b.alphabet) (may b) rules es i d u v
    pub before : AreLetters (may b) u
    pub after : AreLetters (may b) v

  pub concat_make : (es : Elements) (d : Element) (i : ℕ) (p : List ℕ) (s : Stood) (u v : List ℕ)
      → Members es d i u v → StandsAt b rules d p s → StandsAt b rules (e.Concat es) (i ∷ p) (stood_in u v s)
  concat_make es d i p s u v m at = record {
    inside = g.in_concat m.beside at.inside;
    before = letters_both (may b) u s.before m.before at.before;
    after = letters_both (may b) s.after v at.after m.after;
  }

  pub concat_split : (es : Elements) (d : Element) (i : ℕ) → member_at es i ≡ Some d → (p : List ℕ) (s : Stood)
      → StandsAt b rules (e.Concat es) (i ∷ p) s → Split (Members es d i) (StandsAt b rules d p) s
  concat_split es d i is p s at = by s.before s.after refl refl at.inside
    where
      by : (x y : List ℕ) → x ≡ s.before → y ≡ s.after
          → Inside (has b.alphabet) (may b) rules (e.Concat es) (i ∷ p) s.element x y
          → Split (Members es d i) (StandsAt b rules d p) s
      by x y same alike (g.in_concat {m = m} {u = u} {v = v} {x = f} {y = k} beside h) =
          let one = letters_parts (may b) u f (subst (AreLetters (may b)) (sym same) at.before) in
          let two = letters_parts (may b) k v (subst (AreLetters (may b)) (sym alike) at.after) in
          let there = member_is beside in
          let own : m ≡ d = cc (there, is) in record {
            front = u;
            back = v;
            inner = record { element = s.element; before = f; after = k };
            round = record {
              beside = subst (λ n. Beside (has b.alphabet) (may b) rules es i n u v) own beside;
              before = one.0;
              after = two.1;
            };
            stands = record {
              inside = subst (λ n. Inside (has b.alphabet) (may b) rules n p s.element f k) own h;
              before = one.1;
              after = two.0;
            };
            is = rw (same, alike) refl;
          }

  pub member_get : (es : List Elem) (i : ℕ) (el : Elem) → i < length es → el ≡ get_or es i el
      → member_at (elements_of es) i ≡ Some (element_of el)
  member_get [] i el lt is = absurd (omega (arith, lt))
  member_get (x ∷ es) zero el lt is = ap (λ m. Some (element_of m)) (sym is)
  member_get (x ∷ es) (suc i) el lt is = member_get es i el (omega (arith, lt)) is

  pub member_below : (es : List Elem) (i : ℕ) (m : Element) → member_at (elements_of es) i ≡ Some m → i < length es
  member_below [] i m is = absurd (cc is)
  member_below (x ∷ es) zero m is = omega arith
  member_below (x ∷ es) (suc i) m is = let lt = member_below es i m is in omega (arith, lt)

  pub concat_below : (es : List Elem) (i : ℕ) (p : List ℕ) (s : Stood)
      → StandsAt b rules (e.Concat (elements_of es)) (i ∷ p) s → i < length es
  concat_below es i p s at = by at.inside
    where
      by : {x y : List ℕ} {el : Element}
          → Inside (has b.alphabet) (may b) rules (e.Concat (elements_of es)) (i ∷ p) el x y → i < length es
      by (g.in_concat {m = m} beside h) = member_below es i m (member_is beside)

  pub alt_below : (es : List Elem) (i : ℕ) (p : List ℕ) (s : Stood)
      → StandsAt b rules (e.Alt (elements_of es)) (i ∷ p) s → i < length es
  alt_below es i p s at = by at.inside
    where
      by : {x y : List ℕ} {el : Element}
          → Inside (has b.alphabet) (may b) rules (e.Alt (elements_of es)) (i ∷ p) el x y → i < length es
      by (g.in_alt {m = m} is h) = member_below es i m is

  -- shortest lists round a member
  pub members_least : (es : List Elem) (i : ℕ) (el : Elem) → i < length es → el ≡ get_or es i el →
      (front back : Option (Vec ℕ Global)) →
      IsShortest (SpellsAll b rules (elements_of (take i es))) b.limit front →
      IsShortest (SpellsAll b rules (elements_of (drop (suc i) es))) b.limit back →
      LeastPair (Members (elements_of es) (element_of el) i) b.limit front back
  members_least es i el lt is None back h k = λ u v m.
      let r = beside_parts es i m.beside in
      let n = h u (record { symbols = m.before; is = r.0 }) in omega (arith, n)
  members_least es i el lt is (Some f) None h k = λ u v m.
      let r = beside_parts es i m.beside in
      let n = k v (record { symbols = m.after; is = r.1 }) in omega (arith, n)
  members_least es i el lt is (Some f) (Some t) h k = (
    record {
      beside = beside_of es i el lt is h.is.is k.is.is;
      before = h.is.symbols;
      after = k.is.symbols;
    },
    λ u v m.
        let r = beside_parts es i m.beside in
        let n = h.least u (record { symbols = m.before; is = r.0 }) in
        let l = k.least v (record { symbols = m.after; is = r.1 }) in omega (arith, n, l),
  )

  -- nothing stands round it
  pub none_least : (f k : Vec ℕ Global) → f.items ≡ [] → k.items ≡ []
      → LeastPair (λ u v. (u ≡ []) × (v ≡ [])) b.limit (Some f) (Some k)
  none_least f k front back = (
    (front, back),
    λ u v c.
        let n = ap length front in let m = ap length back in omega (arith, n, m),
  )

  -- shortest lists round a round
  pub rounds_least : (a : ℕ) (most : Option ℕ) (d : Element) (f : Vec ℕ Global) (back : Option (Vec ℕ Global))
      → f.items ≡ [] → IsShortest (OtherRounds b rules a most d) b.limit back
      → LeastPair (Rounds a most d) b.limit (Some f) back
  rounds_least a most d f back bare h = by back h
    where
      joined : (u v : List ℕ) → Rounds a most d u v → OtherRounds b rules a most d (u ++ v)
      joined u v t = record {
        count = t.front + t.back;
        low = let low = t.low in omega (arith, low);
        high = subst (λ n. AtMost n most) (omega arith) t.high;
        spelled = record {
          symbols = letters_both (may b) u v t.before.symbols t.after.symbols;
          is = times_both b rules t.before.is t.after.is;
        };
      }

      by : (back : Option (Vec ℕ Global)) → IsShortest (OtherRounds b rules a most d) b.limit back
          → LeastPair (Rounds a most d) b.limit (Some f) back
      by None h = λ u v t. let n = h (u ++ v) (joined u v t) in let l = length-append u v in omega (arith, n, l)
      by (Some k) h = (
        rw bare (record {
          front = 0;
          back = h.is.count;
          low = let low = h.is.low in omega (arith, low);
          high = subst (λ n. AtMost n most) (omega arith) h.is.high;
          before = record { symbols = tt; is = der.no_more };
          after = h.is.spelled;
        }),
        λ u v t.
            let n = h.least (u ++ v) (joined u v t) in
            let l = length-append u v in
            let m = ap length bare in omega (arith, n, l, m),
      )

  -- as few other rounds as may be
  pub rounds_shortest : (a : ℕ) (most : Option ℕ) (d : Element) (n : ℕ) (found : Option (Vec ℕ Global)) → a ≤ n + 1
      → (n ≡ 0) ⊎ (n + 1 ≡ a) → AtMost (n + 1) most → IsShortest (SpellsTimes b rules d n) b.limit found
      → IsShortest (OtherRounds b rules a most d) b.limit found
  rounds_shortest a most d n found low few high h = same_shortest b.limit found
      (λ w s. record { count = n; low = low; high = high; spelled = s })
      (λ w t. fewer_rounds b rules d n t.count w (let l = t.low in ⊎_elim (λ z. omega (arith, z))
      (λ one. omega (arith, one, l)) few) t.spelled) h

  pub no_other_rounds : (a : ℕ) (most : Option ℕ) (d : Element) (n : ℕ) → (n ≡ 0) ⊎ (n + 1 ≡ a)
      → ((a ≤ n + 1) × AtMost (n + 1) most → ⊥) → a ≤ n + 1 → (w : List ℕ) → OtherRounds b rules a most d w
      → b.limit < length w
  no_other_rounds a most d n few never low w t = absurd (never (low, by most t.high))
    where
      le : n + 1 ≤ t.count + 1
      le = let l = t.low in ⊎_elim (λ z. omega (arith, z)) (λ one. omega (arith, one, l)) few

      by : (most : Option ℕ) → AtMost (t.count + 1) most → AtMost (n + 1) most
      by None high = tt
      by (Some most) high = omega (arith, le, high)

  -- all sites of each kind of element
  pub opt_placed : (d : Element) (f k : Vec ℕ Global) (old new : List Stood) → f.items ≡ [] → k.items ≡ []
      → AreSitesTo b rules (e.Opt d) 0 old → MayAddSites b rules d (Some f) (Some k) old new
      → AreSites b rules (e.Opt d) new
  opt_placed d f k old new front back h a = all_placed (e.Opt d) 1 new (opt_below d)
      (operand_added (e.Opt d) d 0 (λ u v. (u ≡ []) × (v ≡ [])) (opt_make d) (opt_split d) (Some f) (Some k) old new
      (none_least f k front back) h a)

  pub rep_placed : (a : ℕ) (most : Option ℕ) (d : Element) (f : Vec ℕ Global) (back : Option (Vec ℕ Global))
      (old new : List Stood) → f.items ≡ [] → IsShortest (OtherRounds b rules a most d) b.limit back
      → AreSitesTo b rules (e.Rep a most d) 0 old → MayAddSites b rules d (Some f) back old new
      → AreSites b rules (e.Rep a most d) new
  rep_placed a most d f back old new bare few h adds = all_placed (e.Rep a most d) 1 new (rep_below a most d)
      (operand_added (e.Rep a most d) d 0 (Rounds a most d) (rep_make a most d) (rep_split a most d) (Some f) back
      old new (rounds_least a most d f back bare few) h adds)

  pub alt_added : (es : List Elem) (i : ℕ) (el : Elem) (f k : Vec ℕ Global) (old new : List Stood) → i < length es
      → el ≡ get_or es i el → f.items ≡ [] → k.items ≡ [] → AreSitesTo b rules (e.Alt (elements_of es)) i old
      → MayAddSites b rules (element_of el) (Some f) (Some k) old new
      → AreSitesTo b rules (e.Alt (elements_of es)) (i + 1) new
  alt_added es i el f k old new lt is front back h a = let at = member_get es i el lt is in
      operand_added (e.Alt (elements_of es)) (element_of el) i (λ u v. (u ≡ []) × (v ≡ []))
      (alt_make (elements_of es) (element_of el) i at) (alt_split (elements_of es) (element_of el) i at)
      (Some f) (Some k) old new (none_least f k front back) h a

  pub concat_added : (es : List Elem) (i : ℕ) (el : Elem) (front back : Option (Vec ℕ Global)) (old new : List Stood)
      → i < length es → el ≡ get_or es i el
      → IsShortest (SpellsAll b rules (elements_of (take i es))) b.limit front
      → IsShortest (SpellsAll b rules (elements_of (drop (suc i) es))) b.limit back
      → AreSitesTo b rules (e.Concat (elements_of es)) i old
      → MayAddSites b rules (element_of el) front back old new
      → AreSitesTo b rules (e.Concat (elements_of es)) (i + 1) new
  concat_added es i el front back old new lt is one two h a = let at = member_get es i el lt is in
      operand_added (e.Concat (elements_of es)) (element_of el) i (Members (elements_of es) (element_of el) i)
      (concat_make (elements_of es) (element_of el) i) (concat_split (elements_of es) (element_of el) i at)
      front back old new (members_least es i el lt is front back one two) h a

  -- elements without operands
  pub leaf_placed : (whole : Element) (all : List Stood)
      → ((i : ℕ) (p : List ℕ) (s : Stood) → StandsAt b rules whole (i ∷ p) s → ⊥)
      → AreSitesTo b rules whole 0 all → AreSites b rules whole all
  leaf_placed whole all never h = all_placed whole 0 all (λ i p s at. absurd (never i p s at)) h

  pub no_text_operand : (folds : Bool) (t : List ℕ) (i : ℕ) (p : List ℕ) (s : Stood)
      → StandsAt b rules (e.Text folds t) (i ∷ p) s → ⊥
  no_text_operand folds t i p s at = by at.inside
    where
      by : {x y : List ℕ} {el : Element} → Inside (has b.alphabet) (may b) rules (e.Text folds t) (i ∷ p) el x y → ⊥
      by h = elim h [ ]

  pub no_values_operand : (vs : List ℕ) (i : ℕ) (p : List ℕ) (s : Stood)
      → StandsAt b rules (e.Values vs) (i ∷ p) s → ⊥
  no_values_operand vs i p s at = by at.inside
    where
      by : {x y : List ℕ} {el : Element} → Inside (has b.alphabet) (may b) rules (e.Values vs) (i ∷ p) el x y → ⊥
      by h = elim h [ ]

  pub no_range_operand : (low high i : ℕ) (p : List ℕ) (s : Stood) → StandsAt b rules (e.Range low high) (i ∷ p) s → ⊥
  no_range_operand low high i p s at = by at.inside
    where
      by : {x y : List ℕ} {el : Element} → Inside (has b.alphabet) (may b) rules (e.Range low high) (i ∷ p) el x y → ⊥
      by h = elim h [ ]

  pub no_name_operand : (n : List ℕ) (i : ℕ) (p : List ℕ) (s : Stood) → StandsAt b rules (e.Name n) (i ∷ p) s → ⊥
  no_name_operand n i p s at = by at.inside
    where
      by : {x y : List ℕ} {el : Element} → Inside (has b.alphabet) (may b) rules (e.Name n) (i ∷ p) el x y → ⊥
      by h = elim h [ ]

  pub no_prose_operand : (t : List ℕ) (i : ℕ) (p : List ℕ) (s : Stood) → StandsAt b rules (e.Prose t) (i ∷ p) s → ⊥
  no_prose_operand t i p s at = by at.inside
    where
      by : {x y : List ℕ} {el : Element} → Inside (has b.alphabet) (may b) rules (e.Prose t) (i ∷ p) el x y → ⊥
      by h = elim h [ ]

  -- the same sites, of which some first ones come last
  pub sites_moved : (el : Element) (n : ℕ) (old new : List Site) → new ≡ drop n old ++ take n old
      → AreSites b rules el (map stood_of old) → AreSites b rules el (map stood_of new)
  sites_moved el n old new same h = record {
    right = λ s among. let m = from_mapped stood_of s new among in
        h.right s (subst (Contains (map stood_of old)) m.2 (mapped_in stood_of m.0 old (from m.0 m.1)));
    complete = λ p s at le.
        let k = h.complete p s at le in
        let m = from_mapped stood_of k.other old k.among in record {
          other = k.other;
          among = subst (Contains (map stood_of new)) m.2 (mapped_in stood_of m.0 new (to m.0 m.1));
          stands = k.stands;
          same = k.same;
          within = k.within;
        };
  }
    where
      to : (x : Site) → Contains old x → Contains new x
      to x among = subst (λ xs. Contains xs x) (sym same) (⊎_elim
          (λ l. Contains-append_right (drop n old) (take n old) x l)
          (λ r. Contains-append_left (drop n old) (take n old) x r)
          (Contains-append_cases (take n old) (drop n old) x
          (subst (λ xs. Contains xs x) (sym (take-append-drop n old)) among)))

      from : (x : Site) → Contains new x → Contains old x
      from x among = subst (λ xs. Contains xs x) (take-append-drop n old) (⊎_elim
          (λ l. Contains-append_right (take n old) (drop n old) x l)
          (λ r. Contains-append_left (take n old) (drop n old) x r)
          (Contains-append_cases (drop n old) (take n old) x (subst (λ xs. Contains xs x) same among)))
