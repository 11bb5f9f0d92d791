-- What is left of an element, from what is left of its parts.
-- Serves: lower_viable.
use Rattle.std.proofs.Common.{◌≡◌, ℕ, zero, suc, ◌+◌, ◌<◌, ◌≤◌, ◌==◌, Bool, true, false, List, [], ◌∷◌, ◌++◌, length}
use Rattle.std.proofs.Common.{is_some, option_to_list, take, map, get_or, Option, Some, None, refl, sym, ◌∙◌, ap}
use Rattle.std.proofs.Common.{subst, arith, add-one}
use Rattle.std.specs.Prelude.{slice_get}
use Rattle.std.proofs.lemmas.Bool.{eqb-true}
use Rattle.std.proofs.lemmas.List.{append-nil, length-map, map-append, nil_from_length, take_all}
use Rattle.std.proofs.Math.Seq.{take-suc}
use Rattle.ruletable.specs.Letters.{has as in_alphabet, HasLetter}
use Rattle.ruletable.specs.declared.alphabet.Alphabet.{Alphabet}
use Rattle.abnfread.specs.Element as e
use Rattle.abnfread.specs.Element.{Element, Elements, none, more, Rule, bodies, id_of}
use Rattle.abnfread.specs.AbnfViews.{element_of, elements, elements_of}
use Rattle.abnfread.specs.declared.elem.Elem.{Elem}
use Rattle.abnfcheck.specs.Derivable as der
use Rattle.abnfcheck.specs.Derivable.{AreLetters, Derives, DerivesAll, DerivesSome, DerivesTimes, then, this, later}
use Rattle.abnfcheck.specs.Derivable.{no_more, one_more}
use Rattle.abnfcheck.specs.RuleMarks as marks
use Rattle.abnfcheck.proofs.YieldsLemmas.{letters_parts}
use Rattle.fixpoint.specs.NumberMarks.{IsMarked}
use Rattle.flatgrammar.proofs.SliceGetLemmas.{get_below}
use Rattle.abnfcheck.proofs.RuleIdLemmas.{body_at_id}
use Rattle.lowering.specs.Pruned.{IsProductive, AreAllProductive, Keeps, keep_values, empty_rep, keep_concat, keep_alt}
use Rattle.lowering.specs.Pruned.{KeepsAll, IsLeft, some_element}
use Rattle.lowering.specs.Pruned.{keep_none, keep_more, KeepsSome, some_none, kept, dropped}
use Rattle.lowering.proofs.KeepsLemmas.{keeps_productive}

abbrev snoc : Elements → Element → Elements
snoc none d = more d none
snoc (more e es) d = more e (snoc es d)

module _ (has : ℕ → Bool) (rules : List Rule) where
  pub no_values : (vs : List ℕ) → (AreLetters has vs → ⊥) → IsProductive has rules (e.Values vs) → ⊥
  no_values vs not p = by p.derives
    where
      by : {w : List ℕ} → Derives has rules (e.Values vs) w → ⊥
      by (der.values all) = not all

  pub values_left : (vs got : List ℕ) (i : ℕ) → length vs ≤ i → AreLetters has (take i vs) × (got ≡ take i vs) →
      Keeps has rules (e.Values vs) (e.Values got)
  values_left vs got i all so_far = by (take_all i vs all)
    where
      by : take i vs ≡ vs → Keeps has rules (e.Values vs) (e.Values got)
      by same =
          subst (λ v. Keeps has rules (e.Values vs) (e.Values v)) (sym (so_far.1 ∙ same))
          (keep_values (subst (λ v. AreLetters has v) same so_far.0))

  pub no_range : (low high : ℕ) → (HasLetter has low high → ⊥) → IsProductive has rules (e.Range low high) → ⊥
  no_range low high not p = by p.derives
    where
      by : {w : List ℕ} → Derives has rules (e.Range low high) w → ⊥
      by (der.range {c = c} from to is) = not (record { letter = c; from = from; to = to; is = is })

  -- repetitions
  pub reversed_unproductive : (a : ℕ) (b : Option ℕ) (el : Element) → (der.AtMost a b → ⊥)
      → IsProductive has rules (e.Rep a b el) → ⊥
  reversed_unproductive a b el not p = by p.derives
    where
      less : (k : ℕ) (b : Option ℕ) → a ≤ k → der.AtMost k b → der.AtMost a b
      less k None low high = tt
      less k (Some most) low high = omega (arith, low, high)

      by : {w : List ℕ} → Derives has rules (e.Rep a b el) w → ⊥
      by (der.rep {k = k} low high ds) = not (less k b low high)

  pub empty_left : (a : ℕ) (b : Option ℕ) (el : Element) → a ≡ 0 → (IsProductive has rules el → ⊥)
      → Keeps has rules (e.Rep a b el) (e.Concat none)
  empty_left a b el is not = rw is (empty_rep not)

  pub no_iteration : (a : ℕ) (b : Option ℕ) (el : Element) → (a ≡ 0 → ⊥) → (IsProductive has rules el → ⊥)
      → IsProductive has rules (e.Rep a b el) → ⊥
  no_iteration a b el some not p = by p.letters p.derives
    where
      times : {k : ℕ} {w : List ℕ} → a ≤ k → AreLetters has w → DerivesTimes has rules el k w → ⊥
      times le all no_more = some (omega (arith, le))
      times le all (one_more {w = w} {v = v} d ds) =
          not (record { word = w; letters = (letters_parts has w v all).0; derives = d })

      by : {w : List ℕ} → AreLetters has w → Derives has rules (e.Rep a b el) w → ⊥
      by all (der.rep low high ds) = times low all ds

  -- concatenations and alternations
  members_of : (es : Elements) → IsProductive has rules (e.Concat es) → AreAllProductive has rules es
  members_of es p = by p.letters p.derives
    where
      by : {w : List ℕ} → AreLetters has w → Derives has rules (e.Concat es) w → AreAllProductive has rules es
      by {w = w} all (der.concat ds) = record { word = w; letters = all; derives = ds }

  no_concat : (es : Elements) → (AreAllProductive has rules es → ⊥) → IsProductive has rules (e.Concat es) → ⊥
  no_concat es not p = not (members_of es p)

  none_derives : {es : Elements} {w : List ℕ} → KeepsSome has rules es none → AreLetters has w
      → DerivesSome has rules es w → ⊥
  none_derives some_none all d = elim d [ ]
  none_derives {w = w} (dropped not ks) all (this d) = not (record { word = w; letters = all; derives = d })
  none_derives (dropped not ks) all (later d) = none_derives ks all d

  no_alt : (es : Elements) → KeepsSome has rules es none → IsProductive has rules (e.Alt es) → ⊥
  no_alt es ks p = by p.letters p.derives
    where
      by : {w : List ℕ} → AreLetters has w → Derives has rules (e.Alt es) w → ⊥
      by all (der.alt d) = none_derives ks all d

  some_derives : {es ds : Elements} {d : Element} → KeepsSome has rules es (more d ds) → (w : List ℕ) × AreLetters has w
      × DerivesSome has rules es w
  some_derives (kept k ks) = let p = keeps_productive has rules k in (p.word, p.letters, this p.derives)
  some_derives (dropped not ks) = let s = some_derives ks in (s.0, s.1, later s.2)

  alt_left : (es ds : Elements) (d : Element) → KeepsSome has rules es (more d ds)
      → Keeps has rules (e.Alt es) (e.Alt (more d ds))
  alt_left es ds d ks = let s = some_derives ks in
      keep_alt (record { word = s.0; letters = s.1; derives = der.alt s.2 }) ks

  pub no_alts : (es : Elements) (ds : List Elem) (empty : Bool) → empty ≡ (length ds == 0) → empty ≡ true →
      KeepsSome has rules es (elements_of ds) → IsProductive has rules (e.Alt es) → ⊥
  no_alts es ds empty is on ks =
      no_alt es (subst (λ v. KeepsSome has rules es (elements_of v))
      (nil_from_length ds (eqb-true (length ds) 0 (sym is ∙ on))) ks)

  pub some_alts : (es : Elements) (ds : List Elem) (empty : Bool) → empty ≡ (length ds == 0) → empty ≡ false →
      KeepsSome has rules es (elements_of ds) → Keeps has rules (e.Alt es) (e.Alt (elements_of ds))
  some_alts es [] empty is off ks = absurd (cc (is, off))
  some_alts es (d ∷ ds) empty is off ks = alt_left es (elements_of ds) (element_of d) ks

  -- members one by one
  all_push : {es ds : Elements} (el d : Element) → KeepsAll has rules es ds → Keeps has rules el d
      → KeepsAll has rules (snoc es el) (snoc ds d)
  all_push el d keep_none k = keep_more k keep_none
  all_push el d (keep_more j ks) k = keep_more j (all_push el d ks k)

  kept_push : {es ds : Elements} (el d : Element) → KeepsSome has rules es ds → Keeps has rules el d
      → KeepsSome has rules (snoc es el) (snoc ds d)
  kept_push el d some_none k = kept k some_none
  kept_push el d (dropped not ks) k = dropped not (kept_push el d ks k)
  kept_push el d (kept j ks) k = kept j (kept_push el d ks k)

  drop_push : {es ds : Elements} (el : Element) → KeepsSome has rules es ds → (IsProductive has rules el → ⊥)
      → KeepsSome has rules (snoc es el) ds
  drop_push el some_none not = dropped not some_none
  drop_push el (dropped was ks) not = dropped was (drop_push el ks not)
  drop_push el (kept j ks) not = kept j (drop_push el ks not)

  -- all members
  pub concat_left : (es ds : List Elem) (i : ℕ) → length es ≤ i
      → KeepsAll has rules (elements_of (take i es)) (elements_of ds)
      → Keeps has rules (e.Concat (elements_of es)) (e.Concat (elements_of ds))
  concat_left es ds i all ks = keep_concat (subst (λ v. KeepsAll has rules (elements_of v) (elements_of ds))
      (take_all i es all) ks)

snoc_is : (es : List Element) (el : Element) → elements (es ++ el ∷ []) ≡ snoc (elements es) el
snoc_is [] el = refl
snoc_is (c ∷ es) el = ap (λ v. more c v) (snoc_is es el)

push_is : (es : List Elem) (v : Elem) → elements_of (es ++ v ∷ []) ≡ snoc (elements_of es) (element_of v)
push_is es v = ap elements (map-append element_of es (v ∷ [])) ∙ snoc_is (map element_of es) (element_of v)

next_is : (es : List Elem) (i : ℕ) (v : Elem) → i < length es → v ≡ get_or es i v →
    elements_of (take (i + 1) es) ≡ snoc (elements_of (take i es)) (element_of v)
next_is es i v lt is =
    ap (λ k. elements_of (take k es)) (add-one i) ∙ ap elements_of (take-suc es i v lt)
    ∙ ap (λ w. elements_of (take i es ++ w ∷ [])) (sym is) ∙ push_is (take i es) v

one_at : (has : ℕ → Bool) (rules : List Rule) (es : List Elem) (i : ℕ) (d : Elem) {w : List ℕ} → i < length es
    → AreLetters has w →
    DerivesAll has rules (elements_of es) w → IsProductive has rules (element_of (get_or es i d))
one_at has rules [] i d lt all ds = absurd (omega (arith, lt))
one_at has rules (x ∷ es) zero d lt all (then {w = w} {v = v} one ds) =
    record { word = w; letters = (letters_parts has w v all).0; derives = one }
one_at has rules (x ∷ es) (suc i) d lt all (then {w = w} {v = v} one ds) = one_at has rules es i d (omega (arith, lt))
    (letters_parts has w v all).1 ds

module _ (has : ℕ → Bool) (rules : List Rule) (es ds : List Elem) (i : ℕ) (v : Elem) (lt : i < length es)
    (is : v ≡ get_or es i v) where
  next_member : (d : Elem) → KeepsAll has rules (elements_of (take i es)) (elements_of ds)
      → Keeps has rules (element_of v) (element_of d) →
      KeepsAll has rules (elements_of (take (i + 1) es)) (elements_of (ds ++ d ∷ []))
  next_member d ks k = rw (next_is es i v lt is, push_is ds d) (all_push has rules (element_of v) (element_of d) ks k)

  no_member : (IsProductive has rules (element_of v) → ⊥) → AreAllProductive has rules (elements_of es) → ⊥
  no_member not p = not (subst (λ w. IsProductive has rules (element_of w)) (sym is)
      (one_at has rules es i v lt p.letters p.derives))

  next_kept : (d : Elem) → KeepsSome has rules (elements_of (take i es)) (elements_of ds)
      → Keeps has rules (element_of v) (element_of d) →
      KeepsSome has rules (elements_of (take (i + 1) es)) (elements_of (ds ++ d ∷ []))
  next_kept d ks k = rw (next_is es i v lt is, push_is ds d) (kept_push has rules (element_of v) (element_of d) ks k)

  next_dropped : KeepsSome has rules (elements_of (take i es)) (elements_of ds)
      → (IsProductive has rules (element_of v) → ⊥) →
      KeepsSome has rules (elements_of (take (i + 1) es)) (elements_of ds)
  next_dropped ks not = rw (next_is es i v lt is) (drop_push has rules (element_of v) ks not)

  -- a member of which nothing is left, or what is left of it
  pub left_member : (left : Option Elem) (some : Bool) (new : List Elem)
      → (some ≡ is_some left) × (new ≡ ds ++ option_to_list left) → some ≡ true
      → IsLeft has rules (element_of v) (some_element left)
      → KeepsAll has rules (elements_of (take i es)) (elements_of ds)
      → KeepsAll has rules (elements_of (take (i + 1) es)) (elements_of new)
  left_member None some new pushed on k ks = absurd (cc (pushed.0, on))
  left_member (Some d) some new pushed on k ks = rw pushed.1 (next_member d ks k)

  pub left_none : (left : Option Elem) (some : Bool) (new : List Elem)
      → (some ≡ is_some left) × (new ≡ ds ++ option_to_list left) → some ≡ false
      → IsLeft has rules (element_of v) (some_element left)
      → IsProductive has rules (e.Concat (elements_of es)) → ⊥
  left_none None some new pushed off k = no_concat has rules (elements_of es) (no_member k)
  left_none (Some d) some new pushed off k = absurd (cc (pushed.0, off))

  pub left_alternative : (left : Option Elem) (some : Bool) (new : List Elem)
      → (some ≡ is_some left) × (new ≡ ds ++ option_to_list left)
      → IsLeft has rules (element_of v) (some_element left)
      → KeepsSome has rules (elements_of (take i es)) (elements_of ds)
      → KeepsSome has rules (elements_of (take (i + 1) es)) (elements_of new)
  left_alternative None some new pushed k ks = rw (pushed.1 ∙ append-nil ds) (next_dropped ks k)
  left_alternative (Some d) some new pushed k ks = rw pushed.1 (next_kept d ks k)

pub copied_next : (vs got : List ℕ) (i d : ℕ) → i < length vs → got ≡ take i vs → got ++ get_or vs i d
    ∷ [] ≡ take (i + 1) vs
copied_next vs got i d lt is = ap (λ l. l ++ get_or vs i d ∷ []) is
    ∙ sym (ap (λ k. take k vs) (add-one i) ∙ take-suc vs i d lt)

-- names
module _ (alphabet : Alphabet) (rules : List Rule) (reported : List Bool)
    (are : marks.AreProductive alphabet rules reported)
    (n : List ℕ) where
  pub name_left : IsMarked reported (id_of rules n) → IsProductive (in_alphabet alphabet) rules (e.Name n)
  name_left on =
      let below = marked_below reported (id_of rules n) on in
      let count = are.count in
      let r = (are.exact (id_of rules n) (omega (arith, below, count))).0 on in
      record { word = r.0; letters = r.1; derives = der.name (body_at_id rules n ∙ r.2.is) r.2.derives }
    where
      marked_below : (reported : List Bool) (id : ℕ) → IsMarked reported id → id < length reported
      marked_below [] id on = absurd (cc on)
      marked_below (t ∷ reported) zero on = omega arith
      marked_below (t ∷ reported) (suc id) on = let lt = marked_below reported id on in omega (arith, lt)

  pub no_name : (IsMarked reported (id_of rules n) → ⊥) → IsProductive (in_alphabet alphabet) rules (e.Name n) → ⊥
  no_name off p = by p.letters p.derives
    where
      by : {w : List ℕ} → AreLetters (in_alphabet alphabet) w → Derives (in_alphabet alphabet) rules (e.Name n) w → ⊥
      by {w = w} all (der.name {e = body} found d) =
          let at : slice_get (bodies rules) (id_of rules n) ≡ Some body = sym (body_at_id rules n) ∙ found in
          let below = get_below (bodies rules) (id_of rules n) at in
          let same = length-map rules (λ rule. rule.body) in
          off ((are.exact (id_of rules n) (omega (arith, below, same))).1
          (w, all, record { body = body; is = at; derives = d }))
