-- Rules with loops in place of left recursion derive the same lines, and a grammar of them is sound.
-- Serves: unrolled_grammar; compare of rulelines
use Rattle.std.proofs.Common.{◌≡◌, ◌∙◌, ◌⊎◌, inl, inr, ⊎_elim, ap, refl, sym, subst, arith, ℕ, suc, ◌≤◌, ◌==◌, Bool}
use Rattle.std.proofs.Common.{true, false, cond, List, [], ◌∷◌, ◌++◌, Option, Some, None, ◌↔◌, zero, ◌+◌, ◌<◌, length}
use Rattle.std.proofs.Common.{map, take, get_or, add-one}
use Rattle.std.proofs.lemmas.Bool.{eqb-true, eq-eqb}
use Rattle.std.proofs.lemmas.List.{append-nil, append_assoc}
use Rattle.std.specs.Prelude.{option_map, slice_get}
use Rattle.abnfread.specs.Element as e
use Rattle.abnfread.specs.Element.{Element, Elements, Alt, Concat, Name, Rule, bodies, body_of, id_of, more, none}
use Rattle.abnfread.specs.Element.{Prose, Rep, append}
use Rattle.abnfcheck.proofs.RuleIdLemmas.{body_at_id}
use Rattle.abnfcheck.specs.Derivable as d
use Rattle.abnfcheck.specs.Derivable.{Derives, DerivesAll, DerivesSome, DerivesTimes, RuleDerives}
use Rattle.abnfcheck.specs.UnrolledRules.{firsts, loop, name_in, steps, tail_after, tail_of, unrolled_body}
use Rattle.abnfcheck.specs.UnrolledRules.{IsUnrolledGrammar, alternatives_in, unrolled_from}
use Rattle.std.proofs.Math.Seq.{take-suc}
use Rattle.ruletable.specs.Rules as table
use Rattle.ruletable.specs.Rules.{same_name}
use Rattle.ruletable.specs.declared.span.Span.{Span}
use Rattle.ruletable.specs.declared.table.NameCase.TheVariants.{Fold}
use Rattle.abnfread.proofs.ElementListLemmas.{elements_of-push}
use Rattle.abnfread.specs.AbnfViews.{element_of, elements_of, rule_of, rules_of}
use Rattle.abnfread.specs.declared.elem.Elem.{Elem}
use Rattle.abnfcheck.specs.AbnfGrammar.{Grammar, IsSound, Reachable, Within, WithinSome, by_name, judged_rule, of_alt}
use Rattle.abnfcheck.specs.AbnfGrammar.{of_concat, of_first, of_later, of_opt, of_rep, itself}
use Rattle.abnfcheck.proofs.CopiedRulesLemmas.{copy_of}

module _ (rules : List Rule) (id : ℕ) where
  -- an element that begins with the name of the rule, and what follows it
  pub data IsTail : Element → Elements → Type 0 where
    alone : {n : List ℕ} → id_of rules n ≡ id → IsTail (Name n) none
    before : {n : List ℕ} {es : Elements} → id_of rules n ≡ id → IsTail (Concat (more (Name n) es)) es

  abbrev IsSplit : Element → List ℕ → Elements → Type 0
  IsSplit el n es = (t : Elements) → id_of rules n ≡ id → es ≡ t → IsTail el t

  name_split : (n : List ℕ) → IsSplit (Name n) n none
  name_split n t is same = subst (λ v. IsTail (Name n) v) same (alone is)

  first_split : (first : Element) (es : Elements) (n : List ℕ) → name_in first ≡ Some n
      → IsSplit (Concat (more first es)) n es
  first_split (Name m) es n at t is same =
      let there : m ≡ n = cc at in
      subst (λ v. IsTail (Concat (more (Name m) es)) v) same (before (ap (λ v. id_of rules v) there ∙ is))
  first_split (e.Text f x) es n at t is same = absurd (cc at)
  first_split (e.Values x) es n at t is same = absurd (cc at)
  first_split (e.Range l h) es n at t is same = absurd (cc at)
  first_split (Concat x) es n at t is same = absurd (cc at)
  first_split (Alt x) es n at t is same = absurd (cc at)
  first_split (e.Rep a b x) es n at t is same = absurd (cc at)
  first_split (e.Opt x) es n at t is same = absurd (cc at)
  first_split (e.Prose x) es n at t is same = absurd (cc at)

  name_found : (b : Bool) (es t : Elements) → cond b (Some es) None ≡ Some t → (b ≡ true) × (es ≡ t)
  name_found true es t is = (refl, cc is)
  name_found false es t is = absurd (cc is)

  tail_from : (el : Element) (n : List ℕ) (es t : Elements) → IsSplit el n es
      → cond (id_of rules n == id) (Some es) None ≡ Some t → IsTail el t
  tail_from el n es t split is =
      let found = name_found (id_of rules n == id) es t is in split t (eqb-true (id_of rules n) id found.0) found.1

  is_tail : (el : Element) (t : Elements) → tail_of rules id el ≡ Some t → IsTail el t
  is_tail (Name n) t is = tail_from (Name n) n none t (name_split n) is
  is_tail (Concat none) t is = absurd (cc is)
  is_tail (Concat (more first es)) t is = by (name_in first) refl is
    where
      by : (o : Option (List ℕ)) → name_in first ≡ o → tail_after rules id (option_map (λ n. (n, es)) o) ≡ Some t
          → IsTail (Concat (more first es)) t
      by None at is = absurd (cc is)
      by (Some n) at is = tail_from (Concat (more first es)) n es t (first_split first es n at) is
  is_tail (e.Text f x) t is = absurd (cc is)
  is_tail (e.Values x) t is = absurd (cc is)
  is_tail (e.Range l h) t is = absurd (cc is)
  is_tail (Alt x) t is = absurd (cc is)
  is_tail (e.Rep a b x) t is = absurd (cc is)
  is_tail (e.Opt x) t is = absurd (cc is)
  is_tail (e.Prose x) t is = absurd (cc is)

  -- alternatives, those that do not begin with the name, and what follows it in the others
  pub data AreParted : Elements → Elements → Elements → Type 0 where
    no_part : AreParted none none none
    keeps : {el : Element} {es ys xs : Elements} → AreParted es ys xs → AreParted (more el es) (more el ys) xs
    moves : {el : Element} {t es ys xs : Elements} → IsTail el t → AreParted es ys xs
        → AreParted (more el es) ys (more (Concat t) xs)

  pub are_parted : (es : Elements) → AreParted es (firsts rules id es) (steps rules id es)
  are_parted none = no_part
  are_parted (more el es) = by (tail_of rules id el) refl (are_parted es)
    where
      by : (o : Option Elements) → tail_of rules id el ≡ o → AreParted es (firsts rules id es) (steps rules id es)
          → AreParted (more el es) (firsts rules id (more el es))
          (steps rules id (more el es))
      by None is parted = rw is (keeps parted)
      by (Some t) is parted = rw is (moves (is_tail el t is) parted)

  -- a body, and the body with a loop in its place
  pub data IsUnrolled : Element → Element → Type 0 where
    same : {el : Element} → IsUnrolled el el
    looped : {es ys xs : Elements} → AreParted es ys xs → IsUnrolled (Alt es) (loop ys xs)

  pub is_unrolled : (el : Element) → IsUnrolled el (unrolled_body rules id el)
  is_unrolled (Alt es) = by (steps rules id es) refl
    where
      by : (xs : Elements) → steps rules id es ≡ xs → IsUnrolled (Alt es) (unrolled_body rules id (Alt es))
      by none is = rw is same
      by (more x xs) is = rw is (looped (subst (λ v. AreParted es (firsts rules id es) v) is (are_parted es)))
  is_unrolled (Concat x) = same
  is_unrolled (Name n) = same
  is_unrolled (e.Text f x) = same
  is_unrolled (e.Values x) = same
  is_unrolled (e.Range l h) = same
  is_unrolled (e.Rep a b x) = same
  is_unrolled (e.Opt x) = same
  is_unrolled (e.Prose x) = same

-- rules with the same names, and unrolled bodies
pub record AreUnrolled (rules new : List Rule) : Type 0 where
  pub ids : (n : List ℕ) → id_of new n ≡ id_of rules n
  pub there : (id : ℕ) (el : Element) → slice_get (bodies rules) id ≡ Some el
      → slice_get (bodies new) id ≡ Some (unrolled_body rules id el)
  pub back : (id : ℕ) (el : Element) → slice_get (bodies new) id ≡ Some el
      → (old : Element) × (slice_get (bodies rules) id ≡ Some old) × (el ≡ unrolled_body rules id old)

module _ (has : ℕ → Bool) (rules new : List Rule) (are : AreUnrolled rules new) where
  old_at : (n : List ℕ) (id : ℕ) (el : Element) → id_of rules n ≡ id → slice_get (bodies rules) id ≡ Some el
      → body_of rules n ≡ Some el
  old_at n id el is at = body_at_id rules n ∙ ap (λ (k : ℕ). slice_get (bodies rules) k) is ∙ at

  new_at : (n : List ℕ) (id : ℕ) (el : Element) → id_of rules n ≡ id → slice_get (bodies new) id ≡ Some el
      → body_of new n ≡ Some el
  new_at n id el is at = body_at_id new n ∙ ap (λ (k : ℕ). slice_get (bodies new) k) (are.ids n ∙ is) ∙ at

  -- one iteration more
  times_more : {el : Element} {k : ℕ} {w v : List ℕ} → DerivesTimes has new el k w → Derives has new el v
      → DerivesTimes has new el (suc k) (w ++ v)
  times_more {el = el} {v = v} d.no_more one =
      subst (λ u. DerivesTimes has new el 1 u) (append-nil v) (d.one_more one d.no_more)
  times_more {el = el} {v = v} (d.one_more {k = k} {w = w} {v = rest} first more_of) one =
      subst (λ u. DerivesTimes has new el (suc (suc k)) u) (sym (append_assoc w rest v))
      (d.one_more first (times_more more_of one))

  loop_more : {ys xs : Elements} {u v : List ℕ} → Derives has new (loop ys xs) u → DerivesSome has new xs v
      → Derives has new (loop ys xs) (u ++ v)
  loop_more {ys = ys} {xs = xs} {v = v}
      (d.concat (d.then {w = y} one (d.then {w = x} (d.rep low most times) d.all_done))) some =
      subst (λ u. Derives has new (loop ys xs) u) same_word
      (d.concat (d.then one (d.then (d.rep zero_le tt (times_more times (d.alt some))) d.all_done)))
    where
      zero_le : {k : ℕ} → 0 ≤ k
      zero_le = omega arith

      same_word : y ++ ((x ++ v) ++ []) ≡ (y ++ (x ++ [])) ++ v
      same_word =
          ap (λ (u : List ℕ). y ++ u) (append-nil (x ++ v)) ∙ sym (append_assoc y x v)
          ∙ ap (λ (u : List ℕ). (y ++ u) ++ v) (sym (append-nil x))

  loop_once : {ys xs : Elements} {w : List ℕ} → DerivesSome has new ys w → Derives has new (loop ys xs) w
  loop_once {ys = ys} {xs = xs} {w = w} some =
      subst (λ u. Derives has new (loop ys xs) u) (append-nil w)
      (d.concat (d.then (d.alt some) (d.then (d.rep {k = 0} (omega arith) tt d.no_more) d.all_done)))

  -- a word of the rule, and then one of a step
  record Grown (id : ℕ) (xs : Elements) (w : List ℕ) : Type 0 where
    pub name : List ℕ
    pub is : id_of rules name ≡ id
    pub front : List ℕ
    pub rest : List ℕ
    pub word : front ++ rest ≡ w
    pub first : Derives has new (Name name) front
    pub then : DerivesSome has new xs rest

  grown_later : {id : ℕ} {x : Element} {xs : Elements} {w : List ℕ} → Grown id xs w → Grown id (more x xs) w
  grown_later g = record {
    name = g.name;
    is = g.is;
    front = g.front;
    rest = g.rest;
    word = g.word;
    first = g.first;
    then = d.later g.then;
  }

  grown_here : {id : ℕ} {el : Element} {t xs : Elements} {w : List ℕ} → IsTail rules id el t → Derives has new el w
      → Grown id (more (Concat t) xs) w
  grown_here {w = w} (alone {n = n} is) one = record {
    name = n;
    is = is;
    front = w;
    rest = [];
    word = append-nil w;
    first = one;
    then = d.this (d.concat d.all_done);
  }
  grown_here (before {n = n} is) (d.concat (d.then {w = w} {v = v} one rest)) = record {
    name = n;
    is = is;
    front = w;
    rest = v;
    word = refl;
    first = one;
    then = d.this (d.concat rest);
  }

  parts_of_some : {id : ℕ} {es ys xs : Elements} {w : List ℕ} → AreParted rules id es ys xs → DerivesSome has new es w
      → DerivesSome has new ys w ⊎ Grown id xs w
  parts_of_some no_part some = elim some [ ]
  parts_of_some (keeps p) (d.this one) = inl (d.this one)
  parts_of_some (keeps p) (d.later some) = ⊎_elim (λ one. inl (d.later one)) (λ g. inr g) (parts_of_some p some)
  parts_of_some (moves t p) (d.this one) = inr (grown_here t one)
  parts_of_some (moves t p) (d.later some) = ⊎_elim (λ one. inl one) (λ g. inr (grown_later g)) (parts_of_some p some)

  unroll_body : {id : ℕ} {el body : Element} {w : List ℕ} → IsUnrolled rules id el body
      → slice_get (bodies new) id ≡ Some body → Derives has new el w → Derives has new body w
  unroll_body same at one = one
  unroll_body {id = id} {w = w} (looped {ys = ys} {xs = xs} p) at (d.alt some) =
      ⊎_elim (λ one. loop_once one) (λ g. grown g g.first) (parts_of_some p some)
    where
      grown : (g : Grown id xs w) → Derives has new (Name g.name) g.front → Derives has new (loop ys xs) w
      grown g (d.name {e = body} is one) =
          let here : body ≡ loop ys xs = cc (sym is ∙ new_at g.name id (loop ys xs) g.is at) in
          subst (λ u. Derives has new (loop ys xs) u) g.word
          (loop_more (subst (λ b. Derives has new b g.front) here one) g.then)

  mutual
    derives_unrolled : {el : Element} {w : List ℕ} → Derives has rules el w → Derives has new el w
    derives_unrolled (d.text s) = d.text s
    derives_unrolled (d.values l) = d.values l
    derives_unrolled (d.range l h is) = d.range l h is
    derives_unrolled (d.concat all) = d.concat (unroll_all all)
    derives_unrolled (d.alt some) = d.alt (unroll_some some)
    derives_unrolled (d.rep l most times) = d.rep l most (unroll_times times)
    derives_unrolled d.opt_empty = d.opt_empty
    derives_unrolled (d.opt one) = d.opt (derives_unrolled one)
    derives_unrolled (d.name {n = n} {e = el} is one) =
        let at = are.there (id_of rules n) el (sym (body_at_id rules n) ∙ is) in
        d.name (new_at n (id_of rules n) (unrolled_body rules (id_of rules n) el) refl at)
        (unroll_body (is_unrolled rules (id_of rules n) el) at (derives_unrolled one))

    unroll_all : {es : Elements} {w : List ℕ} → DerivesAll has rules es w → DerivesAll has new es w
    unroll_all d.all_done = d.all_done
    unroll_all (d.then one rest) = d.then (derives_unrolled one) (unroll_all rest)

    unroll_some : {es : Elements} {w : List ℕ} → DerivesSome has rules es w → DerivesSome has new es w
    unroll_some (d.this one) = d.this (derives_unrolled one)
    unroll_some (d.later some) = d.later (unroll_some some)

    unroll_times : {el : Element} {k : ℕ} {w : List ℕ} → DerivesTimes has rules el k w → DerivesTimes has new el k w
    unroll_times d.no_more = d.no_more
    unroll_times (d.one_more one rest) = d.one_more (derives_unrolled one) (unroll_times rest)

  -- an alternative that does not begin with the name
  first_rolled : {id : ℕ} {es ys xs : Elements} {w : List ℕ} → AreParted rules id es ys xs
      → DerivesSome has rules ys w → DerivesSome has rules es w
  first_rolled no_part some = elim some [ ]
  first_rolled (keeps p) (d.this one) = d.this one
  first_rolled (keeps p) (d.later some) = d.later (first_rolled p some)
  first_rolled (moves t p) some = d.later (first_rolled p some)

  -- .. and one that does
  tail_rolled : {id : ℕ} {el whole : Element} {t : Elements} {u v : List ℕ} → IsTail rules id whole t
      → slice_get (bodies rules) id ≡ Some el → Derives has rules el u → DerivesAll has rules t v
      → Derives has rules whole (u ++ v)
  tail_rolled {id = id} {el = el} {u = u} (alone {n = n} is) at so_far d.all_done =
      subst (λ w. Derives has rules (Name n) w) (sym (append-nil u)) (d.name (old_at n id el is at) so_far)
  tail_rolled {id = id} {el = el} (before {n = n} is) at so_far all =
      d.concat (d.then (d.name (old_at n id el is at) so_far) all)

  step_rolled : {id : ℕ} {el : Element} {es ys xs : Elements} {u v : List ℕ} → AreParted rules id es ys xs
      → slice_get (bodies rules) id ≡ Some el → Derives has rules el u → DerivesSome has rules xs v
      → DerivesSome has rules es (u ++ v)
  step_rolled no_part at so_far some = elim some [ ]
  step_rolled (keeps p) at so_far some = d.later (step_rolled p at so_far some)
  step_rolled (moves t p) at so_far (d.this (d.concat all)) = d.this (tail_rolled t at so_far all)
  step_rolled (moves t p) at so_far (d.later some) = d.later (step_rolled p at so_far some)

  loop_rolled : {id k : ℕ} {es ys xs : Elements} {u v : List ℕ} → AreParted rules id es ys xs
      → slice_get (bodies rules) id ≡ Some (Alt es) → Derives has rules (Alt es) u
      → DerivesTimes has rules (Alt xs) k v → Derives has rules (Alt es) (u ++ v)
  loop_rolled {es = es} {u = u} p at so_far d.no_more =
      subst (λ w. Derives has rules (Alt es) w) (sym (append-nil u)) so_far
  loop_rolled {es = es} {u = u} p at so_far (d.one_more {w = w} {v = v} (d.alt some) rest) =
      subst (λ x. Derives has rules (Alt es) x) (append_assoc u w v)
      (loop_rolled p at (d.alt (step_rolled p at so_far some)) rest)

  roll_body : {id : ℕ} {el body : Element} {w : List ℕ} → IsUnrolled rules id el body
      → slice_get (bodies rules) id ≡ Some el → Derives has rules body w → Derives has rules el w
  roll_body same at one = one
  roll_body {el = el} (looped p) at
      (d.concat (d.then {w = y} (d.alt one) (d.then {w = x} (d.rep low most times) d.all_done))) =
      subst (λ u. Derives has rules el u) (ap (λ (u : List ℕ). y ++ u) (sym (append-nil x)))
      (loop_rolled p at (d.alt (first_rolled p one)) times)

  mutual
    derives_rolled : {el : Element} {w : List ℕ} → Derives has new el w → Derives has rules el w
    derives_rolled (d.text s) = d.text s
    derives_rolled (d.values l) = d.values l
    derives_rolled (d.range l h is) = d.range l h is
    derives_rolled (d.concat all) = d.concat (roll_all all)
    derives_rolled (d.alt some) = d.alt (roll_some some)
    derives_rolled (d.rep l most times) = d.rep l most (roll_times times)
    derives_rolled d.opt_empty = d.opt_empty
    derives_rolled (d.opt one) = d.opt (derives_rolled one)
    derives_rolled (d.name {n = n} {e = body} is one) =
        let at = are.back (id_of rules n) body
        (ap (λ (k : ℕ). slice_get (bodies new) k) (sym (are.ids n)) ∙ sym (body_at_id new n) ∙ is) in
        d.name (old_at n (id_of rules n) at.0 refl at.1)
        (roll_body (subst (λ b. IsUnrolled rules (id_of rules n) at.0 b) (sym at.2)
        (is_unrolled rules (id_of rules n) at.0)) at.1 (derives_rolled one))

    roll_all : {es : Elements} {w : List ℕ} → DerivesAll has new es w → DerivesAll has rules es w
    roll_all d.all_done = d.all_done
    roll_all (d.then one rest) = d.then (derives_rolled one) (roll_all rest)

    roll_some : {es : Elements} {w : List ℕ} → DerivesSome has new es w → DerivesSome has rules es w
    roll_some (d.this one) = d.this (derives_rolled one)
    roll_some (d.later some) = d.later (roll_some some)

    roll_times : {el : Element} {k : ℕ} {w : List ℕ} → DerivesTimes has new el k w → DerivesTimes has rules el k w
    roll_times d.no_more = d.no_more
    roll_times (d.one_more one rest) = d.one_more (derives_rolled one) (roll_times rest)

  pub unrolled_derives : (id : ℕ) (w : List ℕ) → RuleDerives has new id w ↔ RuleDerives has rules id w
  unrolled_derives id w = (
    λ derives. let at = are.back id derives.body derives.is in record {
      body = at.0;
      is = at.1;
      derives = roll_body (subst (λ b. IsUnrolled rules id at.0 b) (sym at.2) (is_unrolled rules id at.0)) at.1
          (derives_rolled derives.derives);
    },
    λ derives. let at = are.there id derives.body derives.is in record {
      body = unrolled_body rules id derives.body;
      is = at;
      derives = unroll_body (is_unrolled rules id derives.body) at (derives_unrolled derives.derives);
    },
  )

append_none : (xs : Elements) → append xs none ≡ xs
append_none none = refl
append_none (more x xs) = ap (λ (ys : Elements). more x ys) (append_none xs)

module _ (rules : List Rule) (id : ℕ) where
  -- one alternative more
  pub firsts_same : (el : Element) (t xs : Elements) → tail_of rules id el ≡ Some t
      → xs ≡ append xs (firsts rules id (more el none))
  firsts_same el t xs is = rw is (sym (append_none xs))

  pub steps_same : (el : Element) (xs : Elements) → tail_of rules id el ≡ None
      → xs ≡ append xs (steps rules id (more el none))
  steps_same el xs is = rw is (sym (append_none xs))

  pub firsts_more : (el : Element) (old new : List Elem) (one : Elem) → tail_of rules id el ≡ None
      → new ≡ old ++ one ∷ [] → element_of one ≡ el
      → elements_of new ≡ append (elements_of old) (firsts rules id (more el none))
  firsts_more el old new one is pushed made =
      rw is (elements_of-push old new one pushed ∙ ap (λ (x : Element). append (elements_of old) (more x none)) made)

  pub steps_more : (el : Element) (t : Elements) (old new : List Elem) (one : Elem) → tail_of rules id el ≡ Some t
      → new ≡ old ++ one ∷ [] → element_of one ≡ Concat t
      → elements_of new ≡ append (elements_of old) (steps rules id (more el none))
  steps_more el t old new one is pushed made =
      rw is (elements_of-push old new one pushed ∙ ap (λ (x : Element). append (elements_of old) (more x none)) made)

  firsts_append : (xs ys : Elements) → firsts rules id (append xs ys) ≡ append (firsts rules id xs) (firsts rules id ys)
  firsts_append none ys = refl
  firsts_append (more el xs) ys = by (tail_of rules id el) refl (firsts_append xs ys)
    where
      by : (o : Option Elements) → tail_of rules id el ≡ o
          → firsts rules id (append xs ys) ≡ append (firsts rules id xs) (firsts rules id ys)
          → firsts rules id (append (more el xs) ys) ≡ append (firsts rules id (more el xs)) (firsts rules id ys)
      by None is rest = rw is (ap (λ (zs : Elements). more el zs) rest)
      by (Some t) is rest = rw is rest

  steps_append : (xs ys : Elements) → steps rules id (append xs ys) ≡ append (steps rules id xs) (steps rules id ys)
  steps_append none ys = refl
  steps_append (more el xs) ys = by (tail_of rules id el) refl (steps_append xs ys)
    where
      by : (o : Option Elements) → tail_of rules id el ≡ o
          → steps rules id (append xs ys) ≡ append (steps rules id xs) (steps rules id ys)
          → steps rules id (append (more el xs) ys) ≡ append (steps rules id (more el xs)) (steps rules id ys)
      by None is rest = rw is rest
      by (Some t) is rest = rw is (ap (λ (zs : Elements). more (Concat t) zs) rest)

  one_taken : (es : List Elem) (i : ℕ) (el : Elem) → i < length es → el ≡ get_or es i el
      → elements_of (take (i + 1) es) ≡ append (elements_of (take i es)) (more (element_of el) none)
  one_taken es i el lt at =
      let taken : take (i + 1) es ≡ take i es ++ el ∷ [] =
      ap (λ (k : ℕ). take k es) (add-one i) ∙ (take-suc es i el lt
      ∙ ap (λ (x : Elem). take i es ++ x ∷ []) (sym at)) in
      elements_of-push (take i es) (take (i + 1) es) el taken

  pub firsts_next : (es : List Elem) (i : ℕ) (el : Elem) (old new : Elements) → i < length es → el ≡ get_or es i el
      → old ≡ firsts rules id (elements_of (take i es))
      → new ≡ append old (firsts rules id (more (element_of el) none))
      → new ≡ firsts rules id (elements_of (take (i + 1) es))
  firsts_next es i el old new lt at so_far is =
      is ∙ ap (λ (zs : Elements). append zs (firsts rules id (more (element_of el) none))) so_far
      ∙ sym (firsts_append (elements_of (take i es)) (more (element_of el) none))
      ∙ ap (λ (zs : Elements). firsts rules id zs) (sym (one_taken es i el lt at))

  pub steps_next : (es : List Elem) (i : ℕ) (el : Elem) (old new : Elements) → i < length es → el ≡ get_or es i el
      → old ≡ steps rules id (elements_of (take i es))
      → new ≡ append old (steps rules id (more (element_of el) none))
      → new ≡ steps rules id (elements_of (take (i + 1) es))
  steps_next es i el old new lt at so_far is =
      is ∙ ap (λ (zs : Elements). append zs (steps rules id (more (element_of el) none))) so_far
      ∙ sym (steps_append (elements_of (take i es)) (more (element_of el) none))
      ∙ ap (λ (zs : Elements). steps rules id zs) (sym (one_taken es i el lt at))

  -- a body with steps is a loop, and one without is as it was
  pub body_looped : (el made : Element) (ys xs : List Elem) (b : Bool) → b ≡ (length xs == 0) → b ≡ false
      → elements_of ys ≡ firsts rules id (alternatives_in el) → elements_of xs ≡ steps rules id (alternatives_in el)
      → made ≡ loop (elements_of ys) (elements_of xs) → made ≡ unrolled_body rules id el
  body_looped el made ys [] b empty off first step is = absurd (cc (empty, off))
  body_looped el made ys (x ∷ xs) b empty off first step is =
      is ∙ rw (sym first, sym step) refl

  pub body_kept : (el made : Element) (xs : List Elem) (b : Bool) → b ≡ (length xs == 0) → b ≡ true
      → elements_of xs ≡ steps rules id (alternatives_in el) → made ≡ el → made ≡ unrolled_body rules id el
  body_kept el made [] b empty on step is = is ∙ rw (sym step) refl
  body_kept el made (x ∷ xs) b empty on step is =
      let no : length (x ∷ xs) ≡ 0 = eqb-true (length (x ∷ xs)) 0 (sym empty ∙ on) in absurd (omega (arith, no))

  -- what follows a name, if that is the name of the rule
  pub tail_is : (n : List ℕ) (es : Elements) (found : ℕ) → found ≡ id_of rules n → found ≡ id
      → Some es ≡ tail_after rules id (Some (n, es))
  tail_is n es found is here = rw (sym is, eq-eqb found id here) refl

  pub tail_not : (n : List ℕ) (es : Elements) (found : ℕ) → found ≡ id_of rules n → (found ≡ id → ⊥)
      → None ≡ tail_after rules id (Some (n, es))
  tail_not n es found is not = by (found == id) refl
    where
      by : (b : Bool) → (found == id) ≡ b → None ≡ tail_after rules id (Some (n, es))
      by true test = absurd (not (eqb-true found id test))
      by false test = rw (sym is, test) refl

-- the rules of such bodies
pub length_unrolled : (all : List Rule) (start : ℕ) (rules : List Rule)
    → length (unrolled_from all start rules) ≡ length rules
length_unrolled all start [] = refl
length_unrolled all start (rule ∷ rules) =
    let rest = length_unrolled all (suc start) rules in omega (arith, rest)

pub unrolled_there : (all : List Rule) (start : ℕ) (rules : List (table.Rule Elem)) (id : ℕ) (name : List ℕ)
    (body copy : Elem) (span : Span) → slice_get (map (λ (rule : table.Rule Elem). rule.name) rules) id ≡ Some name
    → slice_get (map (λ (rule : table.Rule Elem). rule.body) rules) id ≡ Some body
    → slice_get (map (λ (rule : table.Rule Elem). rule.span) rules) id ≡ Some span
    → element_of copy ≡ unrolled_body all (start + id) (element_of body)
    → slice_get (unrolled_from all start (map rule_of rules)) id ≡ Some (rule_of (copy_of name copy span))
unrolled_there all start [] id name body copy span n b s made = absurd (cc n)
unrolled_there all start (rule ∷ rules) zero name body copy span n b s made =
    let is_name : rule.name ≡ name = cc n in
    let is_body : rule.body ≡ body = cc b in
    let is_span : rule.span ≡ span = cc s in
    let here : start + 0 ≡ start = omega arith in
    rw (sym is_name, sym is_span, made, sym is_body, here) refl
unrolled_there all start (rule ∷ rules) (suc id) name body copy span n b s made =
    let here : start + suc id ≡ suc start + id = omega arith in
    unrolled_there all (suc start) rules id name body copy span n b s
    (made ∙ ap (λ (k : ℕ). unrolled_body all k (element_of body)) here)

unrolled_at : (all : List Rule) (start : ℕ) (rules : List Rule) (id : ℕ) (el : Element)
    → slice_get (bodies rules) id ≡ Some el
    → slice_get (bodies (unrolled_from all start rules)) id ≡ Some (unrolled_body all (start + id) el)
unrolled_at all start [] id el at = absurd (cc at)
unrolled_at all start (rule ∷ rules) zero el at =
    let is : rule.body ≡ el = cc at in
    let here : start + 0 ≡ start = omega arith in
    rw (here, is) refl
unrolled_at all start (rule ∷ rules) (suc id) el at =
    let here : start + suc id ≡ suc start + id = omega arith in
    rw here (unrolled_at all (suc start) rules id el at)

unrolled_back : (all : List Rule) (start : ℕ) (rules : List Rule) (id : ℕ) (el : Element)
    → slice_get (bodies (unrolled_from all start rules)) id ≡ Some el
    → (old : Element) × (slice_get (bodies rules) id ≡ Some old) × (el ≡ unrolled_body all (start + id) old)
unrolled_back all start [] id el at = absurd (cc at)
unrolled_back all start (rule ∷ rules) zero el at =
    let here : start ≡ start + 0 = omega arith in
    let is : unrolled_body all start rule.body ≡ el = cc at in
    (rule.body, refl, sym is ∙ ap (λ (k : ℕ). unrolled_body all k rule.body) here)
unrolled_back all start (rule ∷ rules) (suc id) el at =
    let here : suc start + id ≡ start + suc id = omega arith in
    let rest = unrolled_back all (suc start) rules id el at in
    (rest.0, rest.1, rest.2 ∙ ap (λ (k : ℕ). unrolled_body all k rest.0) here)

ids_unrolled : (all : List Rule) (start : ℕ) (rules : List Rule) (name : List ℕ)
    → id_of (unrolled_from all start rules) name ≡ id_of rules name
ids_unrolled all start [] name = refl
ids_unrolled all start (rule ∷ rules) name =
    ap (λ (k : ℕ). cond (same_name Fold name rule.name) 0 (k + 1)) (ids_unrolled all (suc start) rules name)

pub are_unrolled : (rules : List Rule) → AreUnrolled rules (unrolled_from rules 0 rules)
are_unrolled rules = record {
  ids = λ n. ids_unrolled rules 0 rules n;
  there = λ id el at. unrolled_at rules 0 rules id el at
      ∙ ap (λ (k : ℕ). Some (unrolled_body rules k el)) (zero_less id);
  back = λ id el at.
      let found = unrolled_back rules 0 rules id el at in
      (found.0, found.1, found.2 ∙ ap (λ (k : ℕ). unrolled_body rules k found.0) (zero_less id));
}
  where
    zero_less : (k : ℕ) → 0 + k ≡ k
    zero_less k = omega arith

-- what stands in a body with a loop stood in the body
module _ (rules : List Rule) (id : ℕ) where
  data IsLeaf : Element → Type 0 where
    is_name : {n : List ℕ} → IsLeaf (Name n)
    is_prose : {t : List ℕ} → IsLeaf (Prose t)

  in_firsts : {es ys xs : Elements} {d : Element} → AreParted rules id es ys xs → WithinSome ys d → WithinSome es d
  in_firsts no_part w = elim w [ ]
  in_firsts (keeps p) (of_first w) = of_first w
  in_firsts (keeps p) (of_later w) = of_later (in_firsts p w)
  in_firsts (moves t p) w = of_later (in_firsts p w)

  in_tail : {el d : Element} {t : Elements} → IsTail rules id el t → WithinSome t d → Within el d
  in_tail (alone is) w = elim w [ ]
  in_tail (before is) w = of_concat (of_later w)

  in_step : {el d : Element} {t : Elements} → IsTail rules id el t → IsLeaf d → Within (Concat t) d → Within el d
  in_step t leaf (of_concat w) = in_tail t w
  in_step t leaf itself = elim leaf [ ]

  in_steps : {es ys xs : Elements} {d : Element} → AreParted rules id es ys xs → IsLeaf d → WithinSome xs d
      → WithinSome es d
  in_steps no_part leaf w = elim w [ ]
  in_steps (keeps p) leaf w = of_later (in_steps p leaf w)
  in_steps (moves t p) leaf (of_first w) = of_first (in_step t leaf w)
  in_steps (moves t p) leaf (of_later w) = of_later (in_steps p leaf w)

  in_alt : {es : Elements} {d : Element} → IsLeaf d → Within (Alt es) d → WithinSome es d
  in_alt leaf (of_alt w) = w
  in_alt leaf itself = elim leaf [ ]

  in_rep : {es : Elements} {d : Element} → IsLeaf d → Within (Rep 0 None (Alt es)) d → WithinSome es d
  in_rep leaf (of_rep w) = in_alt leaf w
  in_rep leaf itself = elim leaf [ ]

  in_members : {es ys xs : Elements} {d : Element} → AreParted rules id es ys xs → IsLeaf d
      → WithinSome (more (Alt ys) (more (Rep 0 None (Alt xs)) none)) d → WithinSome es d
  in_members p leaf (of_first w) = in_firsts p (in_alt leaf w)
  in_members p leaf (of_later (of_first w)) = in_steps p leaf (in_rep leaf w)
  in_members p leaf (of_later (of_later w)) = elim w [ ]

  in_loop : {es ys xs : Elements} {d : Element} → AreParted rules id es ys xs → IsLeaf d → Within (loop ys xs) d
      → Within (Alt es) d
  in_loop p leaf (of_concat w) = of_alt (in_members p leaf w)
  in_loop p leaf itself = elim leaf [ ]

  in_body : {el body d : Element} → IsUnrolled rules id el body → IsLeaf d → Within body d → Within el d
  in_body same leaf w = w
  in_body (looped p) leaf w = in_loop p leaf w

module _ (rules new : List Rule) (judged : ℕ) (are : AreUnrolled rules new) (size : length new ≡ length rules) where
  back_within : (id : ℕ) (body d : Element) → slice_get (bodies new) id ≡ Some body → IsLeaf rules id d → Within body d
      → (old : Element) × (slice_get (bodies rules) id ≡ Some old) × Within old d
  back_within id body d at leaf w =
      let back = are.back id body at in
      (back.0, back.1, in_body rules id (is_unrolled rules id back.0) leaf (subst (λ v. Within v d) back.2 w))

  reach_back : {id : ℕ} → Reachable new judged id → Reachable rules judged id
  reach_back judged_rule = judged_rule
  reach_back (by_name {id = id} {body = body} {name = name} r at w) =
      let found = back_within id body (Name name) at is_name w in
      subst (λ v. Reachable rules judged v) (sym (are.ids name)) (by_name (reach_back r) found.1 found.2)

  pub unrolled_sound : IsSound rules judged → IsSound new judged
  unrolled_sound sound = record {
    judged_is_rule = (let lt = sound.judged_is_rule in omega (arith, lt, size));
    defined = λ id r. let lt = sound.defined id (reach_back r) in omega (arith, lt, size);
    plain = λ id body text r at w.
        let found = back_within id body (Prose text) at is_prose w in
        sound.plain id found.0 text (reach_back r) found.1 found.2;
  }

-- a grammar and that of unrolled bodies
pub lines_unrolled : (g unrolled : Grammar) → IsUnrolledGrammar g unrolled → (has : ℕ → Bool) (w : List ℕ)
    → RuleDerives has (rules_of unrolled.rules) unrolled.judged w ↔ RuleDerives has (rules_of g.rules) g.judged w
lines_unrolled g unrolled is has w =
    let rules = rules_of g.rules in
    rw (is.judged, is.rules) (unrolled_derives has rules (unrolled_from rules 0 rules) (are_unrolled rules) g.judged w)
