-- The rules that elements name, and those to which names lead.
-- Serves: cover_lines
use Rattle.std.proofs.Common.{◌≡◌, ◌↔◌, ◌⊎◌, inl, inr, ⊎_elim, ℕ, ◌+◌, ◌<◌, ◌≤◌, Bool, List, [], ◌∷◌}
use Rattle.std.proofs.Common.{◌++◌, map, take, get_or, length, length-append, Contains, Option, Some, None, refl, sym}
use Rattle.std.proofs.Common.{◌∙◌, ap, subst, arith}
use Rattle.std.specs.Prelude.{slice_get}
use Rattle.std.proofs.lemmas.Bool.{cases_eq, cases_lt}
use Rattle.std.proofs.lemmas.List.{get_or_append_left, get_or_past, length-map, map-append}
use Rattle.std.proofs.lemmas.List.Elements.{Contains-append_cases, Contains-append_left, Contains-append_right}
use Rattle.std.proofs.Math.Seq.{get_or-append_seam}
use Rattle.fixpoint.specs.NumberMarks.{IsMarked}
use Rattle.fixpoint.specs.Reach.{AreReachedFrom, Reaches, further, here}
use Rattle.fixpoint.specs.StepRows.{AreStepsWithin, Step, row_at}
use Rattle.ruletable.specs.Rules as table
use Rattle.ruletable.specs.Rules.{find_in}
use Rattle.ruletable.specs.declared.table.NameCase.TheVariants.{Fold}
use Rattle.abnfread.specs.AbnfViews.{element_of, elements, elements_of, rule_of, rules_of}
use Rattle.abnfread.specs.Element.{Alt, Concat, Element, Elements, Name, Opt, Rep, Rule, bodies, id_of, none}
use Rattle.abnfread.specs.declared.elem.Elem.{Elem}
use Rattle.abnfcheck.specs.AbnfGrammar as s
use Rattle.abnfcheck.specs.AbnfGrammar.{Reachable, Within, WithinSome}
use Rattle.abnfcheck.proofs.RuleIdLemmas.{id_found}
use Rattle.coverlines.specs.NamedIds.{AddsNamed, AreNamedRows, HasNameOf, SomeHasNameOf}
use Rattle.coverlines.proofs.KnownWordsLemmas.{body_below, body_there}
use Rattle.coverlines.proofs.MemberLemmas.{first_in, none_in, only_in, taken_more, taken_past}
use Rattle.coverlines.proofs.RuleContextsLemmas.{found_inside}

-- numbers that are added
pub named_same : (P Q : ℕ → Type 0) (old new : List ℕ) → ((id : ℕ) → P id → Q id) → ((id : ℕ) → Q id → P id)
    → AddsNamed P old new → AddsNamed Q old new
named_same P Q old new to from h = λ id. (
  λ c. ⊎_elim (λ l. inl l) (λ r. inr (to id r)) ((h id).0 c),
  λ c. (h id).1 (⊎_elim (λ l. inl l) (λ r. inr (from id r)) c),
)

pub named_none : (P : ℕ → Type 0) (old : List ℕ) → ((id : ℕ) → P id → ⊥) → AddsNamed P old old
named_none P old never = λ id. (λ c. inl c, λ c. ⊎_elim (λ l. l) (λ r. absurd (never id r)) c)

named_both : (P Q R : ℕ → Type 0) (old mid new : List ℕ) → ((id : ℕ) → R id → P id ⊎ Q id)
    → ((id : ℕ) → P id → R id) → ((id : ℕ) → Q id → R id) → AddsNamed P old mid → AddsNamed Q mid new
    → AddsNamed R old new
named_both P Q R old mid new either left right one two = λ id. (
  λ c. ⊎_elim (λ l. ⊎_elim (λ o. inl o) (λ p. inr (left id p)) ((one id).0 l)) (λ q. inr (right id q)) ((two id).0 c),
  λ c. (two id).1 (⊎_elim (λ o. inl ((one id).1 (inl o)))
      (λ r. ⊎_elim (λ p. inl ((one id).1 (inr p))) (λ q. inr q) (either id r)) c),
)

-- the rule of a name
module _ (rules : table.Rules Elem) (name : List ℕ) (folds : rules.names ≡ Fold) where
  pub found_adds : (k : ℕ) (old new : List ℕ) → Some k ≡ find_in rules name → new ≡ old ++ k ∷ []
      → AddsNamed (λ id. (id ≡ id_of (rules_of rules) name) × (id < length (rules_of rules))) old new
  found_adds k old new found is = subst
      (AddsNamed (λ id. (id ≡ id_of (rules_of rules) name) × (id < length (rules_of rules))) old) (sym is) (λ id. (
        λ c. ⊎_elim (λ l. inl l)
            (λ r. inr (sym (only_in k id r) ∙ at, subst (λ n. n < length (rules_of rules)) (only_in k id r) lt))
            (Contains-append_cases old (k ∷ []) id c),
        λ c. ⊎_elim (λ l. Contains-append_left old (k ∷ []) id l)
            (λ r. Contains-append_right old (k ∷ []) id (subst (Contains (k ∷ [])) (at ∙ sym r.0) (first_in k []))) c,
      ))
    where
      at : k ≡ id_of (rules_of rules) name
      at = id_found rules name (Some k) (length rules.rules) folds found refl

      lt : k < length (rules_of rules)
      lt = let i = found_inside rules name k (sym found) in let n = length-map rules.rules rule_of in
          omega (arith, i, n)

  pub none_adds : (old : List ℕ) → None ≡ find_in rules name
      → AddsNamed (λ id. (id ≡ id_of (rules_of rules) name) × (id < length (rules_of rules))) old old
  none_adds old absent = named_none
      (λ id. (id ≡ id_of (rules_of rules) name) × (id < length (rules_of rules))) old (λ id r.
      let at = id_found rules name None (length rules.rules) folds absent refl in
      let n = length-map rules.rules rule_of in
      let is = r.0 in
      let lt = r.1 in omega (arith, at, n, is, lt))

-- names within elements
same_names : {n m : List ℕ} → Within (Name n) (Name m) → n ≡ m
same_names s.itself = refl

some_split : (xs : List Element) (x d : Element) → WithinSome (elements (xs ++ x ∷ [])) d
    → WithinSome (elements xs) d ⊎ Within x d
some_split [] x d (s.of_first w) = inr w
some_split [] x d (s.of_later w) = elim w [ ]
some_split (y ∷ xs) x d (s.of_first w) = inl (s.of_first w)
some_split (y ∷ xs) x d (s.of_later w) = ⊎_elim (λ l. inl (s.of_later l)) (λ r. inr r) (some_split xs x d w)

some_left : (xs : List Element) (x d : Element) → WithinSome (elements xs) d → WithinSome (elements (xs ++ x ∷ [])) d
some_left [] x d w = elim w [ ]
some_left (y ∷ xs) x d (s.of_first w) = s.of_first w
some_left (y ∷ xs) x d (s.of_later w) = s.of_later (some_left xs x d w)

some_right : (xs : List Element) (x d : Element) → Within x d → WithinSome (elements (xs ++ x ∷ [])) d
some_right [] x d w = s.of_first w
some_right (y ∷ xs) x d w = s.of_later (some_right xs x d w)

module _ (rules : List Rule) (old new : List ℕ) where
  pub name_adds : (n : List ℕ) → AddsNamed (λ id. (id ≡ id_of rules n) × (id < length rules)) old new
      → AddsNamed (HasNameOf rules (Name n)) old new
  name_adds n h = named_same (λ id. (id ≡ id_of rules n) × (id < length rules)) (HasNameOf rules (Name n)) old new
      (λ id r. record { name = n; within = s.itself; is = r.0; below = r.1 })
      (λ id r. (r.is ∙ ap (id_of rules) (sym (same_names r.within)), r.below)) h

  pub concat_adds : (es : Elements) → AddsNamed (SomeHasNameOf rules es) old new
      → AddsNamed (HasNameOf rules (Concat es)) old new
  concat_adds es h = named_same (SomeHasNameOf rules es) (HasNameOf rules (Concat es)) old new
      (λ id r. record { name = r.name; within = s.of_concat r.within; is = r.is; below = r.below })
      (λ id r. record { name = r.name; within = inside r.within; is = r.is; below = r.below }) h
    where
      inside : {es : Elements} {n : List ℕ} → Within (Concat es) (Name n) → WithinSome es (Name n)
      inside (s.of_concat w) = w

  pub alt_adds : (es : Elements) → AddsNamed (SomeHasNameOf rules es) old new
      → AddsNamed (HasNameOf rules (Alt es)) old new
  alt_adds es h = named_same (SomeHasNameOf rules es) (HasNameOf rules (Alt es)) old new
      (λ id r. record { name = r.name; within = s.of_alt r.within; is = r.is; below = r.below })
      (λ id r. record { name = r.name; within = inside r.within; is = r.is; below = r.below }) h
    where
      inside : {es : Elements} {n : List ℕ} → Within (Alt es) (Name n) → WithinSome es (Name n)
      inside (s.of_alt w) = w

  pub rep_adds : (a : ℕ) (most : Option ℕ) (e : Element) → AddsNamed (HasNameOf rules e) old new
      → AddsNamed (HasNameOf rules (Rep a most e)) old new
  rep_adds a most e h = named_same (HasNameOf rules e) (HasNameOf rules (Rep a most e)) old new
      (λ id r. record { name = r.name; within = s.of_rep r.within; is = r.is; below = r.below })
      (λ id r. record { name = r.name; within = inside r.within; is = r.is; below = r.below }) h
    where
      inside : {a : ℕ} {most : Option ℕ} {e : Element} {n : List ℕ} → Within (Rep a most e) (Name n)
          → Within e (Name n)
      inside (s.of_rep w) = w

  pub opt_adds : (e : Element) → AddsNamed (HasNameOf rules e) old new → AddsNamed (HasNameOf rules (Opt e)) old new
  opt_adds e h = named_same (HasNameOf rules e) (HasNameOf rules (Opt e)) old new
      (λ id r. record { name = r.name; within = s.of_opt r.within; is = r.is; below = r.below })
      (λ id r. record { name = r.name; within = inside r.within; is = r.is; below = r.below }) h
    where
      inside : {e : Element} {n : List ℕ} → Within (Opt e) (Name n) → Within e (Name n)
      inside (s.of_opt w) = w

module _ (rules : List Rule) (es : List Elem) where
  pub no_member_adds : (old : List ℕ) → AddsNamed (SomeHasNameOf rules (elements_of (take 0 es))) old old
  no_member_adds old = named_none (SomeHasNameOf rules (elements_of (take 0 es))) old (λ id r. never r.within)
    where
      never : {d : Element} → WithinSome none d → ⊥
      never w = elim w [ ]

  pub next_member_adds : (i : ℕ) (el : Elem) (old mid new : List ℕ) → i < length es → el ≡ get_or es i el
      → AddsNamed (SomeHasNameOf rules (elements_of (take i es))) old mid
      → AddsNamed (HasNameOf rules (element_of el)) mid new
      → AddsNamed (SomeHasNameOf rules (elements_of (take (i + 1) es))) old new
  next_member_adds i el old mid new lt is one two = named_both (SomeHasNameOf rules (elements_of (take i es)))
      (HasNameOf rules (element_of el)) (SomeHasNameOf rules (elements_of (take (i + 1) es))) old mid new
      (λ id r. ⊎_elim (λ l. inl (record { name = r.name; within = l; is = r.is; below = r.below }))
      (λ l. inr (record { name = r.name; within = l; is = r.is; below = r.below }))
      (some_split (map element_of (take i es)) (element_of el) (Name r.name)
      (subst (λ v. WithinSome v (Name r.name)) same r.within)))
      (λ id r. record {
        name = r.name;
        within = subst (λ v. WithinSome v (Name r.name)) (sym same)
            (some_left (map element_of (take i es)) (element_of el) (Name r.name) r.within);
        is = r.is;
        below = r.below;
      })
      (λ id r. record {
        name = r.name;
        within = subst (λ v. WithinSome v (Name r.name)) (sym same)
            (some_right (map element_of (take i es)) (element_of el) (Name r.name) r.within);
        is = r.is;
        below = r.below;
      }) one two
    where
      same : elements_of (take (i + 1) es) ≡ elements (map element_of (take i es) ++ element_of el ∷ [])
      same = ap (λ (xs : List Elem). elements_of xs) (taken_more es i el lt is)
          ∙ ap elements (map-append element_of (take i es) (el ∷ []))

  pub all_members_add : (n : ℕ) (old new : List ℕ) → length es ≤ n
      → AddsNamed (SomeHasNameOf rules (elements_of (take n es))) old new
      → AddsNamed (SomeHasNameOf rules (elements_of es)) old new
  all_members_add n old new le h = subst
      (λ (xs : List Elem). AddsNamed (SomeHasNameOf rules (elements_of xs)) old new) (taken_past es n le) h

-- rows of the first so many rules
pub record AreNamedRowsTo (rules : List Rule) (rows : List (List ℕ)) (n : ℕ) : Type 0 where
  pub count : length rows ≡ n
  pub each : (id : ℕ) (body : Element) → id < n → slice_get (bodies rules) id ≡ Some body → (m : ℕ)
      → (Contains (row_at rows id) m ↔ HasNameOf rules body m)

module _ (rules : List Rule) where
  pub no_named_rows : AreNamedRowsTo rules [] 0
  no_named_rows = record { count = refl; each = λ id body lt. absurd (omega (arith, lt)) }

  pub next_named_rows : (rows : List (List ℕ)) (row : List ℕ) (i : ℕ) (body : Element)
      → slice_get (bodies rules) i ≡ Some body → AddsNamed (HasNameOf rules body) [] row
      → AreNamedRowsTo rules rows i → AreNamedRowsTo rules (rows ++ row ∷ []) (i + 1)
  next_named_rows rows row i body at adds r = record {
    count = let l = length-append rows (row ∷ []) in let c = r.count in omega (arith, l, c);
    each = λ id other lt there m. ⊎_elim
        (λ same.
        let one : body ≡ other = let h = subst (λ v. slice_get (bodies rules) v ≡ Some other) same there in
        cc (at, h) in
        let row_is : row_at (rows ++ row ∷ []) id ≡ row = ap (λ v. row_at (rows ++ row ∷ []) v) (same ∙ sym r.count)
        ∙ get_or-append_seam rows row [] [] in
        subst (λ v. Contains v m ↔ HasNameOf rules other m) (sym row_is)
        (subst (λ v. Contains row m ↔ HasNameOf rules v m) one (
          λ c. ⊎_elim (λ l. absurd (none_in m l)) (λ k. k) ((adds m).0 c),
          λ k. (adds m).1 (inr k),
        )))
        (λ ne.
        let less : id < i = omega (arith, lt, ne) in
        let low : id < length rows = let c = r.count in omega (arith, less, c) in
        subst (λ v. Contains v m ↔ HasNameOf rules other m) (sym (get_or_append_left rows (row ∷ []) [] id low))
        (r.each id other less there m))
        (cases_eq id i);
  }

  pub all_named_rows : (rows : List (List ℕ)) → AreNamedRowsTo rules rows (length rules) → AreNamedRows rules rows
  all_named_rows rows r = record {
    count = r.count;
    each = λ id body at. r.each id body (body_below rules id body at) at;
  }

  module _ (rows : List (List ℕ)) (r : AreNamedRows rules rows) where
    step_named : (n m : ℕ) → Step rows n m
        → (body : Element) × (slice_get (bodies rules) n ≡ Some body) × HasNameOf rules body m
    step_named n m step = ⊎_elim
        (λ lt. let body = body_there rules n lt in (body.0, body.1, (r.each n body.0 body.1 m).0 step))
        (λ past. absurd (none_in m (subst (λ v. Contains v m)
        (get_or_past rows n [] (let c = r.count in omega (arith, c, past))) step))) (cases_lt n (length rules))

    pub named_within : AreStepsWithin rows
    named_within = record {
      within = λ n m step. let lt = (step_named n m step).2.below in let c = r.count in omega (arith, lt, c);
    }

    module _ (judged : ℕ) where
      reaches_rule : {n : ℕ} → Reaches rows judged n → Reachable rules judged n
      reaches_rule here = s.judged_rule
      reaches_rule (further {n = n} {m = m} before step) =
          let named = step_named n m step in
          subst (Reachable rules judged) (sym named.2.is) (s.by_name (reaches_rule before) named.1 named.2.within)

      rule_reached : {id : ℕ} → Reachable rules judged id → id < length rules → Reaches rows judged id
      rule_reached s.judged_rule lt = here
      rule_reached (s.by_name {id = user} {body = body} {name = name} before is within) lt = further
          (rule_reached before (body_below rules user body is))
          ((r.each user body is (id_of rules name)).1 (record { name = name; within = within; is = refl; below = lt }))

      pub named_marks : (marks : List Bool) → AreReachedFrom rows (judged ∷ []) marks → (id : ℕ) → id < length rules
          → (IsMarked marks id ↔ Reachable rules judged id)
      named_marks marks h id lt = (
        λ m. let f = (h id).0 m in
            reaches_rule (subst (λ v. Reaches rows v id) (sym (only_in judged f.0 f.1)) f.2),
        λ k. (h id).1 (judged, first_in judged [], rule_reached k lt),
      )
