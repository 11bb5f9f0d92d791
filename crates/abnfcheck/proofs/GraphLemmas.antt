-- Steps between the ids of names are the uses of rules, and lead to what the judged rule reaches.
-- Serves: check_abnf (notes, sound)
use Rattle.std.proofs.Common.{◌≡◌, ℕ, zero, suc, ◌<◌, ◌≤◌, ◌⊎◌, inl, inr, ⊎_elim, Bool, true, false, ◌||◌, List, []}
use Rattle.std.proofs.Common.{◌∷◌, ◌++◌, length, Option, Some, refl, sym, ◌∙◌, ap, subst, arith, length-append}
use Rattle.std.specs.Prelude.{slice_get, slice_index_or, Contains}
use Rattle.std.proofs.lemmas.Bool.{cases_lt}
use Rattle.std.proofs.lemmas.List.{length-map}
use Rattle.fixpoint.specs.Reach.{Reaches, here as start, further}
use Rattle.fixpoint.specs.StepRows.{Step, AreStepsWithin}
use Rattle.fixpoint.proofs.ContainsLemmas.{none_of, in_first, in_later, cons_cases}
use Rattle.ruletable.specs.declared.table.NameCase.TheVariants.{Fold}
use Rattle.fixpoint.specs.FirstUses.{news}
use Rattle.fixpoint.specs.NameUses.{IsPosition, here, there, AreIdsOf, no_uses, one_use}
use Rattle.fixpoint.proofs.IsPositionLemmas.{position_below}
use Rattle.abnfread.specs.Element as e
use Rattle.abnfread.specs.Element.{Element, Elements, Rule, bodies, id_of}
use Rattle.abnfcheck.specs.AbnfGrammar.{Within, WithinSome, itself, of_concat, of_alt, of_rep, of_opt, of_first}
use Rattle.abnfcheck.specs.AbnfGrammar.{of_later, Reachable, judged_rule, by_name}
use Rattle.abnfcheck.specs.AbnfNotes.{judged_in}
use Rattle.abnfcheck.specs.AbnfUses.{names_in, names_in_all, names_used, rule_names, Uses, HoldsProse}
use Rattle.std.specs.Prelude.{option_to_list}
use Rattle.abnfcheck.specs.NameIds.{IsIdAt, IsJudged, IsGraph, UsesNameAt}
use Rattle.abnfcheck.specs.ProseIn.{prose_in, prose_in_one, prose_marks}
use Rattle.abnfcheck.proofs.NameIdsLemmas.{position_id, judged_id}

-- a member of a list
pub data In {A : Type 0} (a : A) : List A → Type 0 where
  in_head : {rest : List A} → In a (a ∷ rest)
  in_tail : {b : A} {rest : List A} → In a rest → In a (b ∷ rest)

in_left : {A : Type 0} {a : A} {xs : List A} (ys : List A) → In a xs → In a (xs ++ ys)
in_left ys in_head = in_head
in_left ys (in_tail i) = in_tail (in_left ys i)

in_right : {A : Type 0} {a : A} (xs : List A) {ys : List A} → In a ys → In a (xs ++ ys)
in_right [] i = i
in_right (x ∷ xs) i = in_tail (in_right xs i)

in_either : {A : Type 0} {a : A} (xs : List A) {ys : List A} → In a (xs ++ ys) → In a xs ⊎ In a ys
in_either [] i = inr i
in_either (x ∷ xs) in_head = inl in_head
in_either (x ∷ xs) (in_tail i) = ⊎_elim (λ l. inl (in_tail l)) (λ r. inr r) (in_either xs i)

-- names in an element
only_name : {n name : List ℕ} → In n (name ∷ []) → n ≡ name
only_name in_head = refl
only_name (in_tail i) = elim i [ ]

nothing_in : {n : List ℕ} {A : Type 0} → In n [] → A
nothing_in i = elim i [ ]

mutual
  name_within : (el : Element) {n : List ℕ} → In n (names_in el) → Within el (e.Name n)
  name_within (e.Text folds text) i = nothing_in i
  name_within (e.Values values) i = nothing_in i
  name_within (e.Range low high) i = nothing_in i
  name_within (e.Concat es) i = of_concat (name_within_some es i)
  name_within (e.Alt es) i = of_alt (name_within_some es i)
  name_within (e.Rep least most el) i = of_rep (name_within el i)
  name_within (e.Opt el) i = of_opt (name_within el i)
  name_within (e.Name name) i = subst (λ v. Within (e.Name name) (e.Name v)) (sym (only_name i)) itself
  name_within (e.Prose text) i = nothing_in i

  name_within_some : (es : Elements) {n : List ℕ} → In n (names_in_all es) → WithinSome es (e.Name n)
  name_within_some e.none i = nothing_in i
  name_within_some (e.more el es) i = ⊎_elim (λ l. of_first (name_within el l)) (λ r. of_later (name_within_some es r))
      (in_either (names_in el) i)

mutual
  within_name : {el : Element} {n : List ℕ} → Within el (e.Name n) → In n (names_in el)
  within_name itself = in_head
  within_name (of_concat w) = within_some_name w
  within_name (of_alt w) = within_some_name w
  within_name (of_rep w) = within_name w
  within_name (of_opt w) = within_name w

  within_some_name : {es : Elements} {n : List ℕ} → WithinSome es (e.Name n) → In n (names_in_all es)
  within_some_name (of_first {es = es} w) = in_left (names_in_all es) (within_name w)
  within_some_name (of_later {e = el} w) = in_right (names_in el) (within_some_name w)

-- prose in an element
or_cases : (b c : Bool) → (b || c) ≡ true → (b ≡ true) ⊎ (c ≡ true)
or_cases true c is = inl refl
or_cases false c is = inr is

or_left : (b c : Bool) → b ≡ true → (b || c) ≡ true
or_left true c is = refl
or_left false c is = absurd (cc is)

or_right : (b c : Bool) → c ≡ true → (b || c) ≡ true
or_right true c is = refl
or_right false c is = is

-- some prose within
record SomeProse (el : Element) : Type 0 where
  text : List ℕ
  within : Within el (e.Prose text)

record SomeProseIn (es : Elements) : Type 0 where
  text : List ℕ
  within : WithinSome es (e.Prose text)

mutual
  prose_within : (el : Element) → prose_in el ≡ true → SomeProse el
  prose_within (e.Text folds text) is = absurd (cc is)
  prose_within (e.Values values) is = absurd (cc is)
  prose_within (e.Range low high) is = absurd (cc is)
  prose_within (e.Concat es) is = let p = prose_within_some es is in
      record { text = p.text; within = of_concat p.within }
  prose_within (e.Alt es) is = let p = prose_within_some es is in record { text = p.text; within = of_alt p.within }
  prose_within (e.Rep least most el) is = let p = prose_within el is in
      record { text = p.text; within = of_rep p.within }
  prose_within (e.Opt el) is = let p = prose_within el is in record { text = p.text; within = of_opt p.within }
  prose_within (e.Name name) is = absurd (cc is)
  prose_within (e.Prose text) is = record { text = text; within = itself }

  prose_within_some : (es : Elements) → prose_in_one es ≡ true → SomeProseIn es
  prose_within_some e.none is = absurd (cc is)
  prose_within_some (e.more el es) is = ⊎_elim
      (λ l. let p = prose_within el l in record { text = p.text; within = of_first p.within })
      (λ r. let p = prose_within_some es r in record { text = p.text; within = of_later p.within })
      (or_cases (prose_in el) (prose_in_one es) is)

mutual
  within_prose : {el : Element} {t : List ℕ} → Within el (e.Prose t) → prose_in el ≡ true
  within_prose itself = refl
  within_prose (of_concat w) = within_some_prose w
  within_prose (of_alt w) = within_some_prose w
  within_prose (of_rep w) = within_prose w
  within_prose (of_opt w) = within_prose w

  within_some_prose : {es : Elements} {t : List ℕ} → WithinSome es (e.Prose t) → prose_in_one es ≡ true
  within_some_prose (of_first {e = el} {es = es} w) = or_left (prose_in el) (prose_in_one es) (within_prose w)
  within_some_prose (of_later {e = el} {es = es} w) = or_right (prose_in el) (prose_in_one es) (within_some_prose w)

-- the mark of a rule
prose_mark : (rules : List Rule) (id : ℕ) (body : Element) (d : Bool) → slice_get (bodies rules) id ≡ Some body
    → slice_index_or (prose_marks rules) id d ≡ prose_in body
prose_mark [] id body d is = absurd (cc is)
prose_mark (rule ∷ rules) zero body d is = let same : rule.body ≡ body = cc is in ap prose_in same
prose_mark (rule ∷ rules) (suc id) body d is = prose_mark rules id body d is

pub body_there : (rules : List Rule) (id : ℕ) → id < length rules → (body : Element)
    × (slice_get (bodies rules) id ≡ Some body)
body_there [] id lt = absurd (omega (arith, lt))
body_there (rule ∷ rules) zero lt = (rule.body, refl)
body_there (rule ∷ rules) (suc id) lt = body_there rules id (omega (arith, lt))

pub body_below : (rules : List Rule) (id : ℕ) (body : Element) → slice_get (bodies rules) id ≡ Some body
    → id < length rules
body_below [] id body is = absurd (cc is)
body_below (rule ∷ rules) zero body is = omega arith
body_below (rule ∷ rules) (suc id) body is = let lt = body_below rules id body is in omega (arith, lt)

pub marked_prose : (rules : List Rule) (id : ℕ) (d : Bool) → id < length rules → slice_index_or (prose_marks rules) id d
    ≡ true → HoldsProse rules id
marked_prose rules id d lt is =
    let b = body_there rules id lt in
    let p = prose_within b.0 (sym (prose_mark rules id b.0 d b.1) ∙ is) in
    record { body = b.0; text = p.text; body_is = b.1; within = p.within }

pub prose_marked : (rules : List Rule) (id : ℕ) (d : Bool) → HoldsProse rules id
    → slice_index_or (prose_marks rules) id d ≡ true
prose_marked rules id d h = prose_mark rules id h.body d h.body_is ∙ within_prose h.within

-- ids of uses
record UseOf (names uses : List (List ℕ)) (m : ℕ) : Type 0 where
  name : List ℕ
  among : In name uses
  position : IsPosition Fold name names m

id_use : {names uses : List (List ℕ)} {ids : List ℕ} (m : ℕ) → AreIdsOf Fold names uses ids → Contains ids m
    → UseOf names uses m
id_use m no_uses h = absurd (none_of m h)
id_use {names = names} m (one_use {used = used} {uses = uses} {id = id} {ids = ids} p rest) h = ⊎_elim
    (λ is. record { name = used; among = in_head; position = subst (λ v. IsPosition Fold used names v) is p })
    (λ later. let u = id_use m rest later in record { name = u.name; among = in_tail u.among; position = u.position })
    (cons_cases id m ids h)

-- a name stands at one position first
pub position_is_one : {name : List ℕ} {xs : List (List ℕ)} {i j : ℕ} → IsPosition Fold name xs i
    → IsPosition Fold name xs j
    → i ≡ j
position_is_one (here is) (here too) = refl
position_is_one (here is) (there other p) = let e : true ≡ false = sym is ∙ other in absurd (cc e)
position_is_one (there other p) (here is) = let e : true ≡ false = sym is ∙ other in absurd (cc e)
position_is_one (there other p) (there unlike q) = ap suc (position_is_one p q)

record IdOf (names : List (List ℕ)) (ids : List ℕ) (used : List ℕ) : Type 0 where
  id : ℕ
  among : Contains ids id
  position : IsPosition Fold used names id

use_id : {names uses : List (List ℕ)} {ids : List ℕ} {used : List ℕ} → AreIdsOf Fold names uses ids → In used uses
    → IdOf names ids used
use_id no_uses i = elim i [ ]
use_id (one_use {id = id} {ids = ids} p rest) in_head = record { id = id; among = in_first id ids; position = p }
use_id (one_use {id = id} {ids = ids} p rest) (in_tail i) = let f = use_id rest i in
    record { id = f.id; among = in_later id f.id ids f.among; position = f.position }

module _ (rules : List Rule) (given : Option (List ℕ)) (names : List (List ℕ)) (rows : List (List ℕ)) (judged : ℕ)
    (graph : IsGraph rules given names rows judged) where
  abbrev more : List (List ℕ)
  more = news Fold (rule_names rules) (option_to_list given ++ names_used rules)

  abbrev count : ℕ
  count = length rules

  pub id_at : {n : List ℕ} {m : ℕ} → IsPosition Fold n names m → IsIdAt count m (id_of rules n)
  id_at {n = n} {m = m} p = position_id rules more (subst (λ l. IsPosition Fold n l m) graph.all p)

  -- each rule has a name
  pub rows_long : count ≤ length rows
  rows_long = let a = ap length graph.all ∙ length-append (rule_names rules) more in let b =
      length-map rules (λ (rule : Rule). rule.name) in let c = graph.are_rows.count in omega (arith, a, b, c)

  empty_row : (user m : ℕ) → count ≤ user → Step rows user m → ⊥
  empty_row user m le step = none_of m (subst (λ v. Contains v m) (graph.are_rows.others user le) step)

  pub user_below : (user m : ℕ) → Step rows user m → user < count
  user_below user m step = ⊎_elim (λ lt. lt) (λ le. absurd (empty_row user m le step)) (cases_lt user count)

  pub step_use : (user m : ℕ) → Step rows user m → UsesNameAt rules names user m
  step_use user m step =
      let b = body_there rules user (user_below user m step) in
      let u = id_use m (graph.are_rows.ids user b.0 b.1) step in
      record { body = b.0; name = u.name; body_is = b.1; within = name_within b.0 u.among; position_is = u.position }

  pub use_step : (user m : ℕ) → UsesNameAt rules names user m → Step rows user m
  use_step user m u =
      let f = use_id (graph.are_rows.ids user u.body u.body_is) (within_name u.within) in
      subst (λ v. Step rows user v) (position_is_one f.position u.position_is) f.among

  pub steps_within : AreStepsWithin rows
  steps_within =
      record {
        within = λ n m step. let u = step_use n m step in
            let lt = position_below Fold u.position_is in let c = graph.are_rows.count in omega (arith, lt, c);
      }

  -- a step to a rule's name is a use of the rule
  pub step_uses : (user id : ℕ) → id < count → Step rows user id → Uses rules user id
  step_uses user id lt step =
      let u = step_use user id step in
      let is : id_of rules u.name ≡ id = ⊎_elim (λ low. low.1)
      (λ high. absurd (let le = high.0 in omega (arith, lt, le))) (id_at u.position_is) in
      record { body = u.body; name = u.name; body_is = u.body_is; within = u.within; id_is = is }

  pub record StepFor (user id : ℕ) : Type 0 where
    pub target : ℕ
    pub step : Step rows user target
    pub is : IsIdAt count target id

  pub uses_for : (user : ℕ) (body : Element) (name : List ℕ) → slice_get (bodies rules) user ≡ Some body
      → Within body (e.Name name) → StepFor user (id_of rules name)
  uses_for user body name at within =
      let f = use_id (graph.are_rows.ids user body at) (within_name within) in
      record { target = f.id; step = f.among; is = id_at f.position }

  pub uses_step : (user id : ℕ) → id < count → Uses rules user id → Step rows user id
  uses_step user id lt u =
      let s = uses_for user u.body u.name u.body_is u.within in
      let is : s.target ≡ id = ⊎_elim (λ low. sym low.1 ∙ u.id_is)
      (λ high. absurd (let same = high.1 in let this = u.id_is in omega (arith, lt, same, this))) s.is in
      subst (λ v. Step rows user v) is s.step

  -- the judged rule
  abbrev judged_rule_id : ℕ
  judged_rule_id = judged_in given rules

  pub judged_at : IsIdAt count judged judged_rule_id
  judged_at = judged_id given rules more judged (subst (λ l. IsJudged given l judged) graph.all graph.is_judged)

  -- what is reached
  pub record ReachedAs (m : ℕ) : Type 0 where
    pub id : ℕ
    pub is : IsIdAt count m id
    pub reachable : Reachable rules judged_rule_id id

  pub reached_as : (m : ℕ) → Reaches rows judged m → ReachedAs m
  reached_as m start = record { id = judged_rule_id; is = judged_at; reachable = judged_rule }
  reached_as m (further {n = n} r step) =
      let old = reached_as n r in
      let u = step_use n m step in
      let lt = user_below n m step in
      let same : old.id ≡ n = ⊎_elim (λ low. low.1) (λ high. absurd (let le = high.0 in omega (arith, lt, le)))
      old.is in
      record {
        id = id_of rules u.name;
        is = id_at u.position_is;
        reachable = by_name (subst (λ v. Reachable rules judged_rule_id v) same old.reachable) u.body_is u.within;
      }

  pub record ReachedBy (id : ℕ) : Type 0 where
    pub position : ℕ
    pub is : IsIdAt count position id
    pub reaches : Reaches rows judged position

  pub reached_by : (id : ℕ) → Reachable rules judged_rule_id id → ReachedBy id
  reached_by id judged_rule = record { position = judged; is = judged_at; reaches = start }
  reached_by id (by_name {id = user} {body = body} {name = name} r at within) =
      let old = reached_by user r in
      let lt = body_below rules user body at in
      let same : old.position ≡ user = ⊎_elim (λ low. sym low.1)
      (λ high. absurd (let is = high.1 in omega (arith, lt, is))) old.is in
      let s = uses_for user body name at within in
      record {
        position = s.target;
        is = s.is;
        reaches = further (subst (λ v. Reaches rows judged v) same
            old.reaches) s.step;
      }
