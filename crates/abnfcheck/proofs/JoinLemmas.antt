-- Rules of one table that are added to another.
-- Serves: join.
use Rattle.std.proofs.Common.{◌≡◌, ℕ, zero, suc, ◌+◌, List, [], ◌∷◌, ◌++◌, length, map, take, drop, Some, refl, sym}
use Rattle.std.proofs.Common.{◌∙◌, ap, subst, arith, add-one, Bool, true, false, not, cond, ◌||◌, nat_lt, Option, None}
use Rattle.std.proofs.Common.{append-nil, append_assoc}
use Rattle.std.specs.Prelude.{slice_get, filter, position, is_some}
use Rattle.std.specs.List.{list_any, position_or_len}
use Rattle.std.specs.Str.{bytes_eq}
use Rattle.std.proofs.lemmas.Bool.Decides.{nat_tests}
use Rattle.std.proofs.lemmas.List.Elements.{filter-append}
use Rattle.std.proofs.lemmas.List.Folds.{list_any-append}
use Rattle.std.proofs.lemmas.Map.Views.{any-filter_same}
use Rattle.std.proofs.lemmas.Slice.Eq.{bytes_eq-Decides}
use Rattle.ruletable.specs.declared.span.Span.{Span}
use Rattle.ruletable.specs.declared.table.Defined.{Defined}
use Rattle.ruletable.specs.declared.table.Defined.TheVariants.{Added, Duplicate}
use Rattle.ruletable.specs.declared.table.NameCase.{NameCase}
use Rattle.ruletable.specs.Rules.{Rule, Rules, find_in, names_of, bodies_of, spans_of, Defines, set_body, same_name}
use Rattle.ruletable.specs.Rules.{key_of}
use Rattle.abnfcheck.specs.WithCore.{has_name, one_each, left_alone, with_core}
use Rattle.abnfread.specs.AbnfTable.{IsTaken}

module _ {E : Type 0} where
  length_set : (rules : List (Rule E)) (id : ℕ) (w : E) → length (set_body rules id w) ≡ length rules
  length_set [] id w = refl
  length_set (rule ∷ rules) zero w = refl
  length_set (rule ∷ rules) (suc id) w = ap suc (length_set rules id w)

  drop_set : (rules : List (Rule E)) (id : ℕ) (w : E) → drop (suc id) (set_body rules id w) ≡ drop (suc id) rules
  drop_set [] id w = refl
  drop_set (rule ∷ rules) zero w = refl
  drop_set (rule ∷ rules) (suc id) w = drop_set rules id w

  names_set : (rules : List (Rule E)) (id : ℕ) (w : E) → map (λ rule. rule.name) (set_body rules id w)
      ≡ map (λ rule. rule.name) rules
  names_set [] id w = refl
  names_set (rule ∷ rules) zero w = refl
  names_set (rule ∷ rules) (suc id) w = ap (λ v. rule.name ∷ v) (names_set rules id w)

  spans_set : (rules : List (Rule E)) (id : ℕ) (w : E) → map (λ rule. rule.span) (set_body rules id w)
      ≡ map (λ rule. rule.span) rules
  spans_set [] id w = refl
  spans_set (rule ∷ rules) zero w = refl
  spans_set (rule ∷ rules) (suc id) w = ap (λ v. rule.span ∷ v) (spans_set rules id w)

  pub length_taken : {old new : Rules E} {id : ℕ} → IsTaken old id new → length new.rules ≡ length old.rules
  length_taken {old = old} {id = id} t = rw t.is (length_set old.rules id t.body)

-- the rule at an id
record RuleAt {E : Type 0} (rules : List (Rule E)) (id : ℕ) (name : List ℕ) (body : E) (span : Span) : Type 0 where
  rule : Rule E
  at : slice_get rules id ≡ Some rule
  is : record { name = name; body = body; span = span } ≡ rule

rule_at : {E : Type 0} (rules : List (Rule E)) (id : ℕ) (name : List ℕ) (body : E) (span : Span)
    → slice_get (map (λ rule. rule.name) rules) id ≡ Some name →
    slice_get (map (λ rule. rule.body) rules) id ≡ Some body → slice_get (map (λ rule. rule.span) rules) id ≡ Some span
    → RuleAt rules id name body span
rule_at [] id name body span n b s = absurd (cc n)
rule_at {E = E} (rule ∷ rules) zero name body span n b s =
    let same_name : rule.name ≡ name = cc n in
    let same_body : rule.body ≡ body = cc b in
    let same_span : rule.span ≡ span = cc s in
    record { rule = rule; at = refl; is = alike rule (sym same_name) (sym same_body) (sym same_span) }
  where
    alike : (rule : Rule E) {name : List ℕ} {body : E} {span : Span} → name ≡ rule.name → body ≡ rule.body
        → span ≡ rule.span →
        record { name = name; body = body; span = span } ≡ rule
    alike rule n b s = rw (n, b, s) refl
rule_at (rule ∷ rules) (suc id) name body span n b s = let h = rule_at rules id name body span n b s in
    record { rule = h.rule; at = h.at; is = h.is }

at_drop : {A : Type 0} (xs : List A) (i : ℕ) → slice_get xs i ≡ slice_get (drop i xs) 0
at_drop [] zero = refl
at_drop [] (suc i) = refl
at_drop (x ∷ xs) zero = refl
at_drop (x ∷ xs) (suc i) = at_drop xs i

drop_next : {A : Type 0} (xs ys : List A) (i : ℕ) → drop i xs ≡ drop i ys → drop (suc i) xs ≡ drop (suc i) ys
drop_next xs ys i same = one xs i ∙ ap (drop 1) same ∙ sym (one ys i)
  where
    one : {A : Type 0} (xs : List A) (i : ℕ) → drop (suc i) xs ≡ drop 1 (drop i xs)
    one [] zero = refl
    one [] (suc i) = refl
    one (x ∷ xs) zero = refl
    one (x ∷ xs) (suc i) = one xs i

take_next : {A : Type 0} (xs : List A) (i : ℕ) (x : A) → slice_get xs i ≡ Some x → take (suc i) xs ≡ take i xs ++ x ∷ []
take_next [] i x is = absurd (cc is)
take_next (y ∷ xs) zero x is = let same : y ≡ x = cc is in ap (λ v. v ∷ []) same
take_next (y ∷ xs) (suc i) x is = ap (λ v. y ∷ v) (take_next xs i x is)

-- the table with one more rule, unless there is one of its name
abbrev added : {E : Type 0} → Option ℕ → Rules E → Rule E → Rules E
added None table rule = record { names = table.names; rules = table.rules ++ rule ∷ [] }
added (Some id) table rule = table

-- a position is found where some element passes
pub position_found : {A : Type 0} (p : A → Bool) (xs : List A) → is_some (position p xs) ≡ list_any p xs
position_found {A} p xs = there (nat_lt (position_or_len p xs) (length xs)) (position_or_len p xs) ∙ below xs
  where
    there : (b : Bool) (k : ℕ) → is_some (cond b (Some k) None) ≡ b
    there true k = refl
    there false k = refl

    step : (b c : Bool) (k n : ℕ) → nat_lt k n ≡ c → nat_lt (cond (not b) (1 + k) 0) (suc n) ≡ (b || c)
    step true c k n h = grind (arith, nat_tests)
    step false true k n h = grind (arith, nat_tests)
    step false false k n h = grind (arith, nat_tests)

    below : (xs : List A) → nat_lt (position_or_len p xs) (length xs) ≡ list_any p xs
    below [] = refl
    below (x ∷ xs) = step (p x) (list_any p xs) (position_or_len p xs) (length xs) (below xs)

module _ {E : Type 0} (names : NameCase) (rule : Rule E) where
  -- whether a rule has the name of this one
  abbrev is_like : Rule E → Bool
  is_like other = same_name names rule.name other.name

  -- the rule, unless it is there
  abbrev unless : Bool → List (Rule E)
  unless there = cond there [] (rule ∷ [])

  like_key : (other : Rule E) → is_like other ≡ true → key_of names other.name ≡ key_of names rule.name
  like_key other h = sym ((bytes_eq-Decides (key_of names rule.name) (key_of names other.name)).0 h)

  filter_unless : (q : Rule E → Bool) (a b : Bool) → q rule ≡ not a → filter q (unless b) ≡ unless (a || b)
  filter_unless q true true e = refl
  filter_unless q false true e = refl
  filter_unless q true false e = ap (λ v. cond v (rule ∷ []) []) e
  filter_unless q false false e = ap (λ v. cond v (rule ∷ []) []) e

  one_each_push : (xs : List (Rule E)) → one_each names (xs ++ rule ∷ [])
      ≡ one_each names xs ++ unless (list_any is_like xs)
  one_each_push [] = refl
  one_each_push (x ∷ xs) =
      let q : Rule E → Bool = λ later. not (same_name names later.name x.name) in
      ap (λ l. x ∷ filter q l) (one_each_push xs)
      ∙ ap (λ l. x ∷ l) (filter-append q (one_each names xs) (unless (list_any is_like xs))
      ∙ ap (λ l. filter q (one_each names xs) ++ l) (filter_unless q (is_like x) (list_any is_like xs) refl))

  -- a name is among the first ones exactly where it is there
  any_one_each : (xs : List (Rule E)) → list_any is_like (one_each names xs) ≡ list_any is_like xs
  any_one_each [] = refl
  any_one_each (x ∷ xs) = by (is_like x) refl (any_one_each xs)
    where
      by : (b : Bool) → is_like x ≡ b → list_any is_like (one_each names xs) ≡ list_any is_like xs →
          (b || list_any is_like (filter (λ later. not (same_name names later.name x.name)) (one_each names xs)))
          ≡ (b || list_any is_like xs)
      by true e same = refl
      by false e same = any-filter_same is_like (λ later. not (same_name names later.name x.name)) true
          (λ y h. ap (λ k. not (bytes_eq k (key_of names x.name))) (like_key y h) ∙ ap not e) (one_each names xs)
          ∙ same

module _ {E : Type 0} (file : Rules E) (rule : Rule E) where
  abbrev like : Rule E → Bool
  like = is_like file.names rule

  left_push : (xs : List (Rule E)) → left_alone file (xs ++ rule ∷ [])
      ≡ left_alone file xs ++ unless file.names rule (list_any like file.rules || list_any like xs)
  left_push xs =
      let q : Rule E → Bool = λ other. not (has_name file.names file.rules other.name) in
      ap (filter q) (one_each_push file.names rule xs)
      ∙ filter-append q (one_each file.names xs) (unless file.names rule (list_any like xs))
      ∙ ap (λ l. left_alone file xs ++ l)
      (filter_unless file.names rule q (list_any like file.rules) (list_any like xs) refl)

  -- a rule of that name is among all exactly where it is in the file or in the list
  any_of_all : (xs : List (Rule E)) → list_any like (file.rules ++ left_alone file xs)
      ≡ (list_any like file.rules || list_any like xs)
  any_of_all xs = list_any-append like file.rules (left_alone file xs) ∙ by (list_any like file.rules) refl
    where
      by : (b : Bool) → list_any like file.rules ≡ b → (b || list_any like (left_alone file xs))
          ≡ (b || list_any like xs)
      by true e = refl
      by false e = any-filter_same like (λ other. not (has_name file.names file.rules other.name)) true
          (λ y h. ap (λ k. not (list_any (λ own. bytes_eq k (key_of file.names own.name)) file.rules))
          (like_key file.names rule y h) ∙ ap not e) (one_each file.names xs)
          ∙ any_one_each file.names rule xs

  push_found : (found : Option ℕ) (t : Rules E) → record {
    names = t.names;
    rules = t.rules ++ unless file.names rule (is_some found);
  } ≡ added found t rule
  push_found None t = refl
  push_found (Some id) t = ap (λ l. record { names = t.names; rules = l }) (append-nil t.rules)

  core_push : (xs : List (Rule E)) → with_core file (xs ++ rule ∷ [])
      ≡ added (find_in (with_core file xs) rule.name) (with_core file xs) rule
  core_push xs =
      let there : (list_any like file.rules || list_any like xs) ≡ is_some (find_in (with_core file xs) rule.name) =
      sym (position_found like (file.rules ++ left_alone file xs) ∙ any_of_all xs) in
      ap (λ l. record { names = file.names; rules = file.rules ++ l }) (left_push xs)
      ∙ ap (λ l. record { names = file.names; rules = l })
      (sym (append_assoc file.rules (left_alone file xs) (unless file.names rule (list_any like file.rules
      || list_any like xs))))
      ∙ ap (λ b. record {
        names = file.names;
        rules = (file.rules ++ left_alone file xs) ++ unless file.names rule b;
      }) there
      ∙ push_found (find_in (with_core file xs) rule.name) (with_core file xs)

defines_added : {E : Type 0} (old new : Rules E) (rule : Rule E) (answer : Defined) → Defines old new rule answer
    → new ≡ added (find_in old rule.name) old rule
defines_added old new rule (Added id) d = rw d.0 d.2
defines_added old new rule (Duplicate id) d = rw d.0 d.1

pub record IsJoining {E : Type 0} (file core : Rules E) (i : ℕ) (rules left : Rules E) : Type 0 where
  pub so_far : rules ≡ with_core file (take i core.rules)
  pub ahead : drop i left.rules ≡ drop i core.rules
  pub count : length left.rules ≡ length core.rules

pub none_joined : {E : Type 0} (file core : Rules E) → IsJoining file core 0 file core
none_joined file core = record {
  so_far = ap (λ l. record { names = file.names; rules = l }) (sym (append-nil file.rules));
  ahead = refl;
  count = refl;
}

pub join_next : {E : Type 0} {file core : Rules E} {i : ℕ} {rules left taken new : Rules E} {name : List ℕ} {body : E}
    {span : Span} (answer : Defined) → IsJoining file core i rules left →
    slice_get (bodies_of left) i ≡ Some body → IsTaken left i taken → slice_get (names_of taken) i ≡ Some name
    → slice_get (spans_of taken) i ≡ Some span →
    Defines rules new (record { name = name; body = body; span = span }) answer → IsJoining file core (i + 1) new taken
join_next {file} {core} {i} {rules} {left} {new} {name} {body} {span} answer j b t n s d =
    let here = rule_at left.rules i name body span
    (subst (λ v. slice_get v i ≡ Some name) (ap names_of t.is ∙ names_set left.rules i t.body) n)
    b
    (subst (λ v. slice_get v i ≡ Some span) (ap spans_of t.is ∙ spans_set left.rules i t.body) s) in
    let at : slice_get core.rules i ≡ Some here.rule = at_drop core.rules i ∙ ap (λ v. slice_get v 0) (sym j.ahead)
    ∙ sym (at_drop left.rules i) ∙ here.at in
    let one : new ≡ added (find_in rules here.rule.name) rules here.rule =
    defines_added rules new here.rule answer (subst (λ v. Defines rules new v answer) here.is d) in
    rw (add-one i) (record {
      so_far = one ∙ ap (λ v. added (find_in v here.rule.name) v here.rule) j.so_far
          ∙ sym (ap (with_core file) (take_next core.rules i here.rule at)
          ∙ core_push file here.rule (take i core.rules));
      ahead = ap (λ v. drop (suc i) v.rules) t.is ∙ drop_set left.rules i t.body
          ∙ drop_next left.rules core.rules i j.ahead;
      count = length_taken t ∙ j.count;
    })

pub all_joined : {E : Type 0} (file core : Rules E) (i : ℕ) (rules left : Rules E) → IsJoining file core i rules left
    → i ≡ length core.rules → rules ≡ with_core file core.rules
all_joined file core i rules left j all = j.so_far ∙ ap (with_core file) (take_all core.rules i all)
  where
    take_all : {A : Type 0} (xs : List A) (n : ℕ) → n ≡ length xs → take n xs ≡ xs
    take_all [] zero is = refl
    take_all [] (suc n) is = refl
    take_all (x ∷ xs) zero is = absurd (omega (arith, is))
    take_all (x ∷ xs) (suc n) is = ap (λ v. x ∷ v) (take_all xs n (omega (arith, is)))
