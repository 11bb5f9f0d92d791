-- The tests by marks say which expressions may take nothing.
-- Serves: explain_peg_note
use Rattle.std.proofs.Common.{◌≡◌, ◌&&◌, ◌||◌, ℕ, Bool, true, false, List, [], ◌∷◌, length, map, Option, Some, None}
use Rattle.std.proofs.Common.{refl}
use Rattle.std.proofs.Common.{sym, ap, subst, ◌∙◌, arith}
use Rattle.std.specs.Prelude.{slice_get, option_map, unwrap_or}
use Rattle.std.proofs.lemmas.List.{length-map}
use Rattle.std.proofs.lemmas.Option.{slice_get-map, slice_get_past}
use Rattle.ruletable.specs.Rules as table
use Rattle.ruletable.specs.Rules.{find_in}
use Rattle.ruletable.specs.declared.table.NameCase.TheVariants.{Exact}
use Rattle.fixpoint.specs.NumberMarks.{IsMarked}
use Rattle.fixpoint.proofs.IsMarkedLemmas.{marked_lt}
use Rattle.pegread.specs.Pattern.{Pattern, Patterns, Any, Bytes, Set, Name, Seq, Choice, Star, Plus, Opt, And, Not, Act}
use Rattle.pegread.specs.Pattern.{Open, Close, none, more, Rule, body_of}
use Rattle.pegread.specs.PegViews.{pattern_of, rule_of, rules_of}
use Rattle.pegread.specs.declared.expr.Expr.{Expr}
use Rattle.pegnodes.specs.Nodes.{id_of}
use Rattle.pegnodes.proofs.OwnIdLemmas.{body_at_id, body_there, id_found}
use Rattle.pegnodes.proofs.PushCasesLemmas.{mapped_from}
use Rattle.gramcheck.specs.GrammarNotes.{AreMarks}
use Rattle.gramcheck.specs.Left.{Nullable, no_bytes, an_act, an_open, a_close, an_and, a_not, an_opt, a_star, a_plus}
use Rattle.gramcheck.specs.Left.{a_seq, a_choice, a_name, AllNullable, all_none, all_more, SomeNullable, some_first}
use Rattle.gramcheck.specs.Left.{some_later}
use Rattle.pegexplain.specs.NullTests.{IsLoopBy, all_nullable_by, loops_by, null_mark_of, mark_with}
use Rattle.pegexplain.specs.NullTests.{nullable_by, some_nullable_by}
use Rattle.pegexplain.specs.PegLoops.{IsLoopOf, RepeatAt, RepeatsNothing, starred, repeated}

pub both-true : (a b : Bool) → a && b ≡ true → (a ≡ true) × (b ≡ true)
both-true true b h = (refl, h)
both-true false b h = absurd (cc h)

pub one-of : {P : Type 0} (a b : Bool) → a || b ≡ true → (a ≡ true → P) → (b ≡ true → P) → P
one-of true b h f g = f refl
one-of false b h f g = g h

pub true-both : (a b : Bool) → a ≡ true → b ≡ true → a && b ≡ true
true-both a b g h = rw (g, h) refl

module _ (rules : table.Rules Expr) (exact : rules.names ≡ Exact) where
  -- the position that the table finds for a name
  pub is-id : (name : List ℕ) (found : Option ℕ) → find_in rules name ≡ found
      → unwrap_or found (length rules.rules) ≡ id_of (rules_of rules) name
  is-id name found is = id_found rules name found (length rules.rules) exact (sym is) refl

  -- the body of a name's rule
  pub body-none : (name : List ℕ) → find_in rules name ≡ None → body_of (rules_of rules) name ≡ None
  body-none name is =
      let past = is-id name None is in
      let all = length-map rules.rules rule_of in
      let bodies = length-map (rules_of rules) (λ (r : Rule). r.body) in
      body_at_id (rules_of rules) name
      ∙ slice_get_past (map (λ (r : Rule). r.body) (rules_of rules)) (id_of (rules_of rules) name)
      (omega (arith, past, all, bodies))

  pub body-some : (name : List ℕ) (id : ℕ) (e : Expr) → find_in rules name ≡ Some id
      → slice_get (table.bodies_of rules) id ≡ Some e → body_of (rules_of rules) name ≡ Some (pattern_of e)
  body-some name id e is at =
      let rule = mapped_from (λ (r : table.Rule Expr). r.body) rules.rules id e at in
      body_at_id (rules_of rules) name
      ∙ ap (slice_get (map (λ (r : Rule). r.body) (rules_of rules))) (sym (is-id name (Some id) is))
      ∙ slice_get-map (λ (r : Rule). r.body) (rules_of rules) id
      ∙ ap (option_map (λ (r : Rule). r.body)) (slice_get-map rule_of rules.rules id ∙ ap (option_map rule_of) rule.1)
      ∙ ap (λ (d : Expr). Some (pattern_of d)) rule.2

module _ (rules : table.Rules Expr) (marks : List Bool) (exact : rules.names ≡ Exact)
    (are : AreMarks (λ rule. Nullable (rules_of rules) rule.body) (rules_of rules) marks) where
  abbrev may_be : List ℕ → Bool
  may_be = null_mark_of rules marks

  marked-null : (name : List ℕ) → IsMarked marks (id_of (rules_of rules) name) → Nullable (rules_of rules) (Name name)
  marked-null name h =
      let lt = marked_lt marks (id_of (rules_of rules) name) h in
      let count = are.count in
      let b = body_there (rules_of rules) name (omega (arith, lt, count)) in
      let rule = mapped_from (λ (r : Rule). r.body) (rules_of rules) (id_of (rules_of rules) name) b.0 b.2 in
      a_name b.1 (subst (λ e. Nullable (rules_of rules) e) rule.2
      ((are.exact (id_of (rules_of rules) name) rule.0 rule.1).0 h))

  null-marked : (name : List ℕ) (e : Pattern) → body_of (rules_of rules) name ≡ Some e → Nullable (rules_of rules) e
      → IsMarked marks (id_of (rules_of rules) name)
  null-marked name e is h =
      let at = sym (body_at_id (rules_of rules) name) ∙ is in
      let rule = mapped_from (λ (r : Rule). r.body) (rules_of rules) (id_of (rules_of rules) name) e at in
      (are.exact (id_of (rules_of rules) name) rule.0 rule.1).1
      (subst (λ d. Nullable (rules_of rules) d) (sym rule.2) h)

  name-sound : (name : List ℕ) (found : Option ℕ) → find_in rules name ≡ found → mark_with marks found ≡ true
      → Nullable (rules_of rules) (Name name)
  name-sound name None is h = absurd (cc h)
  name-sound name (Some id) is h =
      marked-null name (subst (λ k. IsMarked marks k) (is-id rules exact name (Some id) is) h)

  name-whole : (name : List ℕ) (found : Option ℕ) → find_in rules name ≡ found
      → IsMarked marks (id_of (rules_of rules) name) → mark_with marks found ≡ true
  name-whole name None is h =
      let lt = marked_lt marks (id_of (rules_of rules) name) h in
      let count = are.count in
      let all = length-map rules.rules rule_of in
      let past = is-id rules exact name None is in
      absurd (omega (arith, lt, count, all, past))
  name-whole name (Some id) is h = subst (λ k. IsMarked marks k) (sym (is-id rules exact name (Some id) is)) h

  mutual
    pub null-reported : (e : Pattern) → nullable_by may_be e ≡ true → Nullable (rules_of rules) e
    null-reported Any h = absurd (cc h)
    null-reported (Bytes []) h = no_bytes
    null-reported (Bytes (b ∷ bs)) h = absurd (cc h)
    null-reported (Set test) h = absurd (cc h)
    null-reported (Name name) h = name-sound name (find_in rules name) refl h
    null-reported (Seq es) h = a_seq (all-reported es h)
    null-reported (Choice es) h = a_choice (some-reported es h)
    null-reported (Star e) h = a_star
    null-reported (Plus e) h = a_plus (null-reported e h)
    null-reported (Opt e) h = an_opt
    null-reported (And e) h = an_and
    null-reported (Not e) h = a_not
    null-reported (Act template) h = an_act
    null-reported Open h = an_open
    null-reported Close h = a_close

    all-reported : (es : Patterns) → all_nullable_by may_be es ≡ true → AllNullable (rules_of rules) es
    all-reported none h = all_none
    all-reported (more e es) h =
        let b = both-true (nullable_by may_be e) (all_nullable_by may_be es) h in
        all_more (null-reported e b.0) (all-reported es b.1)

    some-reported : (es : Patterns) → some_nullable_by may_be es ≡ true → SomeNullable (rules_of rules) es
    some-reported none h = absurd (cc h)
    some-reported (more e es) h = one-of (nullable_by may_be e) (some_nullable_by may_be es) h
        (λ yes. some_first (null-reported e yes)) (λ yes. some_later (some-reported es yes))

  mutual
    pub reported-null : {e : Pattern} → Nullable (rules_of rules) e → nullable_by may_be e ≡ true
    reported-null no_bytes = refl
    reported-null an_act = refl
    reported-null an_open = refl
    reported-null a_close = refl
    reported-null an_and = refl
    reported-null a_not = refl
    reported-null an_opt = refl
    reported-null a_star = refl
    reported-null (a_plus h) = reported-null h
    reported-null (a_seq h) = reported-all h
    reported-null (a_choice h) = reported-some h
    reported-null (a_name {n} {e} is h) = name-whole n (find_in rules n) refl (null-marked n e is h)

    reported-all : {es : Patterns} → AllNullable (rules_of rules) es → all_nullable_by may_be es ≡ true
    reported-all all_none = refl
    reported-all (all_more h hs) = true-both _ _ (reported-null h) (reported-all hs)

    reported-some : {es : Patterns} → SomeNullable (rules_of rules) es → some_nullable_by may_be es ≡ true
    reported-some (some_first {e} {es} h) = ap (λ b. b || some_nullable_by may_be es) (reported-null h)
    reported-some (some_later {e} {es} h) = later (nullable_by may_be e) (reported-some h)
      where
        later : (b : Bool) → some_nullable_by may_be es ≡ true → b || some_nullable_by may_be es ≡ true
        later true k = refl
        later false k = k

  repeats-reported : (e : Pattern) → loops_by may_be e ≡ true → RepeatsNothing (rules_of rules) e
  repeats-reported (Star e) h = starred (null-reported e h)
  repeats-reported (Plus e) h = repeated (null-reported e h)
  repeats-reported Any h = absurd (cc h)
  repeats-reported (Bytes bytes) h = absurd (cc h)
  repeats-reported (Set test) h = absurd (cc h)
  repeats-reported (Name name) h = absurd (cc h)
  repeats-reported (Seq es) h = absurd (cc h)
  repeats-reported (Choice es) h = absurd (cc h)
  repeats-reported (Opt e) h = absurd (cc h)
  repeats-reported (And e) h = absurd (cc h)
  repeats-reported (Not e) h = absurd (cc h)
  repeats-reported (Act template) h = absurd (cc h)
  repeats-reported Open h = absurd (cc h)
  repeats-reported Close h = absurd (cc h)

  no-repeat : (e : Pattern) → loops_by may_be e ≡ false → RepeatsNothing (rules_of rules) e → ⊥
  no-repeat e never (starred h) = (let ever = reported-null h in cc)
  no-repeat e never (repeated h) = (let ever = reported-null h in cc)

  -- the first one by the tests is the first one
  pub loop-reported : (repeats : List Pattern) (found : Option RepeatAt) → IsLoopBy may_be repeats found
      → IsLoopOf (rules_of rules) repeats found
  loop-reported repeats None h = λ k d at. no-repeat d (h k d at)
  loop-reported repeats (Some r) h = record {
    there = h.there;
    loops = repeats-reported r.repeat h.loops;
    first = λ k d lt at. no-repeat d (h.first k d lt at);
  }
