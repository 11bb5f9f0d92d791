-- Which alternatives are never taken.
-- Serves: never_taken
use Rattle.std.proofs.Common.{◌≡◌, ℕ, zero, suc, ◌<◌, ◌==◌, Bool, true, false, List, [], ◌∷◌, ◌++◌, length}
use Rattle.std.proofs.Common.{take, drop, map, Option, Some, None, refl, sym, ap, subst, ◌∙◌, arith, rules as steps}
use Rattle.std.proofs.Common.{if◌then◌else◌}
use Rattle.std.proofs.lemmas.Bool.{and_from, and_parts}
use Rattle.std.specs.Cmp.Lexicographic.{same_text}
use Rattle.std.specs.List.{starts_with}
use Rattle.std.specs.Prelude.{slice_get}
use Rattle.gramcheck.specs.Left.{AllNullable, Nullable, SomeNullable, a_choice, a_close, a_name, a_not, a_seq, a_star}
use Rattle.gramcheck.specs.Left.{a_plus, all_more, all_none, an_act, an_and, an_open, an_opt, no_bytes, some_first}
use Rattle.gramcheck.specs.Left.{some_later}
use Rattle.gramcheck.specs.Outcome.{Event, Fails, Gives, GivesAll, GivesFirst, Takes, act, all_done, and_fails}
use Rattle.gramcheck.specs.Outcome.{and_takes}
use Rattle.gramcheck.specs.Outcome.{any_at_end, any_takes, begins_with, bytes_fail, bytes_take, choice, close_at}
use Rattle.gramcheck.specs.Outcome.{first_fails, first_takes, name, not_takes, one_fails, open_at, opt_none, opt_takes}
use Rattle.gramcheck.specs.Outcome.{plus_fails, plus_takes, rest_fails, rest_takes, seq, set_takes, star_more}
use Rattle.gramcheck.specs.Outcome.{star_none}
use Rattle.pegread.specs.Pattern.{Pattern, Patterns, Any, Bytes, Set, Name, Seq, Choice, Star, Plus, Opt, And, Not, Act}
use Rattle.pegread.specs.Pattern.{Open, Close, Rule, body_of, more}
use Rattle.pegexplain.specs.FailsNowhere.{AllFailNowhere, FailsNowhere, SettlesSure, SomeFailsNowhere, sure_act}
use Rattle.pegexplain.specs.FailsNowhere.{sure_and}
use Rattle.pegexplain.specs.FailsNowhere.{sure_bytes, sure_choice, sure_close, sure_first, sure_later, sure_more}
use Rattle.pegexplain.specs.FailsNowhere.{sure_name, sure_none, sure_open, sure_opt, sure_plus, sure_seq, sure_star}
use Rattle.pegexplain.specs.HiddenAlternatives.{HiddenBy, described, first_member, hidden_by, hidden_if}
use Rattle.pegexplain.specs.HiddenAlternatives.{is_any, is_prefix, literal_bytes, literal_if, literal_of, named_literal}
use Rattle.pegexplain.specs.HiddenAlternatives.{shown_of, why_by}
use Rattle.pegexplain.specs.LeftNotes.{SettlesNullable}
use Rattle.pegexplain.specs.LeftUses.{or_else}
use Rattle.pegexplain.specs.NeverTaken.{BeginsWith, Hides, IsFront, IsTaken, NeverTaken, SpellsLiteral, is_front}
use Rattle.pegexplain.specs.NeverTaken.{is_literal, is_whole, leads_sequence, names_literal, never_fails, takes_any}
use Rattle.pegexplain.specs.declared.hints.why.Why.{Why}
use Rattle.pegexplain.specs.declared.hints.why.Why.TheVariants.{NeverFails, TakesAny, Prefix}

-- a literal that takes
front-begins : (z front rest : List ℕ) → begins_with z (front ++ rest) ≡ true → begins_with z front ≡ true
front-begins z [] rest h = refl
front-begins [] (b ∷ bs) rest h = h
front-begins (c ∷ cs) (b ∷ bs) rest h =
    let both = and_parts (c == b) (begins_with cs (bs ++ rest)) h in
    and_from (c == b) (begins_with cs bs) both.0 (front-begins cs bs rest both.1)

none-left : (x : List ℕ) (p : ℕ) → slice_get x p ≡ None → drop p x ≡ []
none-left [] zero h = refl
none-left [] (suc p) h = refl
none-left (c ∷ cs) zero h = absurd (cc h)
none-left (c ∷ cs) (suc p) h = none-left cs p h

nothing-begins : (z : List ℕ) (b : ℕ) (bs : List ℕ) → z ≡ [] → begins_with z (b ∷ bs) ≡ true → ⊥
nothing-begins [] b bs e h = absurd (cc h)
nothing-begins (c ∷ cs) b bs e h = absurd (cc e)

module _ (rules : List Rule) (x : List ℕ) where
  mutual
    -- what fails nowhere does not fail
    no-failure : {e : Pattern} {p k : ℕ} → FailsNowhere rules e → Gives rules x e p Fails k → ⊥
    no-failure sure_bytes (bytes_fail h) = absurd (cc h)
    no-failure sure_act g = elim g [ ]
    no-failure sure_open g = elim g [ ]
    no-failure sure_close g = elim g [ ]
    no-failure sure_opt g = elim g [ ]
    no-failure sure_star g = elim g [ ]
    no-failure (sure_plus s) (plus_fails g) = no-failure s g
    no-failure (sure_and s) (and_fails g) = no-failure s g
    no-failure (sure_seq ss) (seq g) = no-failure-in-all ss g
    no-failure (sure_choice ss) (choice g) = no-failure-in-some ss g
    no-failure (sure_name {e = e} is s) (name {e = d} {p = p} {k = k} at g) =
        let same : d ≡ e = cc (is, at) in
        no-failure s (subst (λ (v : Pattern). Gives rules x v p Fails k) same g)

    no-failure-in-all : {es : Patterns} {p k : ℕ} → AllFailNowhere rules es → GivesAll rules x es p Fails k → ⊥
    no-failure-in-all sure_none g = elim g [ ]
    no-failure-in-all (sure_more s ss) (one_fails g) = no-failure s g
    no-failure-in-all (sure_more s ss) (rest_fails g h) = no-failure-in-all ss h

    no-failure-in-some : {es : Patterns} {p k : ℕ} → SomeFailsNowhere rules es → GivesFirst rules x es p Fails k → ⊥
    no-failure-in-some (sure_first s) (first_fails g h) = no-failure s g
    no-failure-in-some (sure_later ss) (first_fails g h) = no-failure-in-some ss h

  mutual
    -- what takes at the end of the input takes nothing
    at-end : {e : Pattern} {p q k : ℕ} {es : List Event} → slice_get x p ≡ None → Gives rules x e p (Takes q es) k
        → Nullable rules e × (q ≡ p)
    at-end h (any_takes g) = absurd (cc (h, g))
    at-end h (set_takes g f) = absurd (cc (h, g))
    at-end {p = p} h (bytes_take {bs = []} g) = (no_bytes, omega arith)
    at-end {p = p} h (bytes_take {bs = b ∷ bs} g) = absurd (nothing-begins (drop p x) b bs (none-left x p h) g)
    at-end h act = (an_act, refl)
    at-end h open_at = (an_open, refl)
    at-end h close_at = (a_close, refl)
    at-end h (name is g) = let r = at-end h g in (a_name is r.0, r.1)
    at-end h (seq g) = let r = all-at-end h g in (a_seq r.0, r.1)
    at-end h (choice g) = let r = first-at-end h g in (a_choice r.0, r.1)
    at-end h (opt_takes g) = (an_opt, (at-end h g).1)
    at-end h (opt_none g) = (an_opt, refl)
    at-end h (star_none g) = (a_star, refl)
    at-end h (star_more g f) =
        let r = at-end h g in
        let s = at-end (subst (λ (v : ℕ). slice_get x v ≡ None) (sym r.1) h) f in
        (a_star, s.1 ∙ r.1)
    at-end h (plus_takes g f) =
        let r = at-end h g in
        let s = at-end (subst (λ (v : ℕ). slice_get x v ≡ None) (sym r.1) h) f in
        (a_plus r.0, s.1 ∙ r.1)
    at-end h (and_takes g) = (an_and, refl)
    at-end h (not_takes g) = (a_not, refl)

    all-at-end : {ds : Patterns} {p q k : ℕ} {es : List Event} → slice_get x p ≡ None
        → GivesAll rules x ds p (Takes q es) k → AllNullable rules ds × (q ≡ p)
    all-at-end h all_done = (all_none, refl)
    all-at-end h (rest_takes g f) =
        let r = at-end h g in
        let s = all-at-end (subst (λ (v : ℕ). slice_get x v ≡ None) (sym r.1) h) f in
        (all_more r.0 s.0, s.1 ∙ r.1)

    first-at-end : {ds : Patterns} {p q k : ℕ} {es : List Event} → slice_get x p ≡ None
        → GivesFirst rules x ds p (Takes q es) k → SomeNullable rules ds × (q ≡ p)
    first-at-end h (first_takes g) = let r = at-end h g in (some_first r.0, r.1)
    first-at-end h (first_fails g f) = let r = first-at-end h f in (some_later r.0, r.1)

  any-end : {p k : ℕ} → Gives rules x Any p Fails k → slice_get x p ≡ None
  any-end (any_at_end h) = h

  bytes-took : (bytes : List ℕ) (p q k : ℕ) (es : List Event) → Gives rules x (Bytes bytes) p (Takes q es) k
      → begins_with (drop p x) bytes ≡ true
  bytes-took bytes p q k es (bytes_take h) = h

  bytes-failed : (bytes : List ℕ) (p k : ℕ) → Gives rules x (Bytes bytes) p Fails k
      → begins_with (drop p x) bytes ≡ false
  bytes-failed bytes p k (bytes_fail h) = h

  literal-took : {d : Pattern} {bytes : List ℕ} {p q k : ℕ} {es : List Event} → SpellsLiteral rules d bytes
      → Gives rules x d p (Takes q es) k → begins_with (drop p x) bytes ≡ true
  literal-took {bytes = bytes} is_literal g = bytes-took bytes _ _ _ _ g
  literal-took {bytes = bytes} {q = q} {es = es} (names_literal is) (name {e = d} {p = p} {k = k} at g) =
      let same : d ≡ Bytes bytes = cc (is, at) in
      bytes-took bytes p q k es (subst (λ (v : Pattern). Gives rules x v p (Takes q es) k) same g)

  literal-failed : {d : Pattern} {bytes : List ℕ} {p k : ℕ} → SpellsLiteral rules d bytes
      → Gives rules x d p Fails k → begins_with (drop p x) bytes ≡ false
  literal-failed {bytes = bytes} is_literal g = bytes-failed bytes _ _ g
  literal-failed {bytes = bytes} (names_literal is) (name {e = d} {p = p} {k = k} at g) =
      let same : d ≡ Bytes bytes = cc (is, at) in
      bytes-failed bytes p k (subst (λ (v : Pattern). Gives rules x v p Fails k) same g)

  begin-took : {e : Pattern} {whole : List ℕ} {p q k : ℕ} {es : List Event} → BeginsWith rules e whole
      → Gives rules x e p (Takes q es) k → begins_with (drop p x) whole ≡ true
  begin-took (is_whole s) g = literal-took s g
  begin-took (leads_sequence s) (seq (rest_takes g h)) = literal-took s g

  -- one of two alternatives that is hidden by the other takes nowhere where that fails
  hides-bars : {d e : Pattern} {why : Why} {p q j k : ℕ} {es : List Event} → Hides rules d e why
      → Gives rules x e p (Takes q es) k → Gives rules x d p Fails j → ⊥
  hides-bars (never_fails s) g f = no-failure s f
  hides-bars {p = p} {j = j} (takes_any is never) g f =
      never ((at-end (any-end (subst (λ (v : Pattern). Gives rules x v p Fails j) is f)) g).0)
  hides-bars {p = p} (is_front {front = front} never s b is) g f =
      let whole = begin-took b g in
      let takes = front-begins (drop p x) front is.rest
      (subst (λ (bs : List ℕ). begins_with (drop p x) bs ≡ true) is.whole whole) in
      let fails = literal-failed s f in
      let both : true ≡ false = sym takes ∙ fails in
      absurd (cc both)

  pub hidden-never : (alternatives : List Pattern) (k p : ℕ) (hidden : HiddenBy)
      → NeverTaken rules alternatives k hidden → IsTaken rules x alternatives k p → ⊥
  hidden-never alternatives k p hidden n t =
      let e : n.alternative ≡ t.alternative = (let f : Some n.alternative ≡ Some t.alternative =
      sym n.there ∙ t.there in cc f) in
      let takes = subst (λ (d : Pattern). Gives rules x d p (Takes t.end t.events) t.looked) (sym e) t.takes in
      let fails = t.fail n.position hidden.earlier n.before n.earlier in
      hides-bars n.hides takes fails.1

-- literals and what begins with them
whole-is : (d : Pattern) (bytes : List ℕ) → literal_bytes d ≡ Some bytes → d ≡ Bytes bytes
whole-is Any bytes h = absurd (cc h)
whole-is (Bytes own) bytes h = (let same : own ≡ bytes = cc h in ap Bytes same)
whole-is (Set test) bytes h = absurd (cc h)
whole-is (Name n) bytes h = absurd (cc h)
whole-is (Seq es) bytes h = absurd (cc h)
whole-is (Choice es) bytes h = absurd (cc h)
whole-is (Star e) bytes h = absurd (cc h)
whole-is (Plus e) bytes h = absurd (cc h)
whole-is (Opt e) bytes h = absurd (cc h)
whole-is (And e) bytes h = absurd (cc h)
whole-is (Not e) bytes h = absurd (cc h)
whole-is (Act template) bytes h = absurd (cc h)
whole-is Open bytes h = absurd (cc h)
whole-is Close bytes h = absurd (cc h)

abbrev starts : List ℕ → List ℕ → Bool
starts later earlier = starts_with (λ x y. x == y) later earlier

take-rejoins : (n : ℕ) (xs : List ℕ) → xs ≡ take n xs ++ drop n xs
take-rejoins zero xs = refl
take-rejoins (suc n) [] = refl
take-rejoins (suc n) (x ∷ xs) = ap (λ (ys : List ℕ). x ∷ ys) (take-rejoins n xs)

starts-front : (later earlier : List ℕ) → starts later earlier ≡ true → IsFront earlier later
starts-front later earlier h =
    let same : earlier ≡ take (length earlier) later = same_text earlier (take (length earlier) later) (sym h) in
    record {
      rest = drop (length earlier) later;
      whole = take-rejoins (length earlier) later
          ∙ ap (λ (z : List ℕ). z ++ drop (length earlier) later) (sym same);
    }

nat-same : (b : ℕ) → (b == b) ≡ true
nat-same b = search steps

front-starts : (earlier rest : List ℕ) → starts (earlier ++ rest) earlier ≡ true
front-starts [] rest = refl
front-starts (b ∷ earlier) rest = and_from (b == b) (starts (earlier ++ rest) earlier) (nat-same b)
    (front-starts earlier rest)

at-length : (before after : List Pattern) (e : Pattern) → slice_get (before ++ e ∷ after) (length before) ≡ Some e
at-length [] after e = refl
at-length (d ∷ before) after e = at-length before after e

at-front : (before rest : List Pattern) (i : ℕ) → i < length before
    → slice_get (before ++ rest) i ≡ slice_get before i
at-front [] rest i lt = absurd (omega (arith, lt))
at-front (d ∷ before) rest zero lt = refl
at-front (d ∷ before) rest (suc i) lt = at-front before rest i (omega (arith, lt))

is-bit : (b : Bool) → (b ≡ true → ⊥) → b ≡ false
is-bit true h = absurd (h refl)
is-bit false h = refl

module _ (rules : List Rule) (sure null : Pattern → Bool) (is_sure : SettlesSure rules sure)
    (is_null : SettlesNullable rules null) where
  abbrev literal : Pattern → Option (List ℕ)
  literal = literal_of (named_literal rules) sure null

  named-as : (n b : List ℕ) (o : Option Pattern) → body_of rules n ≡ o → literal_if o ≡ Some b
      → SpellsLiteral rules (Name n) b
  named-as n b None is h = absurd (cc h)
  named-as n b (Some d) is h = names_literal (is ∙ ap Some (whole-is d b h))

  literal-as : (e : Pattern) (b : List ℕ) → literal e ≡ Some b → SpellsLiteral rules e b
  literal-as (Bytes own) b h = (let same : own ≡ b = cc h in
      subst (λ (z : List ℕ). SpellsLiteral rules (Bytes own) z) same is_literal)
  literal-as (Name n) b h = named-as n b (body_of rules n) refl h
  literal-as Any b h = absurd (cc h)
  literal-as (Set test) b h = absurd (cc h)
  literal-as (Seq es) b h = absurd (cc h)
  literal-as (Choice es) b h = absurd (cc h)
  literal-as (Star e) b h = absurd (cc h)
  literal-as (Plus e) b h = absurd (cc h)
  literal-as (Opt e) b h = absurd (cc h)
  literal-as (And e) b h = absurd (cc h)
  literal-as (Not e) b h = absurd (cc h)
  literal-as (Act template) b h = absurd (cc h)
  literal-as Open b h = absurd (cc h)
  literal-as Close b h = absurd (cc h)

  as-literal : {e : Pattern} {b : List ℕ} → SpellsLiteral rules e b → literal e ≡ Some b
  as-literal is_literal = refl
  as-literal (names_literal is) = ap literal_if is

  literal-no-dot : {e : Pattern} {b : List ℕ} → SpellsLiteral rules e b → is_any e ≡ false
  literal-no-dot is_literal = refl
  literal-no-dot (names_literal is) = refl

  first-begins : (e : Pattern) (b : List ℕ) → literal (first_member e) ≡ Some b → BeginsWith rules e b
  first-begins (Seq (more d es)) b h = leads_sequence (literal-as d b h)
  first-begins e b h = is_whole (literal-as e b h)

  begins-first : {e : Pattern} {b : List ℕ} → BeginsWith rules e b → literal (first_member e) ≡ Some b
  begins-first (is_whole is_literal) = refl
  begins-first (is_whole (names_literal is)) = ap literal_if is
  begins-first (leads_sequence s) = as-literal s

  any-is : (d : Pattern) → is_any d ≡ true → d ≡ Any
  any-is Any h = refl
  any-is (Bytes own) h = absurd (cc h)
  any-is (Name n) h = absurd (cc h)
  any-is (Set test) h = absurd (cc h)
  any-is (Seq es) h = absurd (cc h)
  any-is (Choice es) h = absurd (cc h)
  any-is (Star e) h = absurd (cc h)
  any-is (Plus e) h = absurd (cc h)
  any-is (Opt e) h = absurd (cc h)
  any-is (And e) h = absurd (cc h)
  any-is (Not e) h = absurd (cc h)
  any-is (Act template) h = absurd (cc h)
  any-is Open h = absurd (cc h)
  any-is Close h = absurd (cc h)

  -- two literals of which the first is a prefix of the other
  record ArePrefixes (f g : Option (List ℕ)) : Type 0 where
    front : List ℕ
    whole : List ℕ
    first : f ≡ Some front
    second : g ≡ Some whole
    is : IsFront front whole

  prefixes-of : (f g : Option (List ℕ)) → is_prefix f g ≡ true → ArePrefixes f g
  prefixes-of None g h = absurd (cc h)
  prefixes-of (Some a) None h = absurd (cc h)
  prefixes-of (Some a) (Some b) h =
      record { front = a; whole = b; first = refl; second = refl; is = starts-front b a h }

  not-sure : (d : Pattern) → (FailsNowhere rules d → ⊥) → sure d ≡ false
  not-sure d never = is-bit (sure d) (λ t. never ((is_sure d).0 t))

  not-null : (e : Pattern) → (Nullable rules e → ⊥) → null e ≡ false
  not-null e never = is-bit (null e) (λ t. never ((is_null e).0 t))

  module _ (e : Pattern) where
    abbrev why_of : Pattern → Option Why
    why_of d = why_by (sure d) (is_any d) (literal d) (null e) (literal (first_member e))

    prefix-hides : (d : Pattern) (w : Why) (v : Bool) → sure d ≡ false
        → is_prefix (literal d) (literal (first_member e)) ≡ v → (if v then Some Prefix else None) ≡ Some w
        → Hides rules d e w
    prefix-hides d w true s is h =
        let p = prefixes-of (literal d) (literal (first_member e)) is in
        let same : Prefix ≡ w = cc h in
        subst (λ (v : Why). Hides rules d e v) same
        (is_front (λ f. (let t : sure d ≡ true = (is_sure d).1 f in let both : true ≡ false = sym t ∙ s in
        absurd (cc both))) (literal-as d p.front p.first) (first-begins e p.whole p.second) p.is)
    prefix-hides d w false s is h = absurd (cc h)

    why-cases : (d : Pattern) (w : Why) (s a n : Bool) → sure d ≡ s → is_any d ≡ a → null e ≡ n
        → why_by s a (literal d) n (literal (first_member e)) ≡ Some w → Hides rules d e w
    why-cases d w true a n is any nl h =
        let same : NeverFails ≡ w = cc h in
        subst (λ (v : Why). Hides rules d e v) same (never_fails ((is_sure d).0 is))
    why-cases d w false true false is any nl h =
        let same : TakesAny ≡ w = cc h in
        subst (λ (v : Why). Hides rules d e v) same (takes_any (any-is d any)
        (λ f. (let t : null e ≡ true = (is_null e).1 f in let both : true ≡ false = sym t ∙ nl in absurd (cc both))))
    why-cases d w false true true is any nl h = prefix-hides d w _ is refl h
    why-cases d w false false n is any nl h = prefix-hides d w _ is refl h

    why-hides : (d : Pattern) (w : Why) → why_of d ≡ Some w → Hides rules d e w
    why-hides d w h = why-cases d w (sure d) (is_any d) (null e) refl refl refl h

    no-any : FailsNowhere rules Any → ⊥
    no-any s = no-failure rules [] s (any_at_end {p = 0} refl)

    hides-why : {d : Pattern} {w : Why} → Hides rules d e w → why_of d ≡ Some w
    hides-why {d} (never_fails s) =
        ap (λ (v : Bool). why_by v (is_any d) (literal d) (null e) (literal (first_member e))) ((is_sure d).1 s)
    hides-why {d} (takes_any is never) =
        ap why_of is
        ∙ ap (λ (v : Bool). why_by v true None (null e) (literal (first_member e))) (not-sure Any no-any)
        ∙ ap (λ (v : Bool). why_by false true None v (literal (first_member e))) (not-null e never)
    hides-why {d} (is_front {front = front} {whole = whole} never s b f) =
        ap (λ (v : Bool). why_by v (is_any d) (literal d) (null e) (literal (first_member e))) (not-sure d never)
        ∙ ap (λ (v : Bool). why_by false v (literal d) (null e) (literal (first_member e))) (literal-no-dot s)
        ∙ ap (λ (v : Option (List ℕ)). why_by false false v (null e) (literal (first_member e))) (as-literal s)
        ∙ ap (λ (v : Option (List ℕ)). why_by false false (Some front) (null e) v) (begins-first b)
        ∙ ap (λ (v : Bool). if v then Some Prefix else None)
        (ap (λ (z : List ℕ). starts z front) f.whole ∙ front-starts front f.rest)

    -- the first alternative that hides it
    record IsFirstHiding (before : List Pattern) (hidden : HiddenBy) : Type 0 where
      position : ℕ
      within : position < length before
      there : slice_get before position ≡ Some hidden.earlier
      hides : Hides rules hidden.earlier e hidden.why
      first : (j : ℕ) (d : Pattern) (why : Why) → j < position → slice_get before j ≡ Some d
          → Hides rules d e why → ⊥
      shown : hidden.later ≡ shown_of hidden.why e

    abbrev by_first : List Pattern → Option HiddenBy
    by_first before = hidden_by e (null e) (literal (first_member e))
        (map (described (named_literal rules) sure null) before)

    abbrev made : Pattern → Pattern → Why → HiddenBy
    made later earlier why = record { later = later; earlier = earlier; why = why }

    first-shifts : (d : Pattern) (before : List Pattern) (hidden : HiddenBy)
        → ((why : Why) → Hides rules d e why → ⊥) → (w : IsFirstHiding before hidden) (j : ℕ) (c : Pattern) (why : Why)
        → j < suc w.position → slice_get (d ∷ before) j ≡ Some c → Hides rules c e why → ⊥
    first-shifts d before hidden bars w zero c why lt at h =
        let same : c ≡ d = cc at in bars why (subst (λ (v : Pattern). Hides rules v e why) same h)
    first-shifts d before hidden bars w (suc j) c why lt at h = w.first j c why (omega (arith, lt)) at h

    none-before : (d : Pattern) (before : List Pattern) (j : ℕ) (c : Pattern) (why : Why) → j < 0
        → slice_get (d ∷ before) j ≡ Some c → Hides rules c e why → ⊥
    none-before d before j c why lt at h = absurd (omega (arith, lt))

    step-first : (d : Pattern) (before : List Pattern) (hidden : HiddenBy) (o : Option Why) → why_of d ≡ o
        → or_else (hidden_if d e o) (by_first before) ≡ Some hidden
        → (by_first before ≡ Some hidden → IsFirstHiding before hidden) → IsFirstHiding (d ∷ before) hidden
    step-first d before hidden None is h ih =
        let w = ih h in
        let bars : (why : Why) → Hides rules d e why → ⊥ = λ why hd.
        (let f : Some why ≡ None = sym (hides-why hd) ∙ is in absurd (cc f)) in
        record {
          position = suc w.position;
          within = (let lt = w.within in omega (arith, lt));
          there = w.there;
          hides = w.hides;
          first = first-shifts d before hidden bars w;
          shown = w.shown;
        }
    step-first d before hidden (Some why) is h ih =
        let same : made (shown_of why e) d why ≡ hidden = cc h in
        subst (λ (v : HiddenBy). IsFirstHiding (d ∷ before) v) same (record {
          position = 0;
          within = omega arith;
          there = refl;
          hides = why-hides d why is;
          first = none-before d before;
          shown = refl;
        })

    found-first : (before : List Pattern) (hidden : HiddenBy) → by_first before ≡ Some hidden
        → IsFirstHiding before hidden
    found-first [] hidden h = absurd (cc h)
    found-first (d ∷ before) hidden h = step-first d before hidden (why_of d) refl h (found-first before hidden)

    skip-first : (d : Pattern) (before : List Pattern) (hidden : HiddenBy) (o : Option Why) → why_of d ≡ o
        → ((why : Why) → Hides rules d e why → ⊥) → by_first before ≡ Some hidden
        → or_else (hidden_if d e o) (by_first before) ≡ Some hidden
    skip-first d before hidden None is bars h = h
    skip-first d before hidden (Some why) is bars h = absurd (bars why (why-hides d why is))

    first-found : (before : List Pattern) (position : ℕ) (hidden : HiddenBy)
        → slice_get before position ≡ Some hidden.earlier → Hides rules hidden.earlier e hidden.why
        → ((j : ℕ) (d : Pattern) (why : Why) → j < position → slice_get before j ≡ Some d → Hides rules d e why → ⊥)
        → hidden.later ≡ shown_of hidden.why e → by_first before ≡ Some hidden
    first-found [] position hidden at hides first shown = absurd (cc at)
    first-found (d ∷ before) zero hidden at hides first shown =
        let same : d ≡ hidden.earlier = cc at in
        ap (λ (v : Pattern). or_else (hidden_if v e (why_of v)) (by_first before)) same
        ∙ ap (λ (o : Option Why). or_else (hidden_if hidden.earlier e o) (by_first before)) (hides-why hides)
        ∙ ap (λ (v : Pattern). Some (made v hidden.earlier hidden.why)) (sym shown)
    first-found (d ∷ before) (suc position) hidden at hides first shown =
        skip-first d before hidden (why_of d) refl (λ why. first 0 d why (omega arith) refl)
        (first-found before position hidden at hides
        (λ j c why lt. first (suc j) c why (omega (arith, lt))) shown)

    module _ (before after : List Pattern) (hidden : HiddenBy) where
      pub hidden-reported : by_first before ≡ Some hidden
          → NeverTaken rules (before ++ e ∷ after) (length before) hidden
      hidden-reported h =
          let w = found-first before hidden h in
          let within = w.within in
          record {
            alternative = e;
            there = at-length before after e;
            position = w.position;
            before = within;
            earlier = at-front before (e ∷ after) w.position within ∙ w.there;
            hides = w.hides;
            first = λ j d why lt at. w.first j d why lt
                (sym (at-front before (e ∷ after) j (omega (arith, lt, within))) ∙ at);
            shown = w.shown;
          }

      pub reported-hidden : NeverTaken rules (before ++ e ∷ after) (length before) hidden
          → by_first before ≡ Some hidden
      reported-hidden n =
          let same : n.alternative ≡ e = (let f : Some n.alternative ≡ Some e =
          sym n.there ∙ at-length before after e in cc f) in
          let within = n.before in
          first-found before n.position hidden (sym (at-front before (e ∷ after) n.position within) ∙ n.earlier)
          (subst (λ (v : Pattern). Hides rules hidden.earlier v hidden.why) same n.hides)
          (λ j d why lt at hd. n.first j d why lt (at-front before (e ∷ after) j (omega (arith, lt, within)) ∙ at)
          (subst (λ (v : Pattern). Hides rules d v why) (sym same) hd))
          (n.shown ∙ ap (λ (v : Pattern). shown_of hidden.why v) same)
