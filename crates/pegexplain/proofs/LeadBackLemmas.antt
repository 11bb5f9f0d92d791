-- By the rows of left steps a rule leads back to itself exactly if it is left-recursive.
-- Serves: left_rows
use Rattle.std.proofs.Common.{◌≡◌, ◌<◌, ◌+◌, ◌⊎◌, ℕ, zero, suc, Bool, true, false, cond, nat_lt, List, [], ◌∷◌, ◌++◌}
use Rattle.std.proofs.Common.{map, length, Option, Some, None, refl, sym, ap, ◌∙◌, subst, arith, ⊎_elim, inl, inr}
use Rattle.std.proofs.Common.{bytes_eq, Contains}
use Rattle.std.specs.Prelude.{option_map, option_to_list, slice_get, slice_index_or}
use Rattle.std.specs.List.{flat_map, position_or_len}
use Rattle.std.proofs.lemmas.Bool.Decides.{same_from_decides, nat_tests}
use Rattle.std.proofs.lemmas.Grind.{flat_map-append}
use Rattle.std.proofs.lemmas.List.Elements.{Contains-append_cases, Contains-append_left, Contains-append_right}
use Rattle.std.proofs.lemmas.List.Quantifiers.{position-Some}
use Rattle.std.proofs.lemmas.List.Recursion.{is_position_or_len}
use Rattle.std.proofs.lemmas.Option.{get_or_from_slice_get, slice_get-map, slice_get_within}
use Rattle.std.proofs.lemmas.Slice.Eq.{bytes_eq-Decides}
use Rattle.fixpoint.specs.Leads as leads
use Rattle.fixpoint.specs.Leads.{Leads}
use Rattle.fixpoint.specs.StepRows.{Step}
use Rattle.fixpoint.proofs.ContainsLemmas.{in_first, none_of, only_one}
use Rattle.ruletable.specs.Rules as table
use Rattle.ruletable.specs.Rules.{find_in}
use Rattle.ruletable.specs.declared.table.NameCase.TheVariants.{Exact}
use Rattle.ruletable.proofs.TableLemmas.{position-map}
use Rattle.gramcheck.specs.GrammarNotes.{AreMarks}
use Rattle.gramcheck.specs.Left.{LeftStep, LeftChain, Nullable, Among, Front, IsLeftRecursive, one_step, more_steps}
use Rattle.gramcheck.specs.Left.{to_body, to_alternative, to_member, to_starred, to_repeated, to_optional, to_asserted}
use Rattle.gramcheck.specs.Left.{to_denied, among_first, among_later, front_first, front_later}
use Rattle.pegnodes.specs.Nodes.{id_of}
use Rattle.pegnodes.proofs.OwnIdLemmas.{body_at_id}
use Rattle.pegnodes.proofs.PushCasesLemmas.{mapped_from}
use Rattle.pegread.specs.Definitions.{id_in}
use Rattle.pegread.specs.Pattern.{Pattern, Patterns, Any, Bytes, Set, Name, Seq, Choice, Star, Plus, Opt, And, Not, Act}
use Rattle.pegread.specs.Pattern.{Open, Close, none, more, Rule, body_of}
use Rattle.pegread.specs.PegViews.{pattern_of, rule_of, rules_of}
use Rattle.pegread.specs.declared.expr.Expr.{Expr}
use Rattle.pegexplain.specs.LeftLines.{left_steps}
use Rattle.pegexplain.specs.LeftNotes.{LeadBack, SettlesNullable}
use Rattle.pegexplain.specs.LeftUses.{NameUse, alternative_uses, left_row, member_uses, use_ids, uses_in}
use Rattle.pegexplain.specs.NullTests.{null_mark_of, nullable_by}
use Rattle.pegexplain.proofs.LeftSameLemmas.{own-rows}
use Rattle.pegexplain.proofs.NullTestsLemmas.{null-reported, reported-null}

-- the position of a name, by recursion
equal-both-ways : (xs ys : List ℕ) → bytes_eq xs ys ≡ bytes_eq ys xs
equal-both-ways xs ys =
    let back = bytes_eq-Decides ys xs in
    same_from_decides (bytes_eq xs ys) (bytes_eq ys xs) (bytes_eq-Decides xs ys)
    (λ h. sym (back.0 h), λ e. back.1 (sym e))

id-counted : (rules : List Rule) (name : List ℕ)
    → id_of rules name ≡ position_or_len (λ rule. bytes_eq name rule.name) rules
id-counted rules name =
    is_position_or_len (λ rs. id_of rs name) (λ rule. bytes_eq name rule.name) refl
    (λ rule rs. rw (equal-both-ways rule.name name) (step (bytes_eq name rule.name) (id_of rs name))) rules
  where
    step : (b : Bool) (k : ℕ) → cond b 0 (k + 1) ≡ cond b 0 (1 + k)
    step true k = refl
    step false k = omega arith

some-is : (b : Bool) (k m : ℕ) → cond b (Some k) None ≡ Some m → k ≡ m
some-is true k m h = cc h
some-is false k m h = absurd (cc h)

is-some : (b : Bool) (k : ℕ) → (b ≡ false → ⊥) → cond b (Some k) None ≡ Some k
is-some true k h = refl
is-some false k h = absurd (h refl)

module _ (rules : List Rule) where
  -- the rule that a name finds has the name, and its body is that of the name
  id-is : (name : List ℕ) (m : ℕ) → id_in rules name ≡ Some m → id_of rules name ≡ m
  id-is name m is =
      let first = position_or_len (λ rule. bytes_eq name rule.name) rules in
      id-counted rules name ∙ some-is (nat_lt first (length rules)) first m is

  named-at : (name : List ℕ) (m : ℕ) (rule : Rule) → id_in rules name ≡ Some m → slice_get rules m ≡ Some rule
      → name ≡ rule.name
  named-at name m rule is at =
      let there = position-Some (λ (r : Rule). bytes_eq name r.name) rules m rule is in
      (bytes_eq-Decides name rule.name).0
      (ap (λ (r : Rule). bytes_eq name r.name) (sym (get_or_from_slice_get rules m rule rule at)) ∙ there.1)

  body-at : (name : List ℕ) (m : ℕ) (rule : Rule) → id_in rules name ≡ Some m → slice_get rules m ≡ Some rule
      → body_of rules name ≡ Some rule.body
  body-at name m rule is at =
      body_at_id rules name ∙ ap (slice_get (map (λ (r : Rule). r.body) rules)) (id-is name m is)
      ∙ slice_get-map (λ (r : Rule). r.body) rules m ∙ ap (option_map (λ (r : Rule). r.body)) at

  -- a name with a body finds the rule of that body
  record FindsBody (name : List ℕ) (e : Pattern) : Type 0 where
    id : ℕ
    rule : Rule
    is : id_in rules name ≡ Some id
    at : slice_get rules id ≡ Some rule
    body : rule.body ≡ e

  finds-body : (name : List ℕ) (e : Pattern) → body_of rules name ≡ Some e → FindsBody name e
  finds-body name e is =
      let from = mapped_from (λ (r : Rule). r.body) rules (id_of rules name) e (sym (body_at_id rules name) ∙ is) in
      let low = slice_get_within rules (id_of rules name) from.0 from.1 in
      let counted = id-counted rules name in
      let first = position_or_len (λ rule. bytes_eq name rule.name) rules in
      let lt : first < length rules = omega (arith, low, counted) in
      record {
        id = id_of rules name;
        rule = from.0;
        is = is-some (nat_lt first (length rules)) first (λ no. grind (arith, nat_tests)) ∙ ap Some (sym counted);
        at = from.1;
        body = from.2;
      }

  -- chains put together
  chains_joined : {c d e : Pattern} → LeftChain rules c d → LeftChain rules d e → LeftChain rules c e
  chains_joined g (one_step step) = more_steps g step
  chains_joined g (more_steps h step) = more_steps (chains_joined g h) step

  -- from an expression left steps lead to a name that finds the rule with that id
  record Meets (e : Pattern) (m : ℕ) : Type 0 where
    name : List ℕ
    is : id_in rules name ≡ Some m
    way : (e ≡ Name name) ⊎ LeftChain rules e (Name name)

  meets_carried : {c d : Pattern} {m : ℕ} → LeftChain rules c d → Meets d m → Meets c m
  meets_carried {c = c} chain h = record {
    name = h.name;
    is = h.is;
    way = inr (⊎_elim (λ same. subst (λ v. LeftChain rules c v) same chain) (λ rest. chains_joined chain rest) h.way);
  }

  meets_stepped : {c d : Pattern} {m : ℕ} → LeftStep rules c d → Meets d m → Meets c m
  meets_stepped step h = meets_carried (one_step step) h

module _ (rules : List Rule) (null : Pattern → Bool) (reports : SettlesNullable rules null) where
  abbrev ids : List NameUse → List ℕ
  ids uses = flat_map (use_ids (id_in rules)) uses

  abbrev row : Pattern → List ℕ
  row e = left_row (id_in rules) null e

  ids-append : (us vs : List NameUse) → ids (us ++ vs) ≡ ids us ++ ids vs
  ids-append us vs = flat_map-append (use_ids (id_in rules)) us vs

  id-cases : (us vs : List NameUse) (m : ℕ) → Contains (ids (us ++ vs)) m → Contains (ids us) m ⊎ Contains (ids vs) m
  id-cases us vs m h = Contains-append_cases (ids us) (ids vs) m (subst (λ l. Contains l m) (ids-append us vs) h)

  id-before : (us vs : List NameUse) (m : ℕ) → Contains (ids us) m → Contains (ids (us ++ vs)) m
  id-before us vs m h = subst (λ l. Contains l m) (sym (ids-append us vs))
      (Contains-append_left (ids us) (ids vs) m h)

  id-after : (us vs : List NameUse) (m : ℕ) → Contains (ids vs) m → Contains (ids (us ++ vs)) m
  id-after us vs m h = subst (λ l. Contains l m) (sym (ids-append us vs))
      (Contains-append_right (ids us) (ids vs) m h)

  -- where no left step leads there are no ids
  none-before : (us vs : List NameUse) → ids us ≡ [] → ids vs ≡ [] → ids (us ++ vs) ≡ []
  none-before us vs g h = ids-append us vs ∙ ap (λ l. l ++ ids vs) g ∙ h

  mutual
    no-ids : (e : Pattern) → ids (uses_in null false e) ≡ []
    no-ids Any = refl
    no-ids (Bytes bytes) = refl
    no-ids (Set test) = refl
    no-ids (Name name) = refl
    no-ids (Seq es) = no-member-ids es
    no-ids (Choice es) = no-alternative-ids es
    no-ids (Star e) = no-ids e
    no-ids (Plus e) = no-ids e
    no-ids (Opt e) = no-ids e
    no-ids (And e) = no-ids e
    no-ids (Not e) = no-ids e
    no-ids (Act template) = refl
    no-ids Open = refl
    no-ids Close = refl

    no-member-ids : (es : Patterns) → ids (member_uses null false es) ≡ []
    no-member-ids none = refl
    no-member-ids (more e es) =
        none-before (uses_in null false e) (member_uses null false es) (no-ids e) (no-member-ids es)

    no-alternative-ids : (es : Patterns) → ids (alternative_uses null false es) ≡ []
    no-alternative-ids none = refl
    no-alternative-ids (more e es) =
        none-before (uses_in null false e) (alternative_uses null false es) (no-ids e) (no-alternative-ids es)

  name_meets : (name : List ℕ) (m : ℕ) (o : Option ℕ) → id_in rules name ≡ o → Contains (option_to_list o ++ []) m
      → Meets rules (Name name) m
  name_meets name m None is h = absurd (none_of m h)
  name_meets name m (Some id) is h = record { name = name; is = is ∙ ap Some (only_one id m h); way = inl refl }

  -- in a sequence, where left steps lead to the members after a nullable one
  record MeetsMember (es : Patterns) (m : ℕ) : Type 0 where
    member : Pattern
    front : Front rules es member
    meets : Meets rules member m

  later-member : (e : Pattern) (es : Patterns) (m : ℕ) (b : Bool) → null e ≡ b
      → (Contains (ids (member_uses null true es)) m → MeetsMember es m) → Contains (ids (member_uses null b es)) m
      → MeetsMember (more e es) m
  later-member e es m true is go h =
      let r = go h in record { member = r.member; front = front_later ((reports e).0 is) r.front; meets = r.meets }
  later-member e es m false is go h = absurd (none_of m (subst (λ l. Contains l m) (no-member-ids es) h))

  record MeetsAlternative (es : Patterns) (m : ℕ) : Type 0 where
    alternative : Pattern
    among : Among rules es alternative
    meets : Meets rules alternative m

  later-alternative : (e : Pattern) {es : Patterns} {m : ℕ} → MeetsAlternative es m → MeetsAlternative (more e es) m
  later-alternative e r = record { alternative = r.alternative; among = among_later r.among; meets = r.meets }

  mutual
    row-meets : (e : Pattern) (m : ℕ) → Contains (row e) m → Meets rules e m
    row-meets Any m h = absurd (none_of m h)
    row-meets (Bytes bytes) m h = absurd (none_of m h)
    row-meets (Set test) m h = absurd (none_of m h)
    row-meets (Name name) m h = name_meets name m (id_in rules name) refl h
    row-meets (Seq es) m h = let r = members-meet es m h in meets_stepped rules (to_member r.front) r.meets
    row-meets (Choice es) m h = let r = alternatives-meet es m h in meets_stepped rules (to_alternative r.among) r.meets
    row-meets (Star e) m h = meets_stepped rules to_starred (row-meets e m h)
    row-meets (Plus e) m h = meets_stepped rules to_repeated (row-meets e m h)
    row-meets (Opt e) m h = meets_stepped rules to_optional (row-meets e m h)
    row-meets (And e) m h = meets_stepped rules to_asserted (row-meets e m h)
    row-meets (Not e) m h = meets_stepped rules to_denied (row-meets e m h)
    row-meets (Act template) m h = absurd (none_of m h)
    row-meets Open m h = absurd (none_of m h)
    row-meets Close m h = absurd (none_of m h)

    members-meet : (es : Patterns) (m : ℕ) → Contains (ids (member_uses null true es)) m → MeetsMember es m
    members-meet none m h = absurd (none_of m h)
    members-meet (more e es) m h = ⊎_elim
        (λ k. record { member = e; front = front_first; meets = row-meets e m k })
        (λ k. later-member e es m (null e) refl (λ j. members-meet es m j) k)
        (id-cases (uses_in null true e) (member_uses null (null e) es) m h)

    alternatives-meet : (es : Patterns) (m : ℕ) → Contains (ids (alternative_uses null true es)) m
        → MeetsAlternative es m
    alternatives-meet none m h = absurd (none_of m h)
    alternatives-meet (more e es) m h = ⊎_elim
        (λ k. record { alternative = e; among = among_first; meets = row-meets e m k })
        (λ k. later-alternative e (alternatives-meet es m k))
        (id-cases (uses_in null true e) (alternative_uses null true es) m h)

  -- what a left step leads to within an expression has no other ids
  among-ids : {es : Patterns} {e : Pattern} → Among rules es e → (m : ℕ) → Contains (row e) m
      → Contains (ids (alternative_uses null true es)) m
  among-ids (among_first {e = e} {es = es}) m h =
      id-before (uses_in null true e) (alternative_uses null true es) m h
  among-ids (among_later {d = d} {es = es} a) m h =
      id-after (uses_in null true d) (alternative_uses null true es) m (among-ids a m h)

  front-ids : {es : Patterns} {e : Pattern} → Front rules es e → (m : ℕ) → Contains (row e) m
      → Contains (ids (member_uses null true es)) m
  front-ids (front_first {e = e} {es = es}) m h =
      id-before (uses_in null true e) (member_uses null (null e) es) m h
  front-ids (front_later {d = d} {es = es} nullable a) m h =
      id-after (uses_in null true d) (member_uses null (null d) es) m
      (subst (λ (b : Bool). Contains (ids (member_uses null b es)) m) (sym ((reports d).1 nullable)) (front-ids a m h))

  abbrev steps : List (List ℕ)
  steps = left_steps rules null

  -- the row of a rule
  row-at : (rs : List Rule) (id : ℕ) (rule : Rule) → slice_get rs id ≡ Some rule
      → slice_index_or (map (λ (r : Rule). left_row (id_in rules) null r.body) rs) id [] ≡ row rule.body
  row-at [] id rule at = absurd (cc at)
  row-at (r ∷ rs) zero rule at = (let same : r ≡ rule = cc at in ap (λ (v : Rule). row v.body) same)
  row-at (r ∷ rs) (suc id) rule at = row-at rs id rule at

  rule-at : (rs : List Rule) (id m : ℕ)
      → Contains (slice_index_or (map (λ (r : Rule). left_row (id_in rules) null r.body) rs) id []) m
      → (rule : Rule) × (slice_get rs id ≡ Some rule)
  rule-at [] id m h = absurd (none_of m h)
  rule-at (r ∷ rs) zero m h = (r, refl)
  rule-at (r ∷ rs) (suc id) m h = rule-at rs id m h

  step-meets : (id m : ℕ) (rule : Rule) → slice_get rules id ≡ Some rule → Step steps id m → Meets rules rule.body m
  step-meets id m rule at step = row-meets rule.body m (subst (λ l. Contains l m) (row-at rules id rule at) step)

  module _ (id : ℕ) (rule : Rule) (at : slice_get rules id ≡ Some rule) where
    met-again : (j m : ℕ) → Meets rules rule.body j → Step steps j m → Meets rules rule.body m
    met-again j m before step =
        let there = rule-at rules j m step in
        let body = body-at rules before.name j there.0 before.is there.1 in
        let on = meets_stepped rules (to_body body) (step-meets j m there.0 there.1 step) in
        ⊎_elim (λ same. subst (λ v. Meets rules v m) (sym same) on) (λ chain. meets_carried rules chain on) before.way

    leads-meets : {m : ℕ} → Leads steps id m → Meets rules rule.body m
    leads-meets (leads.one {m = m} step) = step-meets id m rule at step
    leads-meets (leads.more {n = n} {m = m} chain step) = met-again n m (leads-meets chain) step

    -- a rule to which steps lead has all ids of what left steps lead to
    record Stands (e : Pattern) : Type 0 where
      position : ℕ
      way : (id ≡ position) ⊎ Leads steps id position
      within : (m : ℕ) → Contains (row e) m → Step steps position m

    stands_narrowed : {d e : Pattern} → Stands d → ((m : ℕ) → Contains (row e) m → Contains (row d) m) → Stands e
    stands_narrowed s less = record { position = s.position; way = s.way; within = λ m h. s.within m (less m h) }

    goes-on : {position m : ℕ} → (id ≡ position) ⊎ Leads steps id position → Step steps position m → Leads steps id m
    goes-on {m = m} (inl same) step = leads.one (subst (λ v. Step steps v m) (sym same) step)
    goes-on (inr chain) step = leads.more chain step

    into-body : (name : List ℕ) (e : Pattern) → FindsBody rules name e → Stands (Name name) → Stands e
    into-body name e b s = record {
      position = b.id;
      way = inr (goes-on s.way (s.within b.id
          (subst (λ o. Contains (option_to_list o ++ []) b.id) (sym b.is) (in_first b.id []))));
      within = λ m h. subst (λ l. Contains l m)
          (sym (row-at rules b.id b.rule b.at ∙ ap (λ (v : Pattern). row v) b.body)) h;
    }

    step-stands : {d e : Pattern} → LeftStep rules d e → Stands d → Stands e
    step-stands (to_body {n = n} {e = e} is) s = into-body n e (finds-body rules n e is) s
    step-stands (to_alternative a) s = stands_narrowed s (λ m h. among-ids a m h)
    step-stands (to_member a) s = stands_narrowed s (λ m h. front-ids a m h)
    step-stands to_starred s = stands_narrowed s (λ m h. h)
    step-stands to_repeated s = stands_narrowed s (λ m h. h)
    step-stands to_optional s = stands_narrowed s (λ m h. h)
    step-stands to_asserted s = stands_narrowed s (λ m h. h)
    step-stands to_denied s = stands_narrowed s (λ m h. h)

    body-stands : Stands rule.body
    body-stands = record {
      position = id;
      way = inl refl;
      within = λ m h. subst (λ l. Contains l m) (sym (row-at rules id rule at)) h;
    }

    chain-stands : {e : Pattern} → LeftChain rules rule.body e → Stands e
    chain-stands (one_step step) = step-stands step body-stands
    chain-stands (more_steps chain step) = step-stands step (chain-stands chain)

    module _ (own : id_in rules rule.name ≡ Some id) where
      own-name-steps : rule.body ≡ Name rule.name → IsLeftRecursive rules rule
      own-name-steps same =
          let step = to_body (body-at rules rule.name id rule own at) in
          one_step (subst (λ v. LeftStep rules v (Name rule.name)) (sym same)
          (subst (λ v. LeftStep rules (Name rule.name) v) same step))

      back-recursive : Leads steps id id → IsLeftRecursive rules rule
      back-recursive chain =
          let h = leads-meets chain in
          let same = named-at rules h.name id rule h.is at in
          ⊎_elim
          (λ is. own-name-steps (is ∙ ap Name same))
          (λ chain. subst (λ v. LeftChain rules rule.body (Name v)) same chain)
          h.way

      recursive-back : IsLeftRecursive rules rule → Leads steps id id
      recursive-back chain =
          let s = chain-stands chain in
          goes-on s.way (s.within id (subst (λ o. Contains (option_to_list o ++ []) id) (sym own) (in_first id [])))

  steps-lead-back : LeadBack rules steps
  steps-lead-back id rule at own = (back-recursive id rule at own, recursive-back id rule at own)

-- the rows that the code finds
pub rows-lead-back : (rules : table.Rules Expr) (marks : List Bool) (rows : List (List ℕ)) → rules.names ≡ Exact
    → AreMarks (λ rule. Nullable (rules_of rules) rule.body) (rules_of rules) marks
    → rows ≡ map (λ rule. left_row (find_in rules) (nullable_by (null_mark_of rules marks)) (pattern_of rule.body))
    rules.rules → LeadBack (rules_of rules) rows
rows-lead-back rules marks rows exact are is =
    let null = nullable_by (null_mark_of rules marks) in
    subst (LeadBack (rules_of rules))
    (sym (is ∙ own-rows null null (λ d. refl) (find_in rules) (id_in (rules_of rules))
    (λ name. rw exact (sym (position-map rule_of (λ (rule : Rule). bytes_eq name rule.name) rules.rules))) rules.rules))
    (steps-lead-back (rules_of rules) null (λ e. (
      null-reported rules marks exact are e,
      reported-null rules marks exact are,
    )))
