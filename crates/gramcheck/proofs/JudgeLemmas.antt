-- What the checks find of a grammar that no note rejects.
-- Serves: check_peg
use Rattle.std.proofs.Common.{◌≡◌, ◌≢◌, ℕ, zero, suc, ◌<◌, Bool, true, false, ◌||◌, List, [], ◌∷◌, ◌++◌, length, map}
use Rattle.std.proofs.Common.{get_or, Option, Some, None, refl, sym, subst, ap, ◌∙◌, arith, Contains}
use Rattle.std.specs.Prelude.{slice_get, bytes_eq, option_to_list}
use Rattle.std.specs.List.{list_any}
use Rattle.std.proofs.lemmas.List.{length-map}
use Rattle.std.proofs.lemmas.List.Elements.{Contains-append_left, Contains-append_right}
use Rattle.std.proofs.lemmas.List.Folds.{list_any-append}
use Rattle.std.proofs.lemmas.List.Quantifiers.{position-Some}
use Rattle.std.proofs.lemmas.Option.{slice_get-get_or, slice_get-map, slice_get_within}
use Rattle.ruletable.specs.Notes.{Said, said}
use Rattle.ruletable.specs.declared.note.NoteKind.TheVariants.{Redefined, Undefined, Unused, LeftRecursion, Loop}
use Rattle.ruletable.specs.Rules.{find_in, HasUniqueNames}
use Rattle.ruletable.specs.declared.table.NameCase.TheVariants.{Exact}
use Rattle.fixpoint.specs.FirstUses.{is_among, news}
use Rattle.pegread.specs.Pattern.{Pattern, Patterns, Rule, body_of}
use Rattle.pegread.specs.PegViews.{rule_of, rules_of}
use Rattle.std.specs.Option.{option_map}
use Rattle.pegread.specs.declared.expr.Expr.{Expr}
use Rattle.gramcheck.specs.Analysis.{IsAnalysed}
use Rattle.pegnodes.specs.Bodies.{AreBodies, IsBuilt}
use Rattle.gramcheck.specs.Checked.{is_refused, IsStart}
use Rattle.gramcheck.specs.Defined.{IsGiven}
use Rattle.gramcheck.specs.Left.{IsLeftRecursive, Loops, Nullable, no_bytes, an_act, an_open, a_close, an_and, a_not}
use Rattle.gramcheck.specs.Left.{an_opt, a_star, a_plus, a_seq, a_choice, a_name, AllNullable, all_none, all_more}
use Rattle.gramcheck.specs.Left.{SomeNullable, some_first, some_later, RepeatsNullable, loop_star, loop_plus, in_star}
use Rattle.gramcheck.specs.Left.{in_plus, in_opt, in_and, in_not, in_seq, in_choice, SomeRepeats, repeats_first}
use Rattle.gramcheck.specs.Left.{repeats_later}
use Rattle.fixpoint.specs.NumberMarks.{IsMarked}
use Rattle.pegnodes.specs.NodeCounts.{node_counts}
use Rattle.pegnodes.specs.Nodes.{Shape, id_of, Spells, spells_bytes, spells_name, spells_seq}
use Rattle.pegnodes.specs.Nodes.{spells_choice, spells_star, spells_plus, spells_opt, spells_and, spells_not}
use Rattle.pegnodes.specs.Nodes.{spells_act, spells_open, spells_close, SpellAll, spell_none, spell_more}
use Rattle.gramcheck.specs.GrammarNotes.{Those, no_more, not_this, AreNotes, AreMarks, said_refuses}
use Rattle.pegnodes.specs.Numbering.{AreStanding}
use Rattle.gramcheck.specs.Sound.{IsRanked}
use Rattle.gramcheck.specs.Uses.{names_in, names_in_all, names_used, rule_names}
use Rattle.pegnodes.specs.Within.{Within, WithinSome, StandsIn, itself, of_seq, of_choice, of_star, of_plus, of_opt}
use Rattle.pegnodes.specs.Within.{of_and, of_not, of_first, of_later}
use Rattle.pegnodes.proofs.OwnIdLemmas.{id_found, own_id, body_at_id}
use Rattle.fixpoint.proofs.IsMarkedLemmas.{marked_lt}
use Rattle.gramcheck.proofs.RuleNameLemmas.{same-name, own-name, names-same}
use Rattle.gramcheck.proofs.AreNotesLemmas.{among-contains}
use Rattle.gramcheck.specs.Ranks.{AreRanks, RepeatsNoNull}
use Rattle.pegnodes.proofs.HasShapeLemmas.{has_shape}
use Rattle.pegnodes.proofs.PushCasesLemmas.{mapped_from}
use Rattle.ruletable.specs.Rules as table
use Rattle.pegread.specs.Pattern as expr
use Rattle.pegread.specs.declared.expr.Expr.TheVariants as exprs
use Rattle.pegnodes.specs.Nodes as node

-- where no rule's body repeats a nullable expression, no node repeats a nullable one
-- what repeats a nullable expression within an expression repeats it in the whole
module _ (rules : List Rule) where
  plus_repeats : {e : Pattern} → RepeatsNullable rules (expr.Star e) → RepeatsNullable rules (expr.Plus e)
  plus_repeats (loop_star z) = loop_plus z
  plus_repeats (in_star r) = in_plus r

  mutual
    repeats_within : {b d : Pattern} → Within b d → RepeatsNullable rules d → RepeatsNullable rules b
    repeats_within itself r = r
    repeats_within (of_seq w) r = in_seq (some_repeats w r)
    repeats_within (of_choice w) r = in_choice (some_repeats w r)
    repeats_within (of_star w) r = in_star (repeats_within w r)
    repeats_within (of_plus w) r = plus_repeats (repeats_within w r)
    repeats_within (of_opt w) r = in_opt (repeats_within w r)
    repeats_within (of_and w) r = in_and (repeats_within w r)
    repeats_within (of_not w) r = in_not (repeats_within w r)

    some_repeats : {bs : Patterns} {d : Pattern} → WithinSome bs d → RepeatsNullable rules d → SomeRepeats rules bs
    some_repeats (of_first w) r = repeats_first (repeats_within w r)
    some_repeats (of_later w) r = repeats_later (some_repeats w r)

-- Two names of undefined rules have one node; of all that a node spells either each is nullable or none.
module _ (rules : List Rule) (nodes : List Shape) where
  mutual
    same_null : {q : Pattern} → Nullable rules q → (n : ℕ) → Spells rules nodes n q → (p : Pattern)
        → Spells rules nodes n p → Nullable rules p
    same_null no_bytes n (spells_bytes g) p s = subst (Nullable rules) (sym (has_shape rules nodes s (node.Bytes []) g))
        no_bytes
    same_null (an_act {t = t}) n (spells_act g) p s =
        subst (Nullable rules) (sym (has_shape rules nodes s (node.Act t) g)) an_act
    same_null an_open n (spells_open g) p s = subst (Nullable rules) (sym (has_shape rules nodes s node.Open g)) an_open
    same_null a_close n (spells_close g) p s = subst (Nullable rules) (sym (has_shape rules nodes s node.Close g))
        a_close
    same_null an_and n (spells_and {m = m} g t) p s =
        subst (Nullable rules) (sym ((has_shape rules nodes s (node.And m) g).1)) an_and
    same_null a_not n (spells_not {m = m} g t) p s =
        subst (Nullable rules) (sym ((has_shape rules nodes s (node.Not m) g).1)) a_not
    same_null an_opt n (spells_opt {m = m} g t) p s =
        subst (Nullable rules) (sym ((has_shape rules nodes s (node.Opt m) g).1)) an_opt
    same_null a_star n (spells_star {m = m} g t) p s =
        subst (Nullable rules) (sym ((has_shape rules nodes s (node.Star m) g).1)) a_star
    same_null (a_plus d) n (spells_plus {m = m} {k = k} g t a) p s =
        let like = has_shape rules nodes s (node.Plus m k) g in
        subst (Nullable rules) (sym like.1) (a_plus (same_null d m t like.0 like.2))
    same_null (a_seq d) n (spells_seq {ms = ms} g ts) p s =
        let like = has_shape rules nodes s (node.Seq ms) g in
        subst (Nullable rules) (sym like.1) (a_seq (all_null d ms ts like.0 like.2))
    same_null (a_choice d) n (spells_choice {ms = ms} g ts) p s =
        let like = has_shape rules nodes s (node.Choice ms) g in
        subst (Nullable rules) (sym like.1) (a_choice (some_null d ms ts like.0 like.2))
    same_null (a_name {n = word} {e = e} h d) n (spells_name g) p s =
        let like = has_shape rules nodes s (node.Name (id_of rules word)) g in
        let body : body_of rules like.0 ≡ Some e =
        body_at_id rules like.0 ∙ ap (λ id. slice_get (map (λ rule. rule.body) rules) id) like.2
        ∙ sym (body_at_id rules word) ∙ h in
        subst (Nullable rules) (sym like.1) (a_name body d)

    all_null : {qs : Patterns} → AllNullable rules qs → (ms : List ℕ) → SpellAll rules nodes ms qs → (ps : Patterns)
        → SpellAll rules nodes ms ps → AllNullable rules ps
    all_null all_none ms spell_none ps spell_none = all_none
    all_null (all_more d ds) ms (spell_more {n = m} {ns = ns} t ts) ps (spell_more {p = p} {ps = rest} s ss) =
        all_more (same_null d m t p s) (all_null ds ns ts rest ss)

    some_null : {qs : Patterns} → SomeNullable rules qs → (ms : List ℕ) → SpellAll rules nodes ms qs → (ps : Patterns)
        → SpellAll rules nodes ms ps → SomeNullable rules ps
    some_null (some_first d) ms (spell_more {n = m} t ts) ps (spell_more {p = p} s ss) =
        some_first (same_null d m t p s)
    some_null (some_later d) ms (spell_more {ns = ns} t ts) ps (spell_more {ps = rest} s ss) =
        some_later (some_null d ns ts rest ss)

module _ (rules : List Rule) (nodes : List Shape) (bodies : List ℕ) (standing : AreStanding rules nodes)
    (none_loops : (id : ℕ) (rule : Rule) → slice_get rules id ≡ Some rule → Loops rules rule → ⊥) where
  none_repeats : (e : Pattern) → StandsIn rules e → RepeatsNullable rules e → ⊥
  none_repeats e s r =
      let rule = mapped_from (λ rule. rule.body) rules s.id s.body s.rule in
      none_loops s.id rule.0 rule.1 (subst (RepeatsNullable rules) (sym rule.2) (repeats_within rules s.within r))

  pub repeats_no_null : RepeatsNoNull rules nodes bodies
  repeats_no_null = record {
    star = λ n m g null.
        let one = standing n (slice_get_within nodes n (node.Star m) g) in
        let like = has_shape rules nodes one.spelled (node.Star m) g in
        none_repeats one.expr one.stands (subst (RepeatsNullable rules) (sym like.1)
        (loop_star (same_null rules nodes null.2 m null.1 like.0 like.2)));
    plus = λ n m k g null.
        let one = standing n (slice_get_within nodes n (node.Plus m k) g) in
        let like = has_shape rules nodes one.spelled (node.Plus m k) g in
        none_repeats one.expr one.stands (subst (RepeatsNullable rules) (sym like.1)
        (loop_plus (same_null rules nodes null.2 m null.1 like.0 like.2)));
  }

-- a grammar that is cut into nodes, and that the checks find nothing against, is ranked
-- where every name that stands in a body is that of a rule, so is every node's
module _ (rules : List Rule) (nodes : List Shape) (standing : AreStanding rules nodes)
    (used : (word : List ℕ) → StandsIn rules (expr.Name word) → id_of rules word < length rules) where
  pub all_defined : (n id : ℕ) → slice_get nodes n ≡ Some (node.Name id) → id < length rules
  all_defined n id g =
      let one = standing n (slice_get_within nodes n (node.Name id) g) in
      let like = has_shape rules nodes one.spelled (node.Name id) g in
      let lt = used like.0 (subst (StandsIn rules) like.1 one.stands) in
      omega (arith, lt, like.2)

pub is_ranked : (rules : List Rule) (start : ℕ) (nodes : List Shape) (bodies ranks : List ℕ) → start < length rules
    → AreBodies rules nodes bodies → IsBuilt nodes → length nodes ≡ node_counts rules →
    AreStanding rules nodes → AreRanks rules nodes bodies ranks
    → ((word : List ℕ) → StandsIn rules (expr.Name word) → id_of rules word < length rules) →
    ((id : ℕ) (rule : Rule) → slice_get rules id ≡ Some rule → Loops rules rule → ⊥)
    → IsRanked rules start nodes bodies ranks
is_ranked rules start nodes bodies ranks first are built counted standing falling used loops = record {
  start_is_rule = first;
  spelled = are;
  built = built;
  counted = counted;
  defined = all_defined rules nodes standing used;
  falling = falling;
  moving = repeats_no_null rules nodes bodies standing loops;
}

module _ (rules : List Rule) (nodes : List Shape) (bodies : List ℕ) (nulls recursive looping : List Bool)
    (ranks : List ℕ)
    (a : IsAnalysed rules nodes bodies nulls recursive looping ranks) where
  pub marks-recursive : ((id : ℕ) (rule : Rule) → slice_get rules id ≡ Some rule → id_of rules rule.name ≡ id)
      → AreMarks (IsLeftRecursive rules) rules recursive
  marks-recursive own = record {
    count = a.recursive_count;
    exact = λ id rule there. (a.recursive_sound id rule there, a.recursive_whole id rule there (own id rule there));
  }

  pub marks-looping : AreMarks (Loops rules) rules looping
  marks-looping = record { count = a.looping_count; exact = a.looping_exact }

-- none of two lists passes a test
neither_true : (p q : Bool) → (p || q) ≡ false → (p ≡ false) × (q ≡ false)
neither_true true q h = cc
neither_true false q h = (refl, h)

neither_any : {X : Type 0} (p : X → Bool) (xs ys : List X) → list_any p (xs ++ ys) ≡ false → (list_any p xs ≡ false)
    × (list_any p ys ≡ false)
neither_any p xs ys h = neither_true (list_any p xs) (list_any p ys) (sym (list_any-append p xs ys) ∙ h)

-- where each of them would reject, there are none
none-mapped : {X : Type 0} (f : X → Said) (xs : List X) → ((x : X) → said_refuses (f x) ≡ true)
    → list_any said_refuses (map f xs) ≡ false → xs ≡ []
none-mapped f [] h e = refl
none-mapped f (x ∷ xs) h e = absurd (let two = neither_true (said_refuses (f x)) (list_any said_refuses (map f xs)) e in
    let is = h x in cc)

those-none : {A : Type 0} (P : A → Type 0) (xs : List A) → Those P xs [] → (id : ℕ) (x : A) → slice_get xs id ≡ Some x
    → P x → ⊥
those-none P [] no_more id x there h = cc
those-none P (y ∷ ys) (not_this other more) zero x there h = other (let same : y ≡ x = cc in rw same h)
those-none P (y ∷ ys) (not_this other more) (suc id) x there h = those-none P ys more id x there h

news-none-by : (known names : List (List ℕ)) (n : List ℕ) (b : Bool) → is_among Exact known n ≡ b
    → news Exact known (n ∷ names) ≡ [] → (b ≡ true) × (news Exact known names ≡ [])
news-none-by known names n true e h = (refl, (let k = rw (e, news) at h in k))
news-none-by known names n false e h = let k = rw (e, news) at h in cc

-- where no name of a list is new, each is known
news-none : (known names : List (List ℕ)) → news Exact known names ≡ [] → (n : List ℕ) → Contains names n
    → is_among Exact known n ≡ true
news-none known [] h n (k, lt, e) = absurd (omega (arith, lt))
news-none known (x ∷ names) h n (zero, lt, e) = let two = news-none-by known names x (is_among Exact known x) refl h in
    rw e at two.0
news-none known (x ∷ names) h n (suc k, lt, e) =
    let two = news-none-by known names x (is_among Exact known x) refl h in
    news-none known names two.1 n (k, (omega arith), e)

mutual
  within-used : {p : Pattern} {word : List ℕ} → Within p (expr.Name word) → Contains (names_in p) word
  within-used itself = (0, omega arith, refl)
  within-used (of_seq w) = within-some-used w
  within-used (of_choice w) = within-some-used w
  within-used (of_star w) = within-used w
  within-used (of_plus w) = within-used w
  within-used (of_opt w) = within-used w
  within-used (of_and w) = within-used w
  within-used (of_not w) = within-used w

  within-some-used : {ps : Patterns} {word : List ℕ} → WithinSome ps (expr.Name word) → Contains (names_in_all ps) word
  within-some-used (of_first {e} {es} w) = Contains-append_left (names_in e) (names_in_all es) _ (within-used w)
  within-some-used (of_later {e} {es} w) = Contains-append_right (names_in e) (names_in_all es) _ (within-some-used w)

body-used : (rules : List Rule) (id : ℕ) (body : Pattern) (word : List ℕ) → slice_get (map (λ rule. rule.body) rules) id
    ≡ Some body → Contains (names_in body) word → Contains (names_used rules) word
body-used [] id body word there c = cc
body-used (rule ∷ rules) zero body word there c =
    let same : rule.body ≡ body = cc in
    Contains-append_left (names_in rule.body) (names_used rules) word (rw same c)
body-used (rule ∷ rules) (suc id) body word there c = Contains-append_right (names_in rule.body) (names_used rules) word
    (body-used rules id body word there c)

-- a name that stands in a body is used
stands-used : (rules : List Rule) (word : List ℕ) → StandsIn rules (expr.Name word) → Contains (names_used rules) word
stands-used rules word s = body-used rules s.id s.body word s.rule (within-used s.within)

named-by : (rule : Rule) (rules : List Rule) (word : List ℕ) (b : Bool) → bytes_eq rule.name word ≡ b
    → (b ≡ false → id_of rules word < length rules) → id_of (rule ∷ rules) word < suc (length rules)
named-by rule rules word true e h = rw (e, id_of) (omega arith)
named-by rule rules word false e h = let lt = h refl in rw (e, id_of) (omega arith)

-- a name that a rule has, has that rule's id
named-id : (rules : List Rule) (word : List ℕ) → Contains (rule_names rules) word → id_of rules word < length rules
named-id [] word (k, lt, e) = absurd (omega (arith, lt))
named-id (rule ∷ rules) word (zero, lt, e) =
    named-by rule rules word (bytes_eq rule.name word) refl
    (λ no. absurd (let is : bytes_eq rule.name word ≡ true = subst (λ n. bytes_eq n word ≡ true) (sym e)
    (own-name word) in cc))
named-id (rule ∷ rules) word (suc k, lt, e) = named-by rule rules word (bytes_eq rule.name word) refl
    (λ no. named-id rules word (k, omega arith, e))

-- no note rejects the grammar
module _ (rules : List Rule) (again : List (List ℕ)) (start : Option (List ℕ)) (notes : List Said)
    (are : AreNotes rules again start notes) (passes : is_refused notes ≡ false) where
  abbrev undefined : List (List ℕ)
  undefined = news Exact (rule_names rules) (option_to_list start ++ names_used rules)

  -- none of the kinds that reject is among them
  record Passes : Type 0 where
    no_undefined : undefined ≡ []
    no_recursive : are.recursive ≡ []
    no_looping : are.looping ≡ []

  passes_parts : Passes
  passes_parts =
      let one = neither_any said_refuses (map (λ (rule : Rule). said Redefined rule.name) are.redefined) _
      (sym (ap (list_any said_refuses) are.all) ∙ passes) in
      let two = neither_any said_refuses (map (said Undefined) undefined) _ one.1 in
      let three = neither_any said_refuses (map (λ (rule : Rule). said Unused rule.name) are.unused) _ two.1 in
      let four = neither_any said_refuses (map (λ (rule : Rule). said LeftRecursion rule.name) are.recursive) _ three.1
      in
      record {
        no_undefined = none-mapped (said Undefined) undefined (λ x. refl) two.0;
        no_recursive = none-mapped (λ (rule : Rule). said LeftRecursion rule.name) are.recursive (λ x. refl) four.0;
        no_looping = none-mapped (λ (rule : Rule). said Loop rule.name) are.looping (λ x. refl) four.1;
      }

  names_known : (word : List ℕ) → Contains (option_to_list start ++ names_used rules) word
      → id_of rules word < length rules
  names_known word c = named-id rules word (among-contains (rule_names rules) word
      (news-none (rule_names rules) (option_to_list start ++ names_used rules) passes_parts.no_undefined word c))

  pub all-used : (word : List ℕ) → StandsIn rules (expr.Name word) → id_of rules word < length rules
  all-used word s = names_known word (Contains-append_right (option_to_list start) (names_used rules) word
      (stands-used rules word s))

  pub start-known : (word : List ℕ) → start ≡ Some word → id_of rules word < length rules
  start-known word e = names_known word (Contains-append_left (option_to_list start) (names_used rules) word
      (rw e (0, omega arith, refl)))

  pub none-recursive : (id : ℕ) (rule : Rule) → slice_get rules id ≡ Some rule → IsLeftRecursive rules rule → ⊥
  none-recursive id rule there h = those-none (IsLeftRecursive rules) rules
      (let e = passes_parts.no_recursive in rw e at are.are_recursive) id rule there h

  pub none-looping : (id : ℕ) (rule : Rule) → slice_get rules id ≡ Some rule → Loops rules rule → ⊥
  none-looping id rule there h =
      those-none (Loops rules) rules (let e = passes_parts.no_looping in rw e at are.are_looping) id
      rule there h

  module _ (nodes : List Shape) (bodies : List ℕ) (nulls recursive looping : List Bool) (ranks : List ℕ)
      (a : IsAnalysed rules nodes bodies nulls recursive looping ranks)
      (spelled : AreBodies rules nodes bodies) (built : IsBuilt nodes) (counted : length nodes ≡ node_counts rules)
      (standing : AreStanding rules nodes) where
    not-marked : (id : ℕ) → IsMarked recursive id → ⊥
    not-marked id m =
        let lt : id < length rules = (let l = marked_lt recursive id m in let c = a.recursive_count in omega arith) in
        let there = slice_get-get_or rules id (record {
          name = [];
          body = expr.Any;
          span = record { start = 0; end = 0 };
        }) lt in
        none-recursive id _ there (a.recursive_sound id _ there m)

    pub ranked_first : (first : ℕ) → first < length rules → IsRanked rules first nodes bodies ranks
    ranked_first first lt =
        is_ranked rules first nodes bodies ranks lt spelled built counted standing (a.ranked not-marked) all-used
        none-looping

-- the rules of a table
module _ (rules : table.Rules Expr) (exact : rules.names ≡ Exact) where
  pub own-ids : HasUniqueNames rules → (id : ℕ) (rule : Rule) → slice_get (rules_of rules) id ≡ Some rule
      → id_of (rules_of rules) rule.name ≡ id
  own-ids unique = own_id rules exact unique

  given-by : (word : List ℕ) → id_of (rules_of rules) word < length rules.rules → find_in rules word ≢ None
  given-by word lt none =
      let id : length rules.rules ≡ id_of (rules_of rules) word = id_found rules word None (length rules.rules) exact
      (sym none) refl in
      omega arith

  -- a start name that is given is a rule's, where no note rejects the grammar
  pub is-given : (start : Option (List ℕ)) → ((word : List ℕ) → start ≡ Some word → id_of (rules_of rules) word
      < length (rules_of rules)) → IsGiven start rules
  is-given None h = tt
  is-given (Some word) h = given-by word (let lt = h word refl in omega (arith, lt, length-map rules.rules rule_of))

  pub found-start : (word : List ℕ) (id : ℕ) → Some id ≡ find_in rules word → IsStart (Some word) (rules_of rules) id
  found-start word id is =
      let found : find_in rules word ≡ Some id = sym is in
      let e = rw exact at found in
      let none : table.Rule Expr = record { name = []; body = exprs.Any; span = record { start = 0; end = 0 } } in
      let p = position-Some (λ (rule : table.Rule Expr). bytes_eq word rule.name) rules.rules id none e in
      let name : (get_or rules.rules id none).name ≡ word = sym (same-name word _ p.1) in
      let there = slice_get-map (λ (rule : table.Rule Expr). rule.name) rules.rules id
      ∙ ap (option_map (λ (rule : table.Rule Expr). rule.name)) (slice_get-get_or rules.rules id none p.0) in
      record { name = word; is_start = refl; there = rw (names-same rules) (there ∙ ap Some name) }

pub first-start : (rules : List Rule) → 0 < length rules → IsStart None rules 0
first-start [] lt = absurd (omega (arith, lt))
first-start (rule ∷ rules) lt = record { name = rule.name; is_start = refl; there = refl }

-- and it is a rule
pub start-below : (start : Option (List ℕ)) (rules : List Rule) (id : ℕ) → IsStart start rules id → id < length rules
start-below start rules id s = let lt = slice_get_within (rule_names rules) id s.name s.there in
    omega (arith, lt, length-map rules (λ rule. rule.name))
