-- Contexts of rules get shorter until they are settled, and then they are as short as may be.
-- Serves: rule_contexts
use Rattle.std.proofs.Common.{◌≡◌, ◌↔◌, ⊎_elim, ℕ, zero, suc, ◌+◌, ◌<◌, ◌≤◌, Bool, true, false, ◌||◌, List, []}
use Rattle.std.proofs.Common.{◌∷◌}
use Rattle.std.proofs.Common.{◌++◌, map, take, set, get_or, length, length-append, length-set, Contains, Option, Some}
use Rattle.std.proofs.Common.{None, cond, nat_lt}
use Rattle.std.proofs.Common.{Vec, Global, refl, sym, ◌∙◌, ap, subst, arith, add-one}
use Rattle.std.specs.Prelude.{slice_get, IsTrue, if◌then◌else◌}
use Rattle.std.proofs.Math.Seq.{take-suc}
use Rattle.std.specs.List.{position_or_len}
use Rattle.std.proofs.lemmas.Bool.{cases_eq, cases_lt}
use Rattle.std.proofs.lemmas.Bool.Decides.{nat_tests}
use Rattle.std.proofs.lemmas.List.{map-append}
use Rattle.std.proofs.lemmas.List.Elements.{Contains-append_cases}
use Rattle.ruletable.specs.Rules as table
use Rattle.ruletable.specs.Rules.{find_in, same_name}
use Rattle.abnfread.specs.declared.elem.Elem.{Elem}
use Rattle.abnfread.specs.Element as e
use Rattle.abnfread.specs.Element.{Element, Rule, bodies, id_of}
use Rattle.abnfcheck.specs.Derivable.{AreLetters}
use Rattle.abnfcheck.proofs.YieldsLemmas.{letters_both, letters_parts}
use Rattle.ruletable.specs.Letters.{has}
use Rattle.coverlines.specs.Goals as g
use Rattle.coverlines.specs.Goals.{Around, Inside}
use Rattle.coverlines.specs.Sites.{AreSites, Stood, room_of, stood_of}
use Rattle.coverlines.specs.RuleContexts.{AreContexts, AreSitesPassed, AreRuleSites, AreRulesPassed}
use Rattle.coverlines.specs.RuleContexts.{AreShortestContexts, IsContext, IsImproved, IsNamedIn, IsSiteOf, IsSiteStep}
use Rattle.coverlines.specs.RuleContexts.{AreFirstContexts, AreSitesOf, IsFirstContext}
use Rattle.coverlines.specs.RuleContexts.{IsSettledAt, NamesIn, StandsAround, context_at, context_cost, context_total}
use Rattle.coverlines.specs.RuleContexts.{sites_at, size_of}
use Rattle.coverlines.specs.Shortest.{may}
use Rattle.coverlines.specs.declared.bounds.LineBounds.{LineBounds}
use Rattle.coverlines.specs.declared.context.LineContext.{LineContext}
use Rattle.coverlines.specs.declared.sites.Site.{Site}
use Rattle.coverlines.specs.declared.rule_contexts.Named.{Named}
use Rattle.coverlines.proofs.KnownWordsLemmas.{body_below, body_there}
use Rattle.coverlines.proofs.MemberLemmas.{only_in}

-- one more context
pub context_index : (cs : List (Option LineContext)) (id : ℕ) (x : Option LineContext) → id < length cs
    → x ≡ get_or cs id x
    → context_at cs id ≡ x
context_index [] id x lt is = absurd (omega (arith, lt))
context_index (c ∷ cs) zero x lt is = sym is
context_index (c ∷ cs) (suc id) x lt is = context_index cs id x (omega (arith, lt)) is

set_total : (limit : ℕ) (cs : List (Option LineContext)) (id : ℕ) (c : Option LineContext) → id < length cs
    → context_cost limit c < context_cost limit (context_at cs id)
    → context_total limit (set cs id c) < context_total limit cs
set_total limit [] id c lt less = absurd (omega (arith, lt))
set_total limit (d ∷ cs) zero c lt less = omega (arith, less)
set_total limit (d ∷ cs) (suc id) c lt less =
    let h = set_total limit cs id c (omega (arith, lt)) less in omega (arith, h)

context_here : (cs : List (Option LineContext)) (id : ℕ) (c : Option LineContext) → id < length cs
    → context_at (set cs id c) id ≡ c
context_here [] id c lt = absurd (omega (arith, lt))
context_here (d ∷ cs) zero c lt = refl
context_here (d ∷ cs) (suc id) c lt = context_here cs id c (omega (arith, lt))

context_there : (cs : List (Option LineContext)) (id : ℕ) (c : Option LineContext) (n : ℕ) → (n ≡ id → ⊥)
    → context_at (set cs id c) n ≡ context_at cs n
context_there [] id c n other = refl
context_there (d ∷ cs) zero c zero other = absurd (other refl)
context_there (d ∷ cs) zero c (suc n) other = refl
context_there (d ∷ cs) (suc id) c zero other = refl
context_there (d ∷ cs) (suc id) c (suc n) other = context_there cs id c n (λ is. other (ap suc is))

pub not_shorter : (limit n : ℕ) (old : Option LineContext) (answer : Bool) → answer ≡ false
    → (IsTrue answer ↔ (n < context_cost limit old)) → context_cost limit old ≤ n
not_shorter limit n old answer is h = ⊎_elim (λ lt. absurd (let yes = h.1 lt in cc (is, yes))) (λ le. le)
    (cases_lt n (context_cost limit old))

context_past : (cs : List (Option LineContext)) (id : ℕ) → length cs ≤ id → context_at cs id ≡ None
context_past [] id le = refl
context_past (c ∷ cs) zero le = absurd (omega (arith, le))
context_past (c ∷ cs) (suc id) le = context_past cs id (omega (arith, le))

context_below : (cs : List (Option LineContext)) (x : Option LineContext) (id : ℕ) → id < length cs
    → context_at (cs ++ x ∷ []) id ≡ context_at cs id
context_below [] x id lt = absurd (omega (arith, lt))
context_below (c ∷ cs) x zero lt = refl
context_below (c ∷ cs) x (suc id) lt = context_below cs x id (omega (arith, lt))

context_last : (cs : List (Option LineContext)) (x : Option LineContext) (id : ℕ) → id ≡ length cs
    → context_at (cs ++ x ∷ []) id ≡ x
context_last [] x zero is = refl
context_last [] x (suc id) is = absurd (omega (arith, is))
context_last (c ∷ cs) x zero is = absurd (omega (arith, is))
context_last (c ∷ cs) x (suc id) is = context_last cs x id (omega (arith, is))

-- the sites in a body
pub sites_index : (ps : List (Vec Site Global)) (id : ℕ) (x : Vec Site Global) → id < length ps → x ≡ get_or ps id x
    → sites_at ps id ≡ map stood_of x.items
sites_index [] id x lt is = absurd (omega (arith, lt))
sites_index (p ∷ ps) zero x lt is = ap (λ (v : Vec Site Global). map stood_of v.items) (sym is)
sites_index (p ∷ ps) (suc id) x lt is = sites_index ps id x (omega (arith, lt)) is

sites_before : (ps : List (Vec Site Global)) (x : Vec Site Global) (id : ℕ) → id < length ps
    → sites_at (ps ++ x ∷ []) id ≡ sites_at ps id
sites_before [] x id lt = absurd (omega (arith, lt))
sites_before (p ∷ ps) x zero lt = refl
sites_before (p ∷ ps) x (suc id) lt = sites_before ps x id (omega (arith, lt))

sites_last : (ps : List (Vec Site Global)) (x : Vec Site Global) (id : ℕ) → id ≡ length ps
    → sites_at (ps ++ x ∷ []) id ≡ map stood_of x.items
sites_last [] x zero is = refl
sites_last [] x (suc id) is = absurd (omega (arith, is))
sites_last (p ∷ ps) x zero is = absurd (omega (arith, is))
sites_last (p ∷ ps) x (suc id) is = sites_last ps x id (omega (arith, is))

-- the rule that a name finds
found_below : (b : Bool) (k n id : ℕ) → (b ≡ true → k < n) → cond b (Some k) None ≡ Some id → id < n
found_below true k n id below is = let same : k ≡ id = cc is in let lt = below refl in omega (arith, same, lt)
found_below false k n id below is = absurd (cc is)

pub found_inside : (rules : table.Rules Elem) (name : List ℕ) (id : ℕ) → find_in rules name ≡ Some id
    → id < length rules.rules
found_inside rules name id is =
    let first = position_or_len (λ rule. same_name rules.names name rule.name) rules.rules in
    found_below (nat_lt first (length rules.rules)) first (length rules.rules) id (λ lt. grind (arith, nat_tests)) is

-- one more context at first
pub next_first : (judged n : ℕ) (old new : List (Option LineContext)) (x : Option LineContext)
    → new ≡ old ++ x ∷ [] → IsFirstContext judged n x → length old ≡ n
    → ((id : ℕ) → id < n → IsFirstContext judged id (context_at old id)) → (id : ℕ) → id < n + 1
    → IsFirstContext judged id (context_at new id)
next_first judged n old new x is here count below id lt = subst (λ cs. IsFirstContext judged id (context_at cs id))
    (sym is) (⊎_elim
    (λ same. subst (IsFirstContext judged id) (sym (context_last old x id (omega (arith, same, count))))
    (subst (λ k. IsFirstContext judged k x) (sym same) here))
    (λ other. subst (IsFirstContext judged id) (sym (context_below old x id (omega (arith, lt, other, count))))
    (below id (omega (arith, lt, other)))) (cases_eq id n))

size_named : (c : LineContext) (s : Stood) (named : LineContext) → named.before.items ≡ c.before.items ++ s.before
    → named.after.items ≡ s.after ++ c.after.items → size_of named ≡ size_of c + room_of s
size_named c s named front back =
    let n = ap length front ∙ length-append c.before.items s.before in
    let m = ap length back ∙ length-append s.after c.after.items in omega (arith, n, m)

module _ (b : LineBounds) (rules : List Rule) where
  -- the first contexts
  pub first_known : (judged n : ℕ) (known : Vec (Option LineContext) Global) → length rules ≡ n → judged < n
      → AreFirstContexts judged n known → AreContexts b rules judged known.items
  first_known judged n known is lt h = record {
    count = let c = h.count in omega (arith, c, is);
    stands = λ id. ⊎_elim
        (λ below. stands id (context_at known.items id) (h.each id below))
        (λ past. subst (IsContext b rules judged id) (sym (context_past known.items id (let c = h.count in
        omega (arith, c, past)))) tt) (cases_lt id n);
    first = first (context_at known.items judged) (h.each judged lt);
  }
    where
      stands : (id : ℕ) (c : Option LineContext) → IsFirstContext judged id c → IsContext b rules judged id c
      stands id None f = tt
      stands id (Some c) f = (
        subst (λ k. StandsAround b rules judged k c.before.items c.after.items) (sym f.0) (rw (f.1, f.2) (record {
          around = g.judged_rule;
          before = tt;
          after = tt;
        })),
        let m = ap length f.1 in let l = ap length f.2 in omega (arith, m, l),
      )

      first : (c : Option LineContext) → IsFirstContext judged judged c → context_cost b.limit c ≡ 0
      first None f = absurd (f refl)
      first (Some c) f = let m = ap length f.1 in let l = ap length f.2 in omega (arith, m, l)

  -- the sites of a rule stand in its body
  pub sites_of_rule : (sites : List (Vec Site Global)) (id : ℕ) (all : List Stood) → AreRuleSites b rules sites
      → id < length sites → sites_at sites id ≡ all → AreSitesOf b rules id all
  sites_of_rule sites id all h lt is s among =
      let body = body_there rules id (let c = h.count in omega (arith, lt, c)) in
      let at = (h.each id body.0 body.1).right s (subst (λ xs. Contains xs s) (sym is) among) in
      record { body = body.0; site = at.0; is = body.1; stands = at.1.stands }

  -- the sites of one rule more
  pub next_rule_sites : (n : ℕ) (own : Element) (old new : List (Vec Site Global)) (x : Vec Site Global)
      → new ≡ old ++ x ∷ [] → length old ≡ n → slice_get (bodies rules) n ≡ Some own
      → AreSites b rules own (map stood_of x.items)
      → ((id : ℕ) (body : Element) → id < n → slice_get (bodies rules) id ≡ Some body
      → AreSites b rules body (sites_at old id)) → (id : ℕ) (body : Element) → id < n + 1
      → slice_get (bodies rules) id ≡ Some body → AreSites b rules body (sites_at new id)
  next_rule_sites n own old new x is count at here below id body lt there =
      subst (λ ps. AreSites b rules body (sites_at ps id)) (sym is) (⊎_elim
      (λ same. let other = subst (λ k. slice_get (bodies rules) k ≡ Some body) same there in
      let one : own ≡ body = cc (at, other) in
      subst (AreSites b rules body) (sym (sites_last old x id (omega (arith, same, count))))
      (subst (λ e. AreSites b rules e (map stood_of x.items)) one here))
      (λ other. subst (AreSites b rules body) (sym (sites_before old x id (omega (arith, lt, other, count))))
      (below id body (omega (arith, lt, other)) there)) (cases_eq id n))

  module _ (judged : ℕ) (known : List (Option LineContext)) (h : AreContexts b rules judged known) where
    cost_few : (id : ℕ) → context_cost b.limit (context_at known id) ≤ b.limit + 1
    cost_few id = by (context_at known id) (h.stands id)
      where
        by : (c : Option LineContext) → IsContext b rules judged id c → context_cost b.limit c ≤ b.limit + 1
        by None is = omega arith
        by (Some c) is = let le = is.1 in omega (arith, le)

    -- a rule that is named has the context
    named_stands : (id : ℕ) (s : Stood) (named : Named) → IsSiteOf b rules id s
        → NamesIn rules (context_at known id) s named
        → StandsAround b rules judged named.id named.context.before.items named.context.after.items
    named_stands id s named site n =
        let c = subst (IsContext b rules judged id) n.outer_is (h.stands id) in
        subst (λ k. StandsAround b rules judged k named.context.before.items named.context.after.items) (sym n.id_is)
        (rw (n.before, n.after) (record {
          around = g.by_name c.0.around site.is (subst (λ m. Inside (has b.alphabet) (may b) rules site.body
              site.site m s.before s.after) n.element_is site.stands.inside);
          before = letters_both (may b) n.context.before.items s.before c.0.before site.stands.before;
          after = letters_both (may b) s.after n.context.after.items site.stands.after c.0.after;
        }))

    pub contexts_set : (id : ℕ) (s : Stood) (named : Named) → IsSiteOf b rules id s
        → NamesIn rules (context_at known id) s named → size_of named.context ≤ b.limit
        → size_of named.context < context_cost b.limit (context_at known named.id)
        → AreContexts b rules judged (set known named.id (Some named.context))
    contexts_set id s named site n few less = record {
      count = let l = length-set known named.id (Some named.context) in let m = h.count in omega (arith, l, m);
      stands = λ k. ⊎_elim
          (λ same. subst (λ j. IsContext b rules judged j (context_at (set known named.id (Some named.context)) j))
          (sym same) (subst (IsContext b rules judged named.id)
          (sym (context_here known named.id (Some named.context) inside)) (named_stands id s named site n, few)))
          (λ other. subst (IsContext b rules judged k) (sym (context_there known named.id (Some named.context) k other))
          (h.stands k)) (cases_eq k named.id);
      first = ⊎_elim
          (λ same. let none = h.first in
          let l = subst (λ j. size_of named.context < context_cost b.limit (context_at known j)) (sym same) less in
          absurd (omega (arith, l, none)))
          (λ other. ap (context_cost b.limit) (context_there known named.id (Some named.context) judged other)
          ∙ h.first)
          (cases_eq judged named.id);
    }
      where
        inside : named.id < length known
        inside = let l = h.count in let m = n.inside in omega (arith, l, m)

    pub settled_named : (id : ℕ) (s : Stood) (named : Named) → NamesIn rules (context_at known id) s named
        → (size_of named.context ≤ b.limit
        → context_cost b.limit (context_at known named.id) ≤ size_of named.context) → IsSettledAt b rules known id s
    settled_named id s named n few name c element at lt =
        let one : e.Name n.name ≡ e.Name name = sym n.element_is ∙ element in
        let same : n.name ≡ name = cc one in
        let alike : n.context ≡ c = (let o = n.outer_is in cc (o, at)) in
        let size = size_named n.context s named.context n.before n.after in
        let known_cost = cost_few named.id in
        let le : context_cost b.limit (context_at known named.id) ≤ size_of named.context =
        ⊎_elim (λ over. omega (arith, over, known_cost)) (λ le. few le)
        (cases_lt b.limit (size_of named.context)) in
        let id_is : named.id ≡ id_of rules name = n.id_is ∙ ap (id_of rules) same in
        let sum : size_of n.context + room_of s ≡ size_of c + room_of s = ap (λ x. size_of x + room_of s) alike in
        subst (λ k. context_cost b.limit (context_at known k) ≤ size_of c + room_of s) id_is
        (omega (arith, le, size, sum))

    pub settled_none : (id : ℕ) (s : Stood) → IsNamedIn rules (context_at known id) s None
        → IsSettledAt b rules known id s
    settled_none id s n name c element at lt = let le = n name c at element in absurd (omega (arith, le, lt))

    -- a step for the rule that is named
    pub improved_contexts : (id : ℕ) (s : Stood) (named : Named) (new : List (Option LineContext)) (answer : Bool)
        → IsSiteOf b rules id s → NamesIn rules (context_at known id) s named
        → IsImproved b.limit named.id named.context known new answer → AreContexts b rules judged new
    improved_contexts id s named new true site n i =
        subst (AreContexts b rules judged) (sym i.0) (contexts_set id s named site n i.1 i.2)
    improved_contexts id s named new false site n i = subst (AreContexts b rules judged) (sym i.0) h

    pub improved_step : (id : ℕ) (s : Stood) (named : Named) (new : List (Option LineContext)) (answer : Bool)
        → NamesIn rules (context_at known id) s named
        → IsImproved b.limit named.id named.context known new answer → IsSiteStep b rules id s known new answer
    improved_step id s named new true n i =
        subst (λ cs. context_total b.limit cs < context_total b.limit known) (sym i.0)
        (set_total b.limit known named.id (Some named.context)
        (let l = h.count in let m = n.inside in omega (arith, l, m)) i.2)
    improved_step id s named new false n i = (i.0, settled_named id s named n i.1)

  -- one site more, and one rule more
  pub next_site : (id : ℕ) (all : List Site) (i : ℕ) (site : Site) (old mid new : List (Option LineContext))
      (flag step : Bool) → i < length all → site ≡ get_or all i site
      → AreSitesPassed b rules id (map stood_of (take i all)) old mid flag
      → IsSiteStep b rules id (stood_of site) mid new step
      → AreSitesPassed b rules id (map stood_of (take (i + 1) all)) old new (flag || step)
  next_site id all i site old mid new true true lt is p s = omega (arith, p, s)
  next_site id all i site old mid new true false lt is p s =
      subst (λ cs. context_total b.limit cs < context_total b.limit old) (sym s.0) p
  next_site id all i site old mid new false true lt is p s =
      subst (λ cs. context_total b.limit new < context_total b.limit cs) p.0 s
  next_site id all i site old mid new false false lt is p s = (
    s.0 ∙ p.0,
    λ t among. ⊎_elim
        (λ l. p.1 t l)
        (λ r. subst (λ cs. IsSettledAt b rules cs id t) p.0 (subst (IsSettledAt b rules mid id)
        (only_in (stood_of site) t r) s.1))
        (Contains-append_cases (map stood_of (take i all)) (stood_of site ∷ []) t
        (subst (λ xs. Contains xs t) taken among)),
  )
    where
      taken : map stood_of (take (i + 1) all) ≡ map stood_of (take i all) ++ stood_of site ∷ []
      taken = ap (map stood_of) (ap (λ (k : ℕ). take k all) (add-one i) ∙ take-suc all i site lt
          ∙ ap (λ x. take i all ++ x ∷ []) (sym is)) ∙ map-append stood_of (take i all) (site ∷ [])

  pub next_rule : (sites : List (Vec Site Global)) (n : ℕ) (all : List Stood) (old mid new : List (Option LineContext))
      (flag step : Bool) → sites_at sites n ≡ all → AreRulesPassed b rules sites n old mid flag
      → AreSitesPassed b rules n all mid new step → AreRulesPassed b rules sites (n + 1) old new (flag || step)
  next_rule sites n all old mid new true true is p s = omega (arith, p, s)
  next_rule sites n all old mid new true false is p s =
      subst (λ cs. context_total b.limit cs < context_total b.limit old) (sym s.0) p
  next_rule sites n all old mid new false true is p s =
      subst (λ cs. context_total b.limit new < context_total b.limit cs) p.0 s
  next_rule sites n all old mid new false false is p s = (
    s.0 ∙ p.0,
    λ id t lt among. ⊎_elim
        (λ same. subst (λ cs. IsSettledAt b rules cs id t) p.0 (subst (λ k. IsSettledAt b rules mid k t) (sym same)
        (s.1 t (subst (λ xs. Contains xs t) (ap (sites_at sites) same ∙ is) among))))
        (λ other. p.1 id t (omega (arith, lt, other)) among) (cases_eq id n),
  )

  -- steps for all rules
  pub settled_after : (sites : List (Vec Site Global)) (n : ℕ) (old new : List (Option LineContext)) (answer : Bool)
      → answer ≡ false → AreRulesPassed b rules sites n old new answer → (id : ℕ) (s : Stood) → id < n
      → Contains (sites_at sites id) s → IsSettledAt b rules new id s
  settled_after sites n old new true is p id s lt among = absurd (cc is)
  settled_after sites n old new false is p id s lt among =
      subst (λ cs. IsSettledAt b rules cs id s) (sym p.0) (p.1 id s lt among)

  pub smaller_after : (sites : List (Vec Site Global)) (n : ℕ) (old new : List (Option LineContext)) (answer : Bool)
      → AreRulesPassed b rules sites n old new answer
      → context_total b.limit new + context_total b.limit new + (if answer then 1 else 0)
      < context_total b.limit old + context_total b.limit old + 1
  smaller_after sites n old new true p = omega (arith, p)
  smaller_after sites n old new false p = let e = ap (context_total b.limit) p.0 in omega (arith, e)

  -- settled contexts are as short as may be
  module _ (judged : ℕ) (sites : List (Vec Site Global)) (known : List (Option LineContext))
      (all : AreRuleSites b rules sites) (h : AreContexts b rules judged known)
      (settled : (id : ℕ) (s : Stood) → id < length sites → Contains (sites_at sites id) s
      → IsSettledAt b rules known id s) where
    pub around_least : {id : ℕ} {x y : List ℕ} → Around (has b.alphabet) (may b) rules judged id x y
        → AreLetters (may b) x → AreLetters (may b) y → length x + length y ≤ b.limit → id < length rules
        → context_cost b.limit (context_at known id) ≤ length x + length y
    around_least g.judged_rule front back le lt = let z = h.first in omega (arith, z)
    around_least (g.by_name {id = id} {body = body} {name = name} {u = u} {v = v} {x = x} {y = y} {p = p} a is inside)
        front back le lt =
        let one = letters_parts (may b) x u front in
        let two = letters_parts (may b) v y back in
        let n = length-append x u in
        let m = length-append v y in
        let below = body_below rules id body is in
        let old = around_least a one.0 two.1 (omega (arith, le, n, m)) below in
        by id body name x y u v p is inside one.1 two.0 (omega (arith, le, n, m)) old lt (omega (arith, n, m))
        (context_at known id) refl
      where
        by : (id : ℕ) (body : Element) (name x y u v p : List ℕ) → slice_get (bodies rules) id ≡ Some body
            → Inside (has b.alphabet) (may b) rules body p (e.Name name) u v → AreLetters (may b) u
            → AreLetters (may b) v → (length x + length y) + (length u + length v) ≤ b.limit
            → context_cost b.limit (context_at known id) ≤ length x + length y → id_of rules name < length rules
            → (length x + length y) + (length u + length v) ≤ length (x ++ u) + length (v ++ y)
            → (c : Option LineContext) → context_at known id ≡ c
            → context_cost b.limit (context_at known (id_of rules name)) ≤ length (x ++ u) + length (v ++ y)
        by id body name x y u v p is inside front back le old lt sum None at =
            let o = subst (λ c. context_cost b.limit c ≤ length x + length y) at old in absurd (omega (arith, o, le))
        by id body name x y u v p is inside front back le old lt sum (Some c) at =
            let o = subst (λ k. context_cost b.limit k ≤ length x + length y) at old in
            let m = (all.each id body is).complete p (record { element = e.Name name; before = u; after = v })
            (record { inside = inside; before = front; after = back }) (omega (arith, le)) in
            let below = body_below rules id body is in
            let count = all.count in
            let few = settled id m.other (omega (arith, below, count)) m.among name c m.same at lt in
            let w = m.within in omega (arith, o, few, w, sum)

    pub contexts_shortest : AreShortestContexts b rules judged known
    contexts_shortest = record {
      count = h.count;
      stands = h.stands;
      least = λ id x y lt s le. around_least s.around s.before s.after le lt;
    }
