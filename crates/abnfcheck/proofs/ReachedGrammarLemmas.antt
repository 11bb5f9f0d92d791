-- The rules that the judged one reaches derive the same lines.
-- Serves: reached_grammar; compare, new, of_samples of rulelines
use Rattle.std.proofs.Common.{◌≡◌, ◌∙◌, ◌⊎◌, inl, inr, ap, refl, sym, subst, arith, ℕ, zero, suc, ◌+◌, Bool, true}
use Rattle.std.proofs.Common.{false, List, [], ◌∷◌, length, map, get_or, cond, Some, ◌↔◌}
use Rattle.std.proofs.lemmas.Option.{slice_get_within}
use Rattle.std.proofs.lemmas.List.{length-map}
use Rattle.std.specs.Prelude.{slice_get}
use Rattle.ruletable.specs.Rules as table
use Rattle.ruletable.specs.Rules.{same_name}
use Rattle.ruletable.specs.declared.span.Span.{Span}
use Rattle.ruletable.specs.declared.table.NameCase.TheVariants.{Fold}
use Rattle.fixpoint.specs.IdMarks.{AreMarks}
use Rattle.abnfread.specs.AbnfViews.{element_of, rule_of, rules_of}
use Rattle.abnfread.specs.Element.{Concat, Element, Elements, Name, Rule, bodies, body_of, id_of, none}
use Rattle.abnfread.specs.declared.elem.Elem.{Elem}
use Rattle.abnfcheck.proofs.RuleIdLemmas.{body_at_id}
use Rattle.abnfcheck.specs.AbnfGrammar.{Grammar, IsSound, Reachable, Within, WithinSome, by_name}
use Rattle.abnfcheck.specs.AbnfGrammar.{judged_rule, of_alt, of_concat, of_first, of_later, of_opt, of_rep, itself}
use Rattle.abnfcheck.specs.Derivable.{Derives, DerivesAll, DerivesSome, DerivesTimes, RuleDerives}
use Rattle.abnfcheck.specs.Derivable as d
use Rattle.abnfcheck.specs.ReachedGrammar.{AreReachedOf, IsReachedGrammar, kept_element, rules_kept}
use Rattle.abnfcheck.proofs.CopiedRulesLemmas.{copy_of}

-- a copy of a rule of a table
pub kept_there : (marks : List Bool) (rules : List (table.Rule Elem)) (id : ℕ) (name : List ℕ) (body copy : Elem)
    (span : Span) (mark : Bool) → slice_get marks id ≡ Some mark
    → slice_get (map (λ (rule : table.Rule Elem). rule.name) rules) id ≡ Some name
    → slice_get (map (λ (rule : table.Rule Elem). rule.body) rules) id ≡ Some body
    → slice_get (map (λ (rule : table.Rule Elem). rule.span) rules) id ≡ Some span
    → element_of copy ≡ kept_element mark (element_of body)
    → slice_get (rules_kept marks (map rule_of rules)) id ≡ Some (rule_of (copy_of name copy span))
kept_there [] rules id name body copy span mark m n b s same = absurd (cc m)
kept_there (other ∷ marks) [] id name body copy span mark m n b s same = absurd (cc n)
kept_there (other ∷ marks) (rule ∷ rules) zero name body copy span mark m n b s same =
    let is_mark : other ≡ mark = cc m in
    let is_name : rule.name ≡ name = cc n in
    let is_body : rule.body ≡ body = cc b in
    let is_span : rule.span ≡ span = cc s in
    rw (sym is_name, sym is_span, same, sym is_body, sym is_mark) refl
kept_there (other ∷ marks) (rule ∷ rules) (suc id) name body copy span mark m n b s same =
    kept_there marks rules id name body copy span mark m n b s same

-- the rules that are kept
pub length_kept : (marks : List Bool) (rules : List Rule) → length marks ≡ length rules
    → length (rules_kept marks rules) ≡ length rules
length_kept [] rules same = same
length_kept (mark ∷ marks) [] same = refl
length_kept (mark ∷ marks) (rule ∷ rules) same =
    let rest = length_kept marks rules (omega (arith, same)) in omega (arith, rest)

ids_kept : (marks : List Bool) (rules : List Rule) (name : List ℕ) → length marks ≡ length rules
    → id_of (rules_kept marks rules) name ≡ id_of rules name
ids_kept [] [] name same = refl
ids_kept [] (rule ∷ rules) name same = absurd (omega (arith, same))
ids_kept (mark ∷ marks) [] name same = absurd (omega (arith, same))
ids_kept (mark ∷ marks) (rule ∷ rules) name same =
    ap (λ (k : ℕ). cond (same_name Fold name rule.name) 0 (k + 1)) (ids_kept marks rules name (omega (arith, same)))

kept_at : (marks : List Bool) (rules : List Rule) (id : ℕ) → get_or marks id false ≡ true
    → slice_get (bodies (rules_kept marks rules)) id ≡ slice_get (bodies rules) id
kept_at [] rules id on = absurd (cc on)
kept_at (mark ∷ marks) [] id on = refl
kept_at (mark ∷ marks) (rule ∷ rules) zero on =
    let is : mark ≡ true = on in ap (λ (b : Bool). Some (kept_element b rule.body)) is
kept_at (mark ∷ marks) (rule ∷ rules) (suc id) on = kept_at marks rules id on

emptied_at : (marks : List Bool) (rules : List Rule) (id : ℕ) (body : Element) → get_or marks id false ≡ false
    → slice_get (bodies (rules_kept marks rules)) id ≡ Some body → body ≡ Concat none
emptied_at [] rules id body off is = absurd (cc is)
emptied_at (mark ∷ marks) [] id body off is = absurd (cc is)
emptied_at (mark ∷ marks) (rule ∷ rules) zero body off is =
    let no : mark ≡ false = off in
    let first : kept_element mark rule.body ≡ body = cc is in
    sym first ∙ ap (λ (b : Bool). kept_element b rule.body) no
emptied_at (mark ∷ marks) (rule ∷ rules) (suc id) body off is = emptied_at marks rules id body off is

pub reached_kept : (rules : List Rule) (judged : ℕ) (marks : List Bool) → IsSound rules judged
    → AreMarks (Reachable rules judged) (length rules) marks → AreReachedOf rules judged (rules_kept marks rules)
reached_kept rules judged marks sound are = record {
  count = length_kept marks rules are.count_is;
  ids = λ name. ids_kept marks rules name are.count_is;
  reached = λ id r. kept_at marks rules id ((are.exact id (sound.defined id r)).1 r);
  others = λ id body is. by id body is (get_or marks id false) refl;
}
  where
    by : (id : ℕ) (body : Element) → slice_get (bodies (rules_kept marks rules)) id ≡ Some body → (b : Bool)
        → get_or marks id false ≡ b → Reachable rules judged id ⊎ (body ≡ Concat none)
    by id body is true on =
        let lt = slice_get_within (bodies (rules_kept marks rules)) id body is in
        let size = length-map (rules_kept marks rules) (λ (rule : Rule). rule.body) in
        let same = length_kept marks rules are.count_is in
        inl ((are.exact id (omega (arith, lt, size, same))).0 on)
    by id body is false off = inr (emptied_at marks rules id body off is)

-- what is derived by rules whose names lead to the same bodies
module _ (has : ℕ → Bool) (old new : List Rule) (P : List ℕ → Type 0)
    (same : (n : List ℕ) (el : Element) → P n → body_of old n ≡ Some el
    → (body_of new n ≡ Some el) × ((m : List ℕ) → Within el (Name m) → P m)) where
  mutual
    derives_still : {el : Element} {w : List ℕ} → Derives has old el w → ((m : List ℕ) → Within el (Name m) → P m)
        → Derives has new el w
    derives_still (d.text s) names = d.text s
    derives_still (d.values l) names = d.values l
    derives_still (d.range l h is) names = d.range l h is
    derives_still (d.concat all) names = d.concat (all_carried all (λ m h. names m (of_concat h)))
    derives_still (d.alt some) names = d.alt (some_carried some (λ m h. names m (of_alt h)))
    derives_still (d.rep l most times) names = d.rep l most (times_carried times (λ m h. names m (of_rep h)))
    derives_still d.opt_empty names = d.opt_empty
    derives_still (d.opt one) names = d.opt (derives_still one (λ m h. names m (of_opt h)))
    derives_still (d.name {n = n} {e = el} is one) names =
        let there = same n el (names n itself) is in
        d.name there.0 (derives_still one there.1)

    all_carried : {es : Elements} {w : List ℕ} → DerivesAll has old es w
        → ((m : List ℕ) → WithinSome es (Name m) → P m) → DerivesAll has new es w
    all_carried d.all_done names = d.all_done
    all_carried (d.then one rest) names =
        d.then (derives_still one (λ m h. names m (of_first h))) (all_carried rest (λ m h. names m (of_later h)))

    some_carried : {es : Elements} {w : List ℕ} → DerivesSome has old es w
        → ((m : List ℕ) → WithinSome es (Name m) → P m) → DerivesSome has new es w
    some_carried (d.this one) names = d.this (derives_still one (λ m h. names m (of_first h)))
    some_carried (d.later some) names = d.later (some_carried some (λ m h. names m (of_later h)))

    times_carried : {el : Element} {k : ℕ} {w : List ℕ} → DerivesTimes has old el k w
        → ((m : List ℕ) → Within el (Name m) → P m) → DerivesTimes has new el k w
    times_carried d.no_more names = d.no_more
    times_carried (d.one_more one rest) names = d.one_more (derives_still one names) (times_carried rest names)

module _ (rules : List Rule) (judged : ℕ) (kept : List Rule) (are : AreReachedOf rules judged kept) where
  reach_back : {id : ℕ} → Reachable kept judged id → Reachable rules judged id
  reach_back judged_rule = judged_rule
  reach_back (by_name {id = id} {body = body} {name = name} r at within) =
      let back = reach_back r in
      subst (λ v. Reachable rules judged v) (sym (are.ids name))
      (by_name back (sym (are.reached id back) ∙ at) within)

  pub reached_sound : IsSound rules judged → IsSound kept judged
  reached_sound sound = record {
    judged_is_rule = (let lt = sound.judged_is_rule in let same = are.count in omega (arith, lt, same));
    defined = λ id r. let lt = sound.defined id (reach_back r) in let same = are.count in omega (arith, lt, same);
    plain = λ id body text r at within.
        let back = reach_back r in sound.plain id body text back (sym (are.reached id back) ∙ at) within;
  }

  abbrev IsNamed : List ℕ → Type 0
  IsNamed name = Reachable rules judged (id_of rules name)

  body_kept : (n : List ℕ) → IsNamed n → body_of kept n ≡ body_of rules n
  body_kept n r =
      body_at_id kept n ∙ ap (λ (k : ℕ). slice_get (bodies kept) k) (are.ids n) ∙ are.reached (id_of rules n) r
      ∙ sym (body_at_id rules n)

  names_in : (n : List ℕ) (el : Element) → IsNamed n → body_of rules n ≡ Some el → (m : List ℕ)
      → Within el (Name m) → IsNamed m
  names_in n el r is m within = by_name r (sym (body_at_id rules n) ∙ is) within

  pub reached_derives : (has : ℕ → Bool) (w : List ℕ) → RuleDerives has kept judged w ↔ RuleDerives has rules judged w
  reached_derives has w = (
    λ derives. record {
      body = derives.body;
      is = sym (are.reached judged judged_rule) ∙ derives.is;
      derives = derives_still has kept rules IsNamed
          (λ n el r is. (sym (body_kept n r) ∙ is, names_in n el r (sym (body_kept n r) ∙ is))) derives.derives
          (λ m within. by_name judged_rule (sym (are.reached judged judged_rule) ∙ derives.is) within);
    },
    λ derives. record {
      body = derives.body;
      is = are.reached judged judged_rule ∙ derives.is;
      derives = derives_still has rules kept IsNamed (λ n el r is. (body_kept n r ∙ is, names_in n el r is))
          derives.derives
          (λ m within. by_name judged_rule derives.is within);
    },
  )

-- a grammar and that of the rules which its judged one reaches
pub lines_reached : (g kept : Grammar) → IsReachedGrammar g kept → (has : ℕ → Bool) (w : List ℕ)
    → RuleDerives has (rules_of kept.rules) kept.judged w ↔ RuleDerives has (rules_of g.rules) g.judged w
lines_reached g kept is has w =
    subst (λ (j : ℕ). RuleDerives has (rules_of kept.rules) j w ↔ RuleDerives has (rules_of g.rules) g.judged w)
    (sym is.judged) (reached_derives (rules_of g.rules) g.judged (rules_of kept.rules) is.rules has w)
