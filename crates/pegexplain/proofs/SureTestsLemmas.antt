-- The tests by marks say which expressions fail nowhere.
-- Serves: peg_hints
use Rattle.std.proofs.Common.{◌≡◌, ◌||◌, ℕ, Bool, true, false, List, [], ◌∷◌, Option, Some, None, refl, sym, ap, subst}
use Rattle.std.proofs.Common.{◌∙◌, arith}
use Rattle.std.proofs.lemmas.List.{length-map}
use Rattle.ruletable.specs.Rules as table
use Rattle.ruletable.specs.Rules.{find_in}
use Rattle.ruletable.specs.declared.table.NameCase.TheVariants.{Exact}
use Rattle.fixpoint.specs.NumberMarks.{IsMarked}
use Rattle.fixpoint.proofs.IsMarkedLemmas.{marked_lt}
use Rattle.pegread.specs.Pattern.{Pattern, Patterns, Any, Bytes, Set, Name, Seq, Choice, Star, Plus, Opt, And, Not, Act}
use Rattle.pegread.specs.Pattern.{Open, Close, none, more, Rule, body_of}
use Rattle.pegread.specs.PegViews.{rule_of, rules_of}
use Rattle.pegread.specs.declared.expr.Expr.{Expr}
use Rattle.pegnodes.specs.Nodes.{id_of}
use Rattle.pegnodes.proofs.OwnIdLemmas.{body_at_id, body_there}
use Rattle.pegnodes.proofs.PushCasesLemmas.{mapped_from}
use Rattle.gramcheck.specs.GrammarNotes.{AreMarks}
use Rattle.pegexplain.specs.FailsNowhere.{AllFailNowhere, FailsNowhere, SomeFailsNowhere, sure_act, sure_and}
use Rattle.pegexplain.specs.FailsNowhere.{sure_bytes}
use Rattle.pegexplain.specs.FailsNowhere.{sure_choice, sure_close, sure_first, sure_later, sure_more, sure_name}
use Rattle.pegexplain.specs.FailsNowhere.{sure_none, sure_open, sure_opt, sure_plus, sure_seq, sure_star}
use Rattle.pegexplain.specs.NullTests.{mark_with, null_mark_of}
use Rattle.pegexplain.specs.SureNodes.{all_sure_by, some_sure_by, sure_by}
use Rattle.pegexplain.proofs.NullTestsLemmas.{both-true, is-id, one-of, true-both}

module _ (rules : table.Rules Expr) (marks : List Bool) (exact : rules.names ≡ Exact)
    (are : AreMarks (λ rule. FailsNowhere (rules_of rules) rule.body) (rules_of rules) marks) where
  abbrev may_be : List ℕ → Bool
  may_be = null_mark_of rules marks

  marked-sure : (name : List ℕ) → IsMarked marks (id_of (rules_of rules) name)
      → FailsNowhere (rules_of rules) (Name name)
  marked-sure name h =
      let lt = marked_lt marks (id_of (rules_of rules) name) h in
      let count = are.count in
      let b = body_there (rules_of rules) name (omega (arith, lt, count)) in
      let rule = mapped_from (λ (r : Rule). r.body) (rules_of rules) (id_of (rules_of rules) name) b.0 b.2 in
      sure_name b.1 (subst (λ e. FailsNowhere (rules_of rules) e) rule.2
      ((are.exact (id_of (rules_of rules) name) rule.0 rule.1).0 h))

  sure-marked : (name : List ℕ) (e : Pattern) → body_of (rules_of rules) name ≡ Some e → FailsNowhere (rules_of rules) e
      → IsMarked marks (id_of (rules_of rules) name)
  sure-marked name e is h =
      let at = sym (body_at_id (rules_of rules) name) ∙ is in
      let rule = mapped_from (λ (r : Rule). r.body) (rules_of rules) (id_of (rules_of rules) name) e at in
      (are.exact (id_of (rules_of rules) name) rule.0 rule.1).1
      (subst (λ d. FailsNowhere (rules_of rules) d) (sym rule.2) h)

  name-sound : (name : List ℕ) (found : Option ℕ) → find_in rules name ≡ found → mark_with marks found ≡ true
      → FailsNowhere (rules_of rules) (Name name)
  name-sound name None is h = absurd (cc h)
  name-sound name (Some id) is h =
      marked-sure name (subst (λ k. IsMarked marks k) (is-id rules exact name (Some id) is) h)

  name-whole : (name : List ℕ) (found : Option ℕ) → find_in rules name ≡ found
      → IsMarked marks (id_of (rules_of rules) name) → mark_with marks found ≡ true
  name-whole name None is h =
      let lt = marked_lt marks (id_of (rules_of rules) name) h in
      let count = are.count in
      let all = length-map rules.rules rule_of in
      let past = is-id rules exact name None is in
      absurd (omega (arith, lt, count, all, past))
  name-whole name (Some id) is h = subst (λ k. IsMarked marks k) (sym (is-id rules exact name (Some id) is)) h

  mutual
    pub sure-reported : (e : Pattern) → sure_by may_be e ≡ true → FailsNowhere (rules_of rules) e
    sure-reported Any h = absurd (cc h)
    sure-reported (Bytes []) h = sure_bytes
    sure-reported (Bytes (b ∷ bs)) h = absurd (cc h)
    sure-reported (Set test) h = absurd (cc h)
    sure-reported (Name name) h = name-sound name (find_in rules name) refl h
    sure-reported (Seq es) h = sure_seq (all-reported es h)
    sure-reported (Choice es) h = sure_choice (some-reported es h)
    sure-reported (Star e) h = sure_star
    sure-reported (Plus e) h = sure_plus (sure-reported e h)
    sure-reported (Opt e) h = sure_opt
    sure-reported (And e) h = sure_and (sure-reported e h)
    sure-reported (Not e) h = absurd (cc h)
    sure-reported (Act template) h = sure_act
    sure-reported Open h = sure_open
    sure-reported Close h = sure_close

    all-reported : (es : Patterns) → all_sure_by may_be es ≡ true → AllFailNowhere (rules_of rules) es
    all-reported none h = sure_none
    all-reported (more e es) h =
        let b = both-true (sure_by may_be e) (all_sure_by may_be es) h in
        sure_more (sure-reported e b.0) (all-reported es b.1)

    some-reported : (es : Patterns) → some_sure_by may_be es ≡ true → SomeFailsNowhere (rules_of rules) es
    some-reported none h = absurd (cc h)
    some-reported (more e es) h = one-of (sure_by may_be e) (some_sure_by may_be es) h
        (λ yes. sure_first (sure-reported e yes)) (λ yes. sure_later (some-reported es yes))

  mutual
    pub reported-sure : {e : Pattern} → FailsNowhere (rules_of rules) e → sure_by may_be e ≡ true
    reported-sure sure_bytes = refl
    reported-sure sure_act = refl
    reported-sure sure_open = refl
    reported-sure sure_close = refl
    reported-sure sure_opt = refl
    reported-sure sure_star = refl
    reported-sure (sure_plus h) = reported-sure h
    reported-sure (sure_and h) = reported-sure h
    reported-sure (sure_seq h) = reported-all h
    reported-sure (sure_choice h) = reported-some h
    reported-sure (sure_name {n} {e} is h) = name-whole n (find_in rules n) refl (sure-marked n e is h)

    reported-all : {es : Patterns} → AllFailNowhere (rules_of rules) es → all_sure_by may_be es ≡ true
    reported-all sure_none = refl
    reported-all (sure_more h hs) = true-both _ _ (reported-sure h) (reported-all hs)

    reported-some : {es : Patterns} → SomeFailsNowhere (rules_of rules) es → some_sure_by may_be es ≡ true
    reported-some (sure_first {e} {es} h) = ap (λ b. b || some_sure_by may_be es) (reported-sure h)
    reported-some (sure_later {e} {es} h) = later (sure_by may_be e) (reported-some h)
      where
        later : (b : Bool) → some_sure_by may_be es ≡ true → b || some_sure_by may_be es ≡ true
        later true k = refl
        later false k = k
