-- The flat grammar derives a line exactly if the rule does.
-- Serves: items_decide, lower, judge.
use Rattle.std.proofs.Common.{◌≡◌, ℕ, ◌≤◌, List, [], ◌∷◌, length, refl, sym, subst, ◌↔◌, append-nil}
use Rattle.std.specs.Prelude.{Bool}
use Rattle.abnfread.specs.Element as e
use Rattle.abnfread.specs.Element.{Element, Rule}
use Rattle.abnfcheck.specs.Derivable.{AreLetters, Derives, DerivesAll, all_done, then, RuleDerives}
use Rattle.flatgrammar.specs.Flat.{Flat, Concat, at, Calling, Begins, starts, calls}
use Rattle.flatgrammar.specs.Holds.{Holds, begins}
use Rattle.lowering.specs.Lowered.{Spells, shows_concat, spell_none, spell_more, IsLowered}
use Rattle.lowering.proofs.RuleNodeLemmas.{node_of_rule}
use Rattle.abnfcheck.proofs.LiesLemmas.{lies_one_word, all_of}
use Rattle.lowering.proofs.BeforeLemmas.{Before, in_concat}
use Rattle.lowering.proofs.ReachedLemmas.{holds_reached}
use Rattle.lowering.proofs.NodeRunsLemmas.{node_runs, call_step, plain_node}

module _ (has : ℕ → Bool) (rules : List Rule) (judged : ℕ) (flat : Flat) (lowered : IsLowered rules judged flat)
    (x : List ℕ) (line : length x ≤ flat.limit) where
  before_end : (ms : List ℕ) (el : Element) (w : List ℕ)
      → Before has rules (Concat ms) (e.Concat (e.more el e.none)) 1 w
      → Derives has rules el w
  before_end ms el w (in_concat d) = one d
    where
      one : {w : List ℕ} → DerivesAll has rules (e.more el e.none) w → Derives has rules el w
      one (then {w = w} d all_done) = subst (λ v. Derives has rules el v) (sym (append-nil w)) d

  pub rule_derived : AreLetters has x → Holds flat x (length x) (at flat.start 1) 0 → RuleDerives has rules judged x
  rule_derived letters h =
      let body = lowered.spelled.spelled judged lowered.body lowered.body_is in
      let reached = holds_reached has rules flat.limit flat lowered.spelled x letters line h in
      let part = reached.part (Concat (lowered.body ∷ [])) (e.Concat (e.more body.0 e.none)) lowered.whole
      (shows_concat (spell_more body.2 spell_none)) in
      let d = before_end (lowered.body ∷ []) body.0 reached.word part in
      record {
        body = body.0;
        is = body.1;
        derives = subst (λ v. Derives has rules body.0 v) (lies_one_word x reached.lies
            (all_of x)) d;
      }

  pub whole_holds : RuleDerives has rules judged x → Holds flat x (length x) (at flat.start 1) 0
  whole_holds d =
      let h = node_of_rule rules flat.limit flat.nodes flat.bodies lowered.spelled judged d.body d.is in
      let same : h.node ≡ lowered.body = cc (h.at, lowered.body_is) in
      call_step has rules flat.limit flat lowered.spelled x line (calls lowered.whole (Calling.member refl))
      (plain_node has rules flat.limit flat lowered.spelled x line lowered.whole (λ t. elim t [ ]))
      (node_runs has rules flat.limit flat lowered.spelled x line d.derives lowered.body 0 (length x)
      (subst (λ v. Spells rules flat.limit flat.nodes v d.body) same h.spelled) (all_of x))
      0 (begins (starts lowered.whole Begins.concat))

  pub derives_exactly : AreLetters has x → Holds flat x (length x) (at flat.start 1) 0 ↔ RuleDerives has rules judged x
  derives_exactly letters = (rule_derived letters, whole_holds)
