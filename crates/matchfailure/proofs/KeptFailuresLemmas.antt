-- The farthest failing comparisons so far, and those of a unit.
-- Serves: KeptFailures::add, note_stop, farthest_of.
use Rattle.std.proofs.Common.{◌≡◌, inl, inr, ◌↔◌, ℕ, zero, suc, ◌<◌, List, [], ◌∷◌, ◌++◌, length, Some, None}
use Rattle.std.proofs.Common.{refl, sym, ◌∙◌, subst, arith}
use Rattle.std.specs.Prelude.{slice_get}
use Rattle.gramcheck.specs.Grammar.{Grammar, IsSoundGrammar}
use Rattle.memo.specs.declared.found.Found.{Found}
use Rattle.memo.specs.declared.found.Found.TheVariants.{Failed, Took}
use Rattle.memo.specs.declared.task.MatchTask.TheVariants.{Eval}
use Rattle.pegmatch.proofs.NodeGivesLemmas.{gives_as}
use Rattle.pegnodes.proofs.AreCutsLemmas.{get_new}
use Rattle.pegnodes.specs.Nodes.{shapes_of}
use Rattle.pegread.specs.PegViews.{rules_of}
use Rattle.matchfailure.specs.FailureStates.{AreFailures, IsCovered, LeadsOn, leads_here, leads_later}
use Rattle.matchfailure.specs.FailureTasks.{NodeFinds}
use Rattle.matchfailure.specs.Farthest.{AsksOutside, FailsAt, IsFarthest, NoneFails, Outside, first_outside}
use Rattle.matchfailure.specs.Farthest.{asked_outside}
use Rattle.matchfailure.specs.KeptFailures.{AddsFailure, IsRecorded, IsRecordedBy}
use Rattle.matchfailure.specs.UnitEnds.{EndsSo, end_of_found}
use Rattle.matchfailure.specs.VisitLists.{Ascends, ListsVisit}
use Rattle.matchfailure.specs.declared.farthest.visit.Visit.{Visit}
use Rattle.matchfailure.specs.declared.tasks.kept.KeptFailures.{KeptFailures}
use Rattle.matchfailure.proofs.AddsVisitsLemmas.{get_kept, get_cases}

module _ (v : Visit) (f : ℕ) (old : KeptFailures) where
  module _ (new : KeptFailures) (is : new.position ≡ Some f) where
    one_listed : (w : Visit) (k : ℕ) → slice_get (v ∷ []) k ≡ Some w → w ≡ v
    one_listed w zero h = sym (cc h)
    one_listed w (suc k) h = absurd (cc h)

    pub adds_alone : ((n p h : ℕ) → IsRecorded old n p h → h < f) → new.visits.items ≡ v ∷ [] → AddsFailure v f old new
    adds_alone less items = record {
      recorded = rw (is, items) (inr (refl, (0, refl)));
      stays = λ n p h recorded. rw (is, items) (inl (less n p h recorded));
      only = λ w h. inr (one_listed w h.0 (subst (λ z. slice_get z h.0 ≡ Some w) items h.1), is);
      some = inl (rw items (0, refl));
    }

    pub adds_another : old.position ≡ Some f → new.visits.items ≡ old.visits.items ++ v ∷ [] → AddsFailure v f old new
    adds_another was items = record {
      recorded = rw (is, items) (inr (refl, (length old.visits.items, get_new old.visits.items v)));
      stays = λ n p h recorded. rw (is, items)
          (elim (subst (λ z. IsRecordedBy z old.visits.items n p h) was recorded) [
            | inl less ↦ inl less
            | inr there ↦ inr (
              there.0,
              (there.1.0, get_kept old.visits.items v (record { node = n; position = p }) there.1.0 there.1.1),
            )
          ]);
      only = λ w h. elim (get_cases old.visits.items v w h.0
          (subst (λ z. slice_get z h.0 ≡ Some w) items h.1)) [
            | inl there ↦ inl (is ∙ sym was, (h.0, there))
            | inr last ↦ inr (sym last.1, is)
          ];
      some = inl (rw items (length old.visits.items, get_new old.visits.items v));
    }

  pub none_less : old.position ≡ None → (n p h : ℕ) → IsRecorded old n p h → h < f
  none_less is n p h recorded = absurd (subst (λ z. IsRecordedBy z old.visits.items n p h) is recorded)

  pub far_less : (far : ℕ) → old.position ≡ Some far → far < f → (n p h : ℕ) → IsRecorded old n p h → h < f
  far_less far is lt n p h recorded = elim (subst (λ z. IsRecordedBy z old.visits.items n p h) is recorded) [
    | inl less ↦ omega (arith, less)
    | inr there ↦ let same = there.0 in omega (arith, same)
  ]

  pub adds_none : (far : ℕ) → old.position ≡ Some far → f < far → AddsFailure v f old old
  adds_none far is lt = record {
    recorded = rw is (inl lt);
    stays = λ n p h recorded. recorded;
    only = λ w h. inl (refl, h);
    some = inr (refl, refl);
  }

module _ (g : Grammar) (x : List ℕ) where
  pub failures_grow : (v : Visit) (f : ℕ) (old new : KeptFailures) → AddsFailure v f old new
      → FailsAt (rules_of g.rules) (shapes_of g.nodes) g.bodies x g.start v.node v.position f
      → AreFailures g x old → AreFailures g x new
  failures_grow v f old new adds fails failures = record {
    fail = λ w h. elim (adds.only w h) [
      | inl was ↦ let is = failures.fail w was.1 in (is.0, was.0 ∙ is.1, is.2)
      | inr own ↦ (
        f,
        own.1,
        subst (λ z. FailsAt (rules_of g.rules) (shapes_of g.nodes) g.bodies x g.start z.node z.position f)
            (sym own.0) fails,
      )
    ];
    some = λ h is. elim adds.some [
      | inl there ↦ (v, there)
      | inr same ↦ let was = failures.some h (sym same.0 ∙ is) in
          (was.0, subst (λ z. ListsVisit z was.0) (sym same.1) was.1)
    ];
  }

  -- what is asked for outside of `!` is led to
  leads_further : {n p m q k r : ℕ} → LeadsOn g x n p m q
      → AsksOutside (rules_of g.rules) (shapes_of g.nodes) g.bodies x m q k r → LeadsOn g x n p k r
  leads_further leads_here b = leads_later b leads_here
  leads_further (leads_later a l) b = leads_later a (leads_further l b)

  module _ (root : ℕ) (at : slice_get g.bodies g.start ≡ Some root) where
    outside_leads : {n p : ℕ} → Outside (rules_of g.rules) (shapes_of g.nodes) g.bodies x g.start n p
        → LeadsOn g x root 0 n p
    outside_leads (first_outside {n = n} h) =
        let same : root ≡ n = cc (at, h) in subst (λ v. LeadsOn g x root 0 v 0) same leads_here
    outside_leads (asked_outside o a) = leads_further (outside_leads o) a

    module _ (kept : KeptFailures) (failures : AreFailures g x kept) (covered : IsCovered g x kept (Eval root 0)) where
      all_recorded : (n p f : ℕ) → FailsAt (rules_of g.rules) (shapes_of g.nodes) g.bodies x g.start n p f
          → IsRecorded kept n p f
      all_recorded n p f h = covered n p f
          (record { node = root; position = 0; has = (refl, refl); leads = outside_leads h.0 }) h.1

      pub none_fails : kept.position ≡ None → NoneFails (rules_of g.rules) (shapes_of g.nodes) g.bodies x g.start
      none_fails is n p f h = absurd (subst (λ z. IsRecordedBy z kept.visits.items n p f) is (all_recorded n p f h))

      pub is_farthest : (f : ℕ) (expected : List Visit) → kept.position ≡ Some f → Ascends expected
          → ((v : Visit) → ListsVisit expected v ↔ ListsVisit kept.visits.items v)
          → IsFarthest (rules_of g.rules) (shapes_of g.nodes) g.bodies x g.start f expected
      is_farthest f expected is ordered same = record {
        some = let v = failures.some f is in (v.0.node, v.0.position, fails_there v.0 v.1);
        none_further = λ n p h fails. elim (recorded n p h fails) [
          | inl less ↦ omega (arith, less)
          | inr there ↦ let alike = there.0 in omega (arith, alike)
        ];
        ordered = ordered;
        exact = λ v. (
          λ h. fails_there v ((same v).0 h),
          λ fails. (same v).1 (elim (recorded v.node v.position f fails) [
            | inl less ↦ absurd (omega (arith, less))
            | inr there ↦ there.1
          ]),
        );
      }
        where
          recorded : (n p h : ℕ) → FailsAt (rules_of g.rules) (shapes_of g.nodes) g.bodies x g.start n p h
              → IsRecordedBy (Some f) kept.visits.items n p h
          recorded n p h fails = subst (λ z. IsRecordedBy z kept.visits.items n p h) is (all_recorded n p h fails)

          fails_there : (v : Visit) → ListsVisit kept.visits.items v
              → FailsAt (rules_of g.rules) (shapes_of g.nodes) g.bodies x g.start v.node v.position f
          fails_there v h =
              let there = failures.fail v h in
              let alike : there.0 ≡ f = cc (there.1, is) in
              subst (λ z. FailsAt (rules_of g.rules) (shapes_of g.nodes) g.bodies x g.start v.node v.position z)
              alike there.2

    pub ends_so : IsSoundGrammar g → (f : Found) → NodeFinds g x root 0 f
        → EndsSo (rules_of g.rules) g.start x (end_of_found f)
    ends_so sound Failed t =
        let there = sound.spelled.spelled g.start root at in
        record {
          events = [];
          looked = t.looked;
          gives = record {
            body = there.0;
            rule = there.1;
            gives = gives_as (rules_of g.rules) (shapes_of g.nodes) sound.defined g.bodies x there.2 t.gives;
          };
        }
    ends_so sound (Took q) t =
        let there = sound.spelled.spelled g.start root at in
        record {
          events = t.events;
          looked = t.looked;
          gives = record {
            body = there.0;
            rule = there.1;
            gives = gives_as (rules_of g.rules) (shapes_of g.nodes) sound.defined g.bodies x there.2 t.gives;
          };
        }
