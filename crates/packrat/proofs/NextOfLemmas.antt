-- What a task asks for next is led to, fresh, and as its list has it.
-- Serves: Packrat::match_unit
use Rattle.std.proofs.Common.{◌≡◌, ◌⊎◌, inl, inr, ℕ, zero, suc, ◌<◌, Bool, List, [], ◌∷◌, ◌++◌}
use Rattle.std.proofs.Common.{length, Some, refl, sym, subst, arith}
use Rattle.std.specs.Prelude.{slice_get}
use Rattle.pegread.specs.Pattern.{Rule}
use Rattle.pegnodes.specs.Nodes.{Shape}
use Rattle.gramcheck.specs.Sound.{IsRanked}
use Rattle.pegnodes.specs.KeyMarks.{AreMarks}
use Rattle.memo.specs.Parts.{IsIn, in_here, in_later, Reach, IsForest}
use Rattle.memo.specs.declared.task.MatchTask.{MatchTask}
use Rattle.memo.specs.declared.task.MatchTask.TheVariants.{Eval, Tail}
use Rattle.pegnodes.specs.NodeWays.{Way, Leaf, Body, Members, Alternatives, Iterations, Operand, way_of}
use Rattle.packrat.specs.MatchTasks.{LeadsBy, TailLeadsBy}
use Rattle.packrat.specs.MatchTasks.{Leads, KidsBy, TailKidsBy, Kids, is_key}
use Rattle.packrat.proofs.AreImpliedLemmas.{is_forest}
use Rattle.packrat.proofs.TaskKidsLemmas.{one_in}
use Rattle.packrat.specs.MachineSteps.{IsNext}
use Rattle.packrat.specs.TaskSteps.{FirstBy, TailFirstBy, IsFirst, NextOf, next_first, next_second}
use Rattle.packrat.proofs.GoodLemmas.{not_in, first_fresh}

module _ (rules : List Rule) (start : ℕ) (nodes : List Shape) (bodies ranks x : List ℕ) (more : Bool)
    (sound : IsRanked rules start nodes bodies ranks) (root : ℕ) (is_root : slice_get bodies start ≡ Some root)
    (marks : ℕ → Bool) (tails : ℕ → ℕ → Bool) (are : AreMarks start nodes bodies marks tails) where
  abbrev K : MatchTask → List MatchTask → Type 0
  K a ks = Kids rules nodes bodies x a ks

  abbrev L : MatchTask → MatchTask → Type 0
  L a b = Leads rules nodes bodies x a b

  abbrev F : MatchTask → MatchTask → Type 0
  F a b = IsFirst rules nodes bodies x a b

  -- none, one or two
  abbrev Form : (MatchTask → Type 0) → List MatchTask → Type 0
  Form P ks = (ks ≡ []) ⊎ (((k : MatchTask) × P k × (ks ≡ k ∷ []))
      ⊎ ((j : MatchTask) × (k : MatchTask) × P j × (ks ≡ j ∷ (k ∷ []))))

  form_by : (w : Way) (n p : ℕ) (ks : List MatchTask) → KidsBy rules nodes bodies x w n p ks
      → Form (FirstBy rules nodes bodies x w n p) ks
  form_by Leaf n p ks k = inl k
  form_by (Body id) n p ks k = inr (inl (Eval k.0 p, (k.0, k.1, refl), k.2))
  form_by (Members ms) n p ks k = elim k [
    | inl e ↦ inl e.1
    | inr e ↦ inr (inl (Tail n zero p, (e.0, e.1, refl), e.2))
  ]
  form_by (Alternatives ms) n p ks k = elim k [
    | inl e ↦ inl e.1
    | inr e ↦ inr (inl (Tail n zero p, (e.0, e.1, refl), e.2))
  ]
  form_by (Iterations k s) n p ks h = elim h [
    | inl e ↦ inr (inl (Eval k p, refl, e.1))
    | inr e ↦ inr (inr (Eval k p, Eval s e.0, refl, e.2))
  ]
  form_by (Operand k) n p ks h = inr (inl (Eval k p, refl, h))

  rest_form_by : (w : Way) (n i p : ℕ) (ks : List MatchTask) → TailKidsBy rules nodes bodies x w n i p ks
      → Form (TailFirstBy rules nodes bodies x w n i p) ks
  rest_form_by Leaf n i p ks k = absurd k
  rest_form_by (Body id) n i p ks k = absurd k
  rest_form_by (Members ms) n i p ks k = elim k.2 [
    | inl e ↦ inr (inl (Eval k.0 p, (k.0, k.1, refl), e.1))
    | inr e ↦ inr (inr (Eval k.0 p, Tail n (suc i) e.1, (k.0, k.1, refl), e.4))
  ]
  rest_form_by (Alternatives ms) n i p ks k = elim k.2 [
    | inl e ↦ inr (inl (Eval k.0 p, (k.0, k.1, refl), e.1))
    | inr e ↦ inr (inr (Eval k.0 p, Tail n (suc i) p, (k.0, k.1, refl), e.3))
  ]
  rest_form_by (Iterations k s) n i p ks h = absurd h
  rest_form_by (Operand k) n i p ks h = absurd h

  form_as : (P Q : MatchTask → Type 0) (ks : List MatchTask) → ((a : MatchTask) → P a → Q a) → Form P ks → Form Q ks
  form_as P Q ks f (inl e) = inl e
  form_as P Q ks f (inr (inl (k, h, e))) = inr (inl (k, f k h, e))
  form_as P Q ks f (inr (inr (j, k, h, e))) = inr (inr (j, k, f j h, e))

  form_of : (a : MatchTask) (ks : List MatchTask) → K a ks → Form (F a) ks
  form_of (Eval n p) ks k =
      form_as (FirstBy rules nodes bodies x (way_of n k.0) n p) (F (Eval n p)) ks (λ b h. (k.0, k.1, h))
      (form_by (way_of n k.0) n p ks k.2)
  form_of (Tail n i p) ks k =
      form_as (TailFirstBy rules nodes bodies x (way_of n k.0) n i p) (F (Tail n i p)) ks (λ b h. (k.0, k.1, h))
      (rest_form_by (way_of n k.0) n i p ks k.2)

  first_leads_by : (w : Way) (n p : ℕ) (b : MatchTask) → FirstBy rules nodes bodies x w n p b
      → LeadsBy rules nodes bodies x w n p b
  first_leads_by Leaf n p b h = absurd h
  first_leads_by (Body id) n p b h = h
  first_leads_by (Members ms) n p b h = h
  first_leads_by (Alternatives ms) n p b h = h
  first_leads_by (Iterations k s) n p b h = inl h
  first_leads_by (Operand k) n p b h = h

  rest_leads_by : (w : Way) (n i p : ℕ) (b : MatchTask) → TailFirstBy rules nodes bodies x w n i p b
      → TailLeadsBy rules nodes bodies x w n i p b
  rest_leads_by Leaf n i p b h = absurd h
  rest_leads_by (Body id) n i p b h = absurd h
  rest_leads_by (Members ms) n i p b h = (h.0, h.1, inl h.2)
  rest_leads_by (Alternatives ms) n i p b h = (h.0, h.1, inl h.2)
  rest_leads_by (Iterations k s) n i p b h = absurd h
  rest_leads_by (Operand k) n i p b h = absurd h

  first_leads : (a b : MatchTask) → F a b → L a b
  first_leads (Eval n p) b h = (h.0, h.1, first_leads_by (way_of n h.0) n p b h.2)
  first_leads (Tail n i p) b h = (h.0, h.1, rest_leads_by (way_of n h.0) n i p b h.2)

  abbrev N : MatchTask → List MatchTask → MatchTask → Type 0
  N a asked k = NextOf rules nodes bodies x a asked k

  pub forest_of : IsForest MatchTask L (Eval root 0) K (is_key marks tails)
  forest_of = is_forest rules start nodes bodies ranks x more sound root is_root marks tails are

  next_leads : {a k : MatchTask} {asked : List MatchTask} → N a asked k → L a k
  next_leads {a = a} {k = k} (next_first h) = first_leads a k h
  next_leads {a = a} (next_second {j = j} {k = k} h) = forest_of.leads a k (j ∷ (k ∷ [])) h (in_later in_here)

  next_fresh : {a k : MatchTask} {asked : List MatchTask} → Reach MatchTask L (Eval root 0) a → N a asked k
      → IsIn k asked → ⊥
  next_fresh r (next_first h) i = not_in i
  next_fresh {a = a} r (next_second {j = j} {k = k} h) i =
      first_fresh (forest_of.distinct a (j ∷ (k ∷ [])) r h)
      (subst (λ v. IsIn v (k ∷ [])) (one_in i) in_here)

  next_two : {a k : MatchTask} {asked : List MatchTask} → N a asked k → length asked < 2
  next_two (next_first h) = omega arith
  next_two (next_second h) = omega arith

  next_form : (a k : MatchTask) (asked more : List MatchTask) → K a (asked ++ k ∷ more) → Form (F a) (asked ++ k ∷ more)
      → N a asked k
  next_form a k [] more h (inl e) = absurd (cc e)
  next_form a k [] more h (inr (inl (c, f, e))) = let is : k ≡ c = cc e in next_first (subst (F a) (sym is) f)
  next_form a k [] more h (inr (inr (c, d, f, e))) = let is : k ≡ c = cc e in next_first (subst (F a) (sym is) f)
  next_form a k (b ∷ []) more h (inl e) = absurd (cc e)
  next_form a k (b ∷ []) more h (inr (inl (c, f, e))) = absurd (cc e)
  next_form a k (b ∷ []) more h (inr (inr (c, d, f, e))) =
      let none : more ≡ [] = cc e in
      next_second (subst (λ v. K a (b ∷ (k ∷ v))) none h)
  next_form a k (b ∷ (l ∷ [])) more h (inl e) = absurd (cc e)
  next_form a k (b ∷ (l ∷ [])) more h (inr (inl (c, f, e))) = absurd (cc e)
  next_form a k (b ∷ (l ∷ [])) more h (inr (inr (c, d, f, e))) = absurd (cc e)
  next_form a k (b ∷ (l ∷ (o ∷ asked))) more h (inl e) = absurd (cc e)
  next_form a k (b ∷ (l ∷ (o ∷ asked))) more h (inr (inl (c, f, e))) = absurd (cc e)
  next_form a k (b ∷ (l ∷ (o ∷ asked))) more h (inr (inr (c, d, f, e))) = absurd (cc e)

  pub is_next : IsNext MatchTask L (Eval root 0) K N
  is_next = record {
    leads = λ a k asked n. next_leads n;
    fresh = λ a k asked r n i. next_fresh r n i;
    two = λ a k asked n. next_two n;
    all = λ a k asked more h. next_form a k asked more h (form_of a (asked ++ k ∷ more) h);
  }
