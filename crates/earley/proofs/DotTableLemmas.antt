-- Tables of numbered dotted rules.
-- Serves: judge
use Rattle.std.proofs.Common.{◌≡◌, ◌⊎◌, inl, inr, ⊎_elim, ℕ, zero, suc, ◌+◌, ◌<◌, List, [], ◌∷◌, ◌++◌, length}
use Rattle.std.proofs.Common.{Some}
use Rattle.std.proofs.Common.{slice_get, slice_index_or, refl, sym, ap, subst, ◌∙◌, arith}
use Rattle.std.proofs.lemmas.Bool.{cases_lt}
use Rattle.flatgrammar.proofs.CallOfLemmas.{some_same}
use Rattle.flatgrammar.proofs.SliceGetLemmas.{push_cases}
use Rattle.flatgrammar.proofs.InLemmas.{in_left, at_end, before_end, different_end}
use Rattle.flatgrammar.specs.ItemClosures.{dot}
use Rattle.flatgrammar.specs.Positions.{In, AreDifferent}
use Rattle.flatgrammar.specs.declared.closure.DottedRule.{DottedRule}
use Rattle.flatgrammar.specs.declared.tables.Tables as code_flat
use Rattle.earley.specs.DotTables.{AreBelow, AreFirstPositions, IsCallTo, AreCallsBelow, IsStep, IsTargetAt, AreStarts}
use Rattle.earley.specs.DotTables.{AreStartsIf, IsReached}
use Rattle.earley.specs.declared.dot_table.Call.{Call}
use Rattle.earley.specs.declared.dot_table.Called.{Called}
use Rattle.earley.specs.declared.dot_table.TargetPositions.{TargetPositions}
use Rattle.earley.specs.declared.dot_table.DottedActions.{DottedActions}

-- different dotted rules, below a step of a node
pub record AreBelowStep (node step : ℕ) (dots : List DottedRule) : Type 0 where
  pub below : (p : DottedRule) → In p dots → (p.node < node) ⊎ ((p.node ≡ node) × (p.step < step))
  pub different : AreDifferent dots

pub below_step : (node : ℕ) (dots : List DottedRule) → AreBelow node dots → AreBelowStep node 0 dots
below_step node dots b = record { below = λ p h. inl (b.below p h); different = b.different }

pub below_next : (node step : ℕ) (dots : List DottedRule) → AreBelowStep node step dots
    → AreBelowStep node (step + 1) (dots ++ dot node step ∷ [])
below_next node step dots b = record {
  below = λ p h. ⊎_elim
      (λ g. ⊎_elim (λ f. inl f) (λ f. inr (f.0, (let lt = f.1 in omega (arith, lt)))) (b.below p g))
      (λ same. inr (ap (λ v. v.node) same, (let is : p.step ≡ step = ap (λ v. v.step) same in omega (arith, is))))
      (before_end p (dot node step) dots h);
  different = different_end (dot node step) dots
      (λ h. ⊎_elim {C = ⊥} (λ f. omega (arith, f)) (λ f. let lt = f.1 in omega (arith, lt)) (b.below (dot node step)
      h))
      b.different;
}

pub below_done : (node step : ℕ) (dots : List DottedRule) → AreBelowStep node step dots → AreBelow (node + 1) dots
below_done node step dots b = record {
  below = λ p h. ⊎_elim (λ f. omega (arith, f)) (λ f. let is = f.0 in omega (arith, is)) (b.below p h);
  different = b.different;
}

-- the dotted rules of one step more
pub first_none : (dots : List DottedRule) (node : ℕ) → AreFirstPositions dots node 0 []
first_none dots node = record {
  only = λ p h. nothing p h;
  all = λ k lt. absurd (omega (arith, lt));
}
  where
    nothing : {A : Type 0} (p : ℕ) → In p [] → A
    nothing p h = elim h [ ]

pub first_next : (dots : List DottedRule) (node k p : ℕ) (positions : List ℕ) → AreFirstPositions dots node k positions
    → slice_get dots p ≡ Some (dot node k) → AreFirstPositions dots node (k + 1) (positions ++ p ∷ [])
first_next dots node k p positions are is = record {
  only = λ q h. ⊎_elim (λ g. let o = are.only q g in let lt = o.1 in (o.0, omega (arith, lt), o.2))
      (λ same. (k, omega arith, ap (λ v. slice_get dots v) same ∙ is)) (before_end q p positions h);
  all = λ m lt. ⊎_elim (λ less. let o = are.all m less in (o.0, in_left (p ∷ []) o.1, o.2))
      (λ past. let same : m ≡ k = omega (arith, lt, past) in
      (p, at_end p positions, is ∙ ap (λ v. Some (dot node v)) (sym same)))
      (cases_lt m k);
}

-- one step more
pub steps_next : (flat : code_flat.Tables) (dots : List DottedRule) (steps : List DottedActions)
    (step : DottedActions) (now : DottedRule)
    → ((p : ℕ) (at : DottedRule) (s : DottedActions) → slice_get dots p ≡ Some at → slice_get steps p ≡ Some s
    → IsStep flat dots at s)
    → slice_get dots (length steps) ≡ Some now → IsStep flat dots now step
    → (p : ℕ) (at : DottedRule) (s : DottedActions) → slice_get dots p ≡ Some at
    → slice_get (steps ++ step ∷ []) p ≡ Some s
    → IsStep flat dots at s
steps_next flat dots steps step now each now_is reports p at s at_is is =
    ⊎_elim (λ was. each p at s at_is was)
    (λ h. let same : now ≡ at = some_same (sym now_is ∙ (ap (λ v. slice_get dots v) (sym h.0) ∙ at_is)) in
    subst (λ v. IsStep flat dots at v) h.1 (subst (λ v. IsStep flat dots v step) same reports))
    (push_cases steps step p s is)

-- one target more
pub targets_next : (flat : code_flat.Tables) (dots : List DottedRule) (steps : List DottedActions)
    (targets : List TargetPositions)
    (target : TargetPositions)
    → ((t : ℕ) (r : TargetPositions) → slice_get targets t ≡ Some r → IsTargetAt flat dots steps t r)
    → IsTargetAt flat dots steps (length targets) target
    → (t : ℕ) (r : TargetPositions) → slice_get (targets ++ target ∷ []) t ≡ Some r → IsTargetAt flat dots steps t r
targets_next flat dots steps targets target each reports t r is =
    ⊎_elim (λ was. each t r was)
    (λ h. subst (λ v. IsTargetAt flat dots steps t v) h.1 (subst (λ v. IsTargetAt flat dots steps v target) (sym h.0)
    reports))
    (push_cases targets target t r is)

-- one dotted rule more that may call
module _ (steps : List DottedActions) (target from : ℕ) (step : DottedActions) (is : slice_get steps from
    ≡ Some step) (calls : List Call)
    (are : AreCallsBelow steps target from calls) where
  pub calls_kept : (called : Called) → step.called ≡ Some called → called.target ≡ target
      → AreCallsBelow steps target (from + 1) (calls ++ record { from = from; after = called.after } ∷ [])
  calls_kept called called_is target_is = record {
    only = λ c h. ⊎_elim (λ g. are.only c g)
        (λ same. subst (λ v. IsCallTo steps target v) (sym same) (record {
          step = step;
          is = is;
          called = called;
          called_is = called_is;
          target_is = target_is;
          after = refl;
        }))
        (before_end c (record { from = from; after = called.after }) calls h);
    all = λ p s d lt s_is d_is d_target. ⊎_elim
        (λ less. let o = are.all p s d less s_is d_is d_target in (o.0, in_left _ o.1, o.2, o.3))
        (λ past. let same : p ≡ from = omega (arith, lt, past) in
        let one : s ≡ step = some_same (sym s_is ∙ (ap (λ v. slice_get steps v) same ∙ is)) in
        let two : d ≡ called = some_same (sym d_is ∙ (ap (λ v. v.called) one ∙ called_is)) in
        let c : Call = record { from = from; after = called.after } in
        (c, at_end c calls, sym same, ap (λ v. v.after) (sym two)))
        (cases_lt p from);
  }

  pub calls_left : ((called : Called) → step.called ≡ Some called → called.target ≡ target → ⊥)
      → AreCallsBelow steps target (from + 1) calls
  calls_left none = record {
    only = are.only;
    all = λ p s d lt s_is d_is d_target. ⊎_elim
        (λ less. are.all p s d less s_is d_is d_target)
        (λ past. let same : p ≡ from = omega (arith, lt, past) in
        let one : s ≡ step = some_same (sym s_is ∙ (ap (λ v. slice_get steps v) same ∙ is)) in
        absurd (none d (ap (λ v. v.called) (sym one) ∙ d_is) d_target))
        (cases_lt p from);
  }

-- an element by its index
pub get_or_index : {A : Type 0} (xs : List A) (i : ℕ) (d : A) → i < length xs
    → slice_get xs i ≡ Some (slice_index_or xs i d)
get_or_index [] i d lt = absurd (omega arith)
get_or_index (x ∷ xs) zero d lt = refl
get_or_index (x ∷ xs) (suc i) d lt = get_or_index xs i d (omega (arith, lt))

pub below_calls_none : (steps : List DottedActions) (target : ℕ) → AreCallsBelow steps target 0 []
below_calls_none steps target = record {
  only = λ c h. nothing c h;
  all = λ p s d lt. absurd (omega (arith, lt));
}
  where
    nothing : {A : Type 0} (c : Call) → In c [] → A
    nothing c h = elim h [ ]

-- the starts of a target that is reached
pub reached_starts : (flat : code_flat.Tables) (dots : List DottedRule) (steps : List DottedActions)
    (targets : List TargetPositions)
    (target : ℕ) (r : TargetPositions) → IsTargetAt flat dots steps target r → IsReached targets target
    → slice_get targets target ≡ Some r → AreStarts flat dots target r.starts.items
reached_starts flat dots steps targets target r reports reached is =
    subst (λ b. AreStartsIf b flat dots target r.starts.items) (reached r is) reports.starts
