-- The values among rules.
-- Serves: are_values
use Rattle.std.proofs.Common.{◌≡◌, ◌⊎◌, ◌↔◌, ℕ, zero, suc, ◌+◌, ◌<◌, ◌≤◌, ◌||◌, not, Bool, true, false, List, [], ◌∷◌}
use Rattle.std.proofs.Common.{◌++◌}
use Rattle.std.proofs.Common.{length, map, drop, get_or, slice_get, Some, refl, sym, ap, ◌∙◌, arith, inl, inr}
use Rattle.std.proofs.Common.{append-nil}
use Rattle.std.proofs.Common.{append_assoc, true≢false}
use Rattle.std.specs.Prelude.{slice_index_or}
use Rattle.std.proofs.Math.Seq.{drop-cons}
use Rattle.std.proofs.lemmas.Bool.{cases_Bool}
use Rattle.std.proofs.lemmas.List.{at_drop_all, length-map}
use Rattle.fixpoint.specs.NumberMarks.{IsMarked}
use Rattle.rfcvalues.specs.AssignedValues.{AreValueMarks, IsRuleGrounded, IsValue}
use Rattle.rfcvalues.specs.GroundedNeeds.{AreGroundedMarks, assigns_value, value_marks}
use Rattle.rfcvalues.specs.RuleSketches.{SketchedRule, rule_sketched}
use Rattle.rfcvalues.specs.declared.sketch.RuleSketch.{RuleSketch}

marks-size : (rules : List SketchedRule) (grounded : List Bool) → length (value_marks rules grounded) ≡ length rules
marks-size [] grounded = refl
marks-size (rule ∷ rules) grounded = ap suc (marks-size rules (drop 1 grounded))

mark-dropped : (grounded : List Bool) (n : ℕ)
    → slice_index_or (drop 1 grounded) n false ≡ slice_index_or grounded (suc n) false
mark-dropped [] n = refl
mark-dropped (g ∷ gs) n = refl

mark-at : (rules : List SketchedRule) (grounded : List Bool) (n : ℕ) (rule : SketchedRule)
    → slice_get rules n ≡ Some rule → slice_index_or (value_marks rules grounded) n false
    ≡ assigns_value (slice_index_or grounded n false) rule
mark-at [] grounded n rule e = absurd (cc e)
mark-at (r ∷ rules) grounded zero rule e =
    let same : r ≡ rule = cc e in ap (assigns_value (slice_index_or grounded 0 false)) same
mark-at (r ∷ rules) grounded (suc n) rule e =
    mark-at rules (drop 1 grounded) n rule e
    ∙ ap (λ (g : Bool). assigns_value g rule) (mark-dropped grounded n)

or-right : (a b : Bool) → b ≡ true → (a || b) ≡ true
or-right true b e = refl
or-right false b e = e

pub marks-values : (rules : List SketchedRule) (grounded : List Bool) → AreGroundedMarks rules grounded
    → AreValueMarks rules (value_marks rules grounded)
marks-values rules grounded are = record {
  count = marks-size rules grounded;
  values = λ n rule e.
      let at = mark-at rules grounded n rule e in
      let is = are.grounded n rule e in (
        λ marked. to n (slice_index_or grounded n false) refl rule (sym at ∙ marked) is,
        λ value. at ∙ from n (slice_index_or grounded n false) refl rule value is,
      );
}
  where
    to : (n : ℕ) (g : Bool) → slice_index_or grounded n false ≡ g → (rule : SketchedRule)
        → assigns_value g rule ≡ true → IsMarked grounded n ↔ IsRuleGrounded rules rule → IsValue rules rule
    to n true e rule t is = inr t
    to n false e rule t is = inl (λ h. true≢false (sym (is.1 h) ∙ e))

    from : (n : ℕ) (g : Bool) → slice_index_or grounded n false ≡ g → (rule : SketchedRule) → IsValue rules rule
        → IsMarked grounded n ↔ IsRuleGrounded rules rule → assigns_value g rule ≡ true
    from n g e rule (inr t) is = or-right (not g) (rule.is_statement || rule.is_compact) t
    from n true e rule (inl not_so) is = absurd (not_so (is.0 e))
    from n false e rule (inl not_so) is = refl

-- one mark more
pub values-more : (rules : List RuleSketch) (i : ℕ) (d : RuleSketch) (left : List Bool) (old new rest : List Bool)
    (g : Bool) (all : List Bool) → i < length rules → d ≡ get_or rules i d
    → old ++ value_marks (map rule_sketched (drop i rules)) left ≡ all
    → g ≡ slice_index_or left 0 false → rest ≡ drop 1 left
    → new ≡ old ++ assigns_value g (rule_sketched d) ∷ []
    → new ++ value_marks (map rule_sketched (drop (i + 1) rules)) rest ≡ all
values-more rules i d left old new rest g all lt is so_far first others pushed =
    let next : suc i ≡ i + 1 = omega arith in
    let here : drop i rules ≡ d ∷ drop (i + 1) rules =
    drop-cons rules i d lt ∙ ap (λ (k : ℕ). get_or rules i d ∷ drop k rules) next
    ∙ ap (λ (r : RuleSketch). r ∷ drop (i + 1) rules) (sym is) in
    let rows = map rule_sketched (drop (i + 1) rules) in
    ap (λ (ms : List Bool). ms ++ value_marks rows rest) pushed
    ∙ append_assoc old (assigns_value g (rule_sketched d) ∷ []) (value_marks rows rest)
    ∙ ap (λ (b : Bool). old ++ (assigns_value b (rule_sketched d) ∷ value_marks rows rest)) first
    ∙ ap (λ (bs : List Bool). old ++ (assigns_value (slice_index_or left 0 false) (rule_sketched d)
    ∷ value_marks rows bs)) others
    ∙ ap (λ (rs : List RuleSketch). old ++ value_marks (map rule_sketched rs) left) (sym here) ∙ so_far

pub values-all : (rules : List RuleSketch) (i : ℕ) (left found all : List Bool) → length rules ≤ i
    → found ++ value_marks (map rule_sketched (drop i rules)) left ≡ all → found ≡ all
values-all rules i left found all le e =
    sym (append-nil found)
    ∙ ap (λ (rs : List RuleSketch). found ++ value_marks (map rule_sketched rs) left)
    (sym (at_drop_all (λ xs. xs) rules i le)) ∙ e
