-- What the marks of nodes say of rules.
-- Serves: check_peg, nullable_rules
use Rattle.std.proofs.Common.{◌≡◌, ℕ, Bool, false, List, length, map, get_or, sym, ap, arith, ◌∙◌, Some}
use Rattle.std.specs.Prelude.{slice_get}
use Rattle.std.proofs.lemmas.List.{get_or-map, length-map}
use Rattle.std.proofs.lemmas.Option.{slice_get_within, slice_get-get_or, get_or_from_slice_get}
use Rattle.pegread.specs.Pattern.{Rule}
use Rattle.gramcheck.specs.Analysis.{IsAnalysed}
use Rattle.gramcheck.specs.GrammarNotes.{AreMarks}
use Rattle.gramcheck.specs.Left.{Nullable}
use Rattle.pegnodes.specs.Bodies.{AreBodies}
use Rattle.gramcheck.specs.Loops.{LoopsTo, AreLoopMarks}
use Rattle.pegnodes.specs.Nodes as node
use Rattle.pegnodes.specs.Nodes.{Shape}
use Rattle.gramcheck.specs.Nulls.{AreNullMarks}
use Rattle.gramcheck.specs.NodeRows.{IsLeft}
use Rattle.gramcheck.proofs.LoopMarksLemmas.{loop_marks}
use Rattle.gramcheck.proofs.IsLeftLemmas.{body_spelled}

-- the mark of a rule is the mark of its body's node
body_mark : (bodies : List ℕ) (marks found : List Bool) (id m : ℕ) → found ≡ map (λ k. get_or marks k false) bodies →
    slice_get bodies id ≡ Some m → get_or found id false ≡ get_or marks m false
body_mark bodies marks found id m is at =
    let lt = slice_get_within bodies id m at in
    ap (λ v. get_or v id false) is ∙ get_or-map (λ k. get_or marks k false) bodies id 0 false lt
    ∙ ap (λ v. get_or marks v false) (get_or_from_slice_get bodies id m 0 at)

module _ (nodes : List Shape) (nulls marks : List Bool) (i : ℕ) (all : i ≡ length nodes)
    (g : LoopsTo nodes nulls marks i) where
  module _ (rules : List Rule) (bodies : List ℕ) (are : AreBodies rules nodes bodies)
      (marked : AreNullMarks rules nodes nulls) (found : List Bool)
      (is : found ≡ map (λ k. get_or marks k false) bodies) where
    body_at : (id : ℕ) (rule : Rule) → slice_get rules id ≡ Some rule → slice_get bodies id ≡ Some (get_or bodies id 0)
    body_at id rule at = let lt = slice_get_within rules id rule at in let c = are.count in
        slice_get-get_or bodies id 0 (omega (arith, lt, c))

    pub is_analysed : (recursive : List Bool) (ranks : List ℕ) → IsLeft rules nodes bodies recursive ranks →
        IsAnalysed rules nodes bodies nulls recursive found ranks
    is_analysed recursive ranks left = record {
      null_marks = marked;
      recursive_count = left.count;
      recursive_sound = left.sound;
      recursive_whole = left.whole;
      looping_count = ap length is ∙ length-map bodies (λ k. get_or marks k false) ∙ are.count;
      looping_exact = λ id rule at.
          let b = body_at id rule at in
          let same = body_mark bodies marks found id (get_or bodies id 0) is b in (
            λ h. loops.sound (get_or bodies id 0) rule.body (spelled id rule at) (sym same ∙ h),
            λ d. same ∙ loops.whole (get_or bodies id 0) rule.body (spelled id rule at) d,
          );
      ranked = left.ranked;
    }
      where
        loops : AreLoopMarks rules nodes marks
        loops = loop_marks nodes nulls marks i all g rules marked

        spelled : (id : ℕ) (rule : Rule) → slice_get rules id ≡ Some rule →
            node.Spells rules nodes (get_or bodies id 0) rule.body
        spelled id rule at = body_spelled rules nodes bodies nulls are marked id
            (get_or bodies id 0) rule at (body_at id rule at)

-- the marks of the bodies' nodes are those of rules whose bodies are nullable
pub null_rules : (rules : List Rule) (nodes : List Shape) (bodies : List ℕ) (marks found : List Bool)
    → AreBodies rules nodes bodies → AreNullMarks rules nodes marks
    → found ≡ map (λ k. get_or marks k false) bodies → AreMarks (λ rule. Nullable rules rule.body) rules found
null_rules rules nodes bodies marks found are marked is = record {
  count = ap length is ∙ length-map bodies (λ k. get_or marks k false) ∙ are.count;
  exact = λ id rule at.
      let lt = slice_get_within rules id rule at in
      let c = are.count in
      let b = slice_get-get_or bodies id 0 (omega (arith, lt, c)) in
      let same = body_mark bodies marks found id (get_or bodies id 0) is b in
      let spelled = body_spelled rules nodes bodies marks are marked id (get_or bodies id 0) rule at b in (
        λ h. marked.sound (get_or bodies id 0) rule.body spelled (sym same ∙ h),
        λ d. same ∙ marked.whole (get_or bodies id 0) rule.body spelled d,
      );
}
