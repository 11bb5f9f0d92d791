-- The marks of what steps reach are those of the rules that are reached.
use Rattle.std.proofs.Common.{◌≡◌, ◌∙◌, ◌<◌, ap, arith, length, List, ℕ, subst, sym, ◌∷◌, [], ⊎_elim, Bool, false}
use Rattle.std.proofs.Common.{take, get_or, refl}
use Rattle.std.proofs.lemmas.List.{length-map, length-take, get_or-take}
use Rattle.std.specs.Borrow.{Bor}
use Rattle.abnfread.specs.AbnfViews.{rule_of, rules_of}
use Rattle.abnfread.specs.declared.elem.Elem.{Elem}
use Rattle.fixpoint.specs.Reach.{AreReachedFrom, Reaches}
use Rattle.fixpoint.specs.StepRows.{rows_of, slices_of}
use Rattle.abnfcheck.proofs.GraphLemmas.{steps_within, rows_long}
use Rattle.std.specs.Prelude.{Option}
use Rattle.fixpoint.specs.IdMarks.{AreMarks}
use Rattle.fixpoint.specs.NumberMarks.{AreBelow}
use Rattle.fixpoint.proofs.ContainsLemmas.{only_one}
use Rattle.abnfread.specs.Element.{Rule}
use Rattle.abnfcheck.specs.AbnfGrammar.{Reachable}
use Rattle.abnfcheck.specs.NameIds.{IsGraph}
use Rattle.abnfcheck.proofs.BrokenNeedsLemmas.{reached_at, reached_from}
use Rattle.ruletable.specs.Rules as table
use Rattle.abnfcheck.proofs.copies.reach.reached_rules.Goals as goal

module _ (rules : List Rule) (given : Option (List ℕ)) (names : List (List ℕ)) (rows : List (List ℕ)) (judged : ℕ)
    (graph : IsGraph rules given names rows judged) (s : ℕ) (lt : s < length rules) where
  first_below : AreBelow (s ∷ []) (length rows)
  first_below m h =
      let is = only_one s m h in
      let long = rows_long rules given names rows judged graph in
      omega (arith, lt, is, long)

  reached_marks : (marks : List Bool) (n : ℕ) → AreReachedFrom rows (s ∷ []) marks → length marks ≡ length rows
      → n ≡ length rules → AreMarks (Reachable rules s) (length rules) (take n marks)
  reached_marks marks n are count same = record {
    count_is = (let l = length-take n marks in let long = rows_long rules given names rows judged graph in
        omega (arith, l, long, count, same));
    exact = λ id below. (
      (λ on. let g = (are id).0 (sym (mark_at id below) ∙ on) in
          let r = reached_from rules given names rows judged graph s lt
          (subst (λ v. Reaches rows v id) (sym (only_one s g.0 g.1)) g.2) in
          ⊎_elim (λ low. subst (λ v. Reachable rules s v) low.1 r.reachable)
          (λ high. absurd (let le = high.0 in omega (arith, below, le))) r.is),
      (λ reachable. let r = reached_at rules given names rows judged graph s lt reachable in
          let here : r.position ≡ id = ⊎_elim (λ low. sym low.1)
          (λ high. absurd (let is = high.1 in omega (arith, below, is))) r.is in
          mark_at id below ∙ (are id).1 (s, (0, omega arith, refl), subst (λ v. Reaches rows s v) here r.reaches)),
    );
  }
    where
      mark_at : (id : ℕ) → id < length rules → get_or (take n marks) id false ≡ get_or marks id false
      mark_at id below = get_or-take n marks id false (omega (arith, below, same))

rows_are : (c : goal.After-reached-arg-1) → slices_of c.deref-2.result.now ≡ rows_of c.in_ok-ids.ids.rows.items
rows_are c = ap slices_of c.deref-2.ensures.value ∙ c.in_ok-steps.ensures ∙ ap rows_of c.deref.ensures.value

judged_below : (c : goal.After-reached-arg-1) → c.judged.result < length (rules_of c.rules.result.now)
judged_below c =
    let below = c.judged.ensures.sound.sound.judged_is_rule in
    let id = c.judged.ensures.id in
    let same = ap (λ (t : table.Rules Elem). length (rules_of t)) c.rules.ensures.rules in
    omega (arith, below, id, same)

pub reached-requires-clause-within : goal.reached-requires-clause-within
reached-requires-clause-within c =
    rw (rows_are c) (steps_within _ _ _ _ _ c.in_ok-ids.ensures.graph)

pub reached-requires-clause-these : goal.reached-requires-clause-these
reached-requires-clause-these c = λ m h.
    let below = first_below _ _ _ _ _ c.in_ok-ids.ensures.graph c.judged.result (judged_below c) m h in
    let size = length-map c.deref-2.result.now (λ (row : Bor (List ℕ)). row.now) in
    let same = ap length (rows_are c) in
    omega (arith, below, size, same)

pub returns : goal.returns
returns c =
    let rows = slices_of c.deref-2.result.now in
    let rows_is : rows ≡ rows_of c.in_ok-ids.ids.rows.items =
    ap slices_of c.deref-2.ensures.value ∙ c.in_ok-steps.ensures ∙ ap rows_of c.deref.ensures.value in
    let below = c.judged.ensures.sound.sound.judged_is_rule in
    let id = c.judged.ensures.id in
    let same = ap (λ (t : table.Rules Elem). length (rules_of t)) c.rules.ensures.rules in
    let size = length-map c.deref-2.result.now (λ (row : Bor (List ℕ)). row.now) in
    let count = c.in_ok-marks.ensures.count in
    let rows_same = ap length rows_is in
    let len = c.len.ensures.len ∙ ap (λ (t : table.Rules Elem). length t.rules) (c.rules-2.ensures.rules
    ∙ sym c.rules.ensures.rules) ∙ sym (length-map c.rules.result.now.rules rule_of) in
    rw (c.truncate.ensures.items, sym c.rules.ensures.rules, sym c.judged.ensures.id)
    (reached_marks _ _ _ _ _ c.in_ok-ids.ensures.graph c.judged.result (omega (arith, below, id, same))
    c.in_ok-marks.marks.items c.len.result
    (subst (λ (v : List (List ℕ)). AreReachedFrom v (c.judged.result ∷ []) c.in_ok-marks.marks.items) rows_is
    c.in_ok-marks.ensures.marks)
    (omega (arith, count, size, rows_same)) len)
