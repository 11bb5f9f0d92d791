-- The notes on what marks choose of the rules, and what rejects a grammar.
-- Serves: check_abnf (notes, sound), one_list_of_abnf_notes, one_statement_of_abnf
use Rattle.std.proofs.Common.{◌≡◌, ◌↔◌, ℕ, zero, suc, ◌+◌, ◌<◌, ◌≤◌, ◌⊎◌, inl, inr, ⊎_elim, Bool, true, false, not}
use Rattle.std.proofs.Common.{List, [], ◌∷◌, ◌++◌, length, map, take, drop, get_or, Option, Some, None, refl, sym, ◌∙◌}
use Rattle.std.proofs.Common.{ap, subst, arith, cond}
use Rattle.std.specs.Prelude.{slice_index_or, option_to_list, Contains}
use Rattle.std.proofs.Math.Seq.{drop-append_seam}
use Rattle.std.proofs.lemmas.Bool.{both_ways}
use Rattle.std.proofs.lemmas.List.{length-map, get_or-take, get_or_past, length-take}
use Rattle.fixpoint.specs.NumberMarks.{IsMarked}
use Rattle.fixpoint.proofs.IsMarkedLemmas.{marked_lt}
use Rattle.ruletable.specs.Rules.{same_name}
use Rattle.ruletable.specs.declared.table.NameCase.TheVariants.{Fold}
use Rattle.fixpoint.specs.FirstUses.{news}
use Rattle.fixpoint.specs.IdMarks.{chosen, AreMarks}
use Rattle.fixpoint.proofs.AreMarksLemmas.{marks-opposite}
use Rattle.fixpoint.proofs.ChosenLemmas.{chosen_none}
use Rattle.abnfread.specs.Element.{Rule, id_of}
use Rattle.abnfcheck.specs.AbnfGrammar.{Reachable, judged_rule, by_name, IsSound}
use Rattle.abnfcheck.specs.AbnfNotes as n
use Rattle.ruletable.specs.Notes.{Said, said}
use Rattle.abnfcheck.specs.AbnfNotes.{Those, no_more, this_one, not_this, judged_in, IsUnused, AreNotes, IsRefused}
use Rattle.abnfcheck.specs.AbnfNotes.{by_redefinition, by_prose}
use Rattle.abnfcheck.specs.AbnfUses.{names_used, rule_names, HoldsProse}
use Rattle.abnfcheck.specs.NameIds.{IsIdAt, IsGraph}
use Rattle.abnfcheck.specs.NameMarks.{AreNoteMarks, IsUsed, ReachesBroken}
use Rattle.abnfcheck.specs.ProseIn.{prose_in, prose_marks}
use Rattle.ruletable.specs.declared.note.NoteKind.TheVariants as kind
use Rattle.abnfcheck.proofs.GraphLemmas.{step_uses, uses_step, judged_at, reached_as, reached_by, marked_prose}
use Rattle.abnfcheck.proofs.GraphLemmas.{prose_marked, body_below}

-- what marks choose
pub those_chosen : (P : ℕ → Type 0) (i : ℕ) (file : List Rule) (more : List (List ℕ)) (marks : List Bool)
    → length marks ≡ length file →
    ((id : ℕ) → id < length file → (IsMarked marks id ↔ P (i + id)))
    → Those P i file (chosen marks (rule_names file ++ more))
those_chosen P i [] more [] count h = subst (λ v. Those P i [] v) (sym (chosen_none more)) no_more
those_chosen P i [] more (mark ∷ marks) count h = absurd (omega (arith, count))
those_chosen P i (rule ∷ file) more [] count h = absurd (omega (arith, count))
those_chosen P i (rule ∷ file) more (true ∷ marks) count h =
    let zero_is : i + 0 ≡ i = omega arith in
    this_one (subst P zero_is ((h 0 (omega arith)).0 refl))
    (those_chosen P (suc i) file more marks (omega (arith, count)) (λ id lt. let same : i + suc id ≡ suc i + id =
    omega arith in subst (λ v. IsMarked marks id ↔ P v) same (h (suc id) (omega (arith, lt)))))
those_chosen P i (rule ∷ file) more (false ∷ marks) count h =
    let zero_is : i ≡ i + 0 = omega arith in
    not_this (λ p. both_ways false refl ((h 0 (omega arith)).1 (subst P zero_is p)))
    (those_chosen P (suc i) file more marks (omega (arith, count)) (λ id lt. let same : i + suc id ≡ suc i + id =
    omega arith in subst (λ v. IsMarked marks id ↔ P v) same (h (suc id) (omega (arith, lt)))))

not_marked : (b : Bool) → not b ≡ true → b ≡ true → ⊥
not_marked true h g = absurd (cc h)
not_marked false h g = absurd (cc g)

marked_not : (b : Bool) → (b ≡ true → ⊥) → not b ≡ true
marked_not true h = absurd (h refl)
marked_not false h = refl

module _ (rules : List Rule) (given : Option (List ℕ)) (names : List (List ℕ)) (rows : List (List ℕ)) (judged : ℕ)
    (graph : IsGraph rules given names rows judged) where
  -- a use of a rule is a mark
  judged_same : (id : ℕ) → id < length rules → judged_in given rules ≡ id → judged ≡ id
  judged_same id lt is = ⊎_elim (λ low. sym low.1 ∙ is)
      (λ high. absurd (let same = high.1 in omega (arith, lt, is, same)))
      (judged_at rules given names rows judged graph)

  same_judged : (id : ℕ) → id < length rules → judged ≡ id → judged_in given rules ≡ id
  same_judged id lt is = ⊎_elim (λ low. low.1 ∙ is) (λ high. absurd (let le = high.0 in omega (arith, lt, is, le)))
      (judged_at rules given names rows judged graph)

  pub unused_marks : (count : ℕ) (used : List Bool) → count ≤ length rules → count ≤ length used
      → length used ≡ length rows → ((id : ℕ) → id < length rows → (IsMarked used id ↔ IsUsed rows judged id)) →
      AreMarks (IsUnused rules (judged_in given rules)) count (map not (take count used))
  unused_marks count used low fits all marks = record {
    count_is = length-map (take count used) not ∙ count_of;
    exact = λ id lt. (
      (λ on. (
        (λ user u. no id lt on ((marks id (below id lt)).1
            (inr (user, uses_step rules given names rows judged graph user id (under id lt) u)))),
        (λ is. no id lt on ((marks id (below id lt)).1 (inl (judged_same id (under id lt) is)))),
      )),
      (λ unused. at id lt ∙ marked_not (get_or used id false) (λ on. ⊎_elim
          (λ is. unused.1 (same_judged id (under id lt) is))
          (λ step. unused.0 step.0 (step_uses rules given names rows judged graph step.0 id (under id lt) step.1))
          ((marks id (below id lt)).0 on))),
    );
  }
    where
      count_of : length (take count used) ≡ count
      count_of = let l = length-take count used in omega (arith, l, fits)

      under : (id : ℕ) → id < count → id < length rules
      under id lt = omega (arith, lt, low)

      below : (id : ℕ) → id < count → id < length rows
      below id lt = omega (arith, lt, fits, all)

      at : (id : ℕ) → id < count → get_or (map not (take count used)) id false ≡ not (get_or used id false)
      at id lt = marks-opposite (take count used) id (let l = count_of in omega (arith, lt, l))
          ∙ ap not (get_or-take count used id false lt)

      no : (id : ℕ) → id < count → IsMarked (map not (take count used)) id → IsMarked used id → ⊥
      no id lt on used_on = not_marked (get_or used id false) (sym (at id lt) ∙ on) used_on

  pub prose_exact : (count : ℕ) → count ≤ length rules
      → AreMarks (HoldsProse rules) count (take count (prose_marks rules))
  prose_exact count low = record {
    count_is = (let l = length-take count (prose_marks rules) in let k =
        length-map rules (λ (rule : Rule). prose_in rule.body) in omega (arith, l, k, low));
    exact = λ id lt. (
      (λ on. marked_prose rules id false (omega (arith, lt, low))
          (sym (get_or-take count (prose_marks rules) id false lt) ∙ on)),
      (λ h. get_or-take count (prose_marks rules) id false lt ∙ prose_marked rules id false h),
    );
  }

  -- the notes on a grammar
  pub are_notes : (file : List Rule) (more : List (List ℕ)) (again early : List ℕ)
      (redefined extended prose unused : List Bool) (notes : List Said) → rule_names rules ≡ rule_names file ++ more →
      AreNoteMarks rules (length file) again early (judged_in given rules) redefined extended prose unused →
      notes ≡ map (said kind.Redefined) (chosen redefined (rule_names rules))
      ++ (map (said kind.ExtendedEarly) (chosen extended (rule_names rules))
      ++ (map (said kind.Undefined) (drop (length rules) names)
      ++ (map (said kind.Prose) (chosen prose (rule_names rules))
      ++ map (said kind.Unused) (chosen unused (rule_names rules))))) →
      AreNotes file rules again early given notes
  are_notes file more again early redefined extended prose unused notes begins marks h = record {
    redefined = chosen redefined (rule_names rules);
    extended = chosen extended (rule_names rules);
    prose = chosen prose (rule_names rules);
    unused = chosen unused (rule_names rules);
    are_redefined = those (Contains again) redefined marks.redefined_are;
    are_extended = those (Contains early) extended marks.extended_are;
    hold_prose = those (HoldsProse rules) prose marks.prose_are;
    are_unused = those (IsUnused rules (judged_in given rules)) unused marks.unused_are;
    all = h ∙ ap (λ l. map (said kind.Redefined) (chosen redefined (rule_names rules))
        ++ (map (said kind.ExtendedEarly) (chosen extended (rule_names rules))
        ++ (map (said kind.Undefined) l ++ (map (said kind.Prose) (chosen prose (rule_names rules))
        ++ map (said kind.Unused) (chosen unused (rule_names rules)))))) undefined;
  }
    where
      those : (P : ℕ → Type 0) (ms : List Bool) → AreMarks P (length file) ms
          → Those P 0 file (chosen ms (rule_names rules))
      those P ms m = subst (λ l. Those P 0 file (chosen ms l)) (sym begins)
          (those_chosen P 0 file more ms m.count_is (λ id lt. let same : id ≡ 0 + id = omega arith in
          subst (λ v. IsMarked ms id ↔ P v) same (m.exact id lt)))

      undefined : drop (length rules) names ≡ news Fold (rule_names rules) (option_to_list given ++ names_used rules)
      undefined = ap (drop (length rules)) graph.all
          ∙ ap (λ (k : ℕ). drop k (rule_names rules ++ news Fold (rule_names rules)
          (option_to_list given ++ names_used rules))) (sym (length-map rules (λ (rule : Rule). rule.name)))
          ∙ drop-append_seam (rule_names rules) (news Fold (rule_names rules)
          (option_to_list given ++ names_used rules))

  -- what rejects a grammar
  module _ (file : List Rule) (again : List ℕ) (redefined : List Bool)
      (marks : AreMarks (Contains again) (length file) redefined) where
    pub refused_again : (id : ℕ) → IsMarked redefined id → IsRefused file rules again (judged_in given rules)
    refused_again id on = let lt : id < length file =
        (let l = marked_lt redefined id on in let c = marks.count_is in omega (arith, l, c)) in
        by_redefinition lt ((marks.exact id lt).0 on)

    pub refused_no_rule : length rules ≤ judged → IsRefused file rules again (judged_in given rules)
    refused_no_rule le = n.by_name (⊎_elim
        (λ low. absurd (let lt = low.0 in omega (arith, lt, le)))
        (λ high. subst (λ v. Reachable rules (judged_in given rules) v) high.1 judged_rule)
        (judged_at rules given names rows judged graph))

    pub refused_broken : (position : ℕ) → ReachesBroken rows (prose_marks rules) judged position
        → IsRefused file rules again (judged_in given rules)
    refused_broken position b =
        let r = reached_as rules given names rows judged graph position b.reaches in
        ⊎_elim
        (λ low. by_prose r.reachable (subst (λ v. HoldsProse rules v) (sym low.1)
        (marked_prose rules position true low.0 b.broken)))
        (λ high. n.by_name (subst (λ v. Reachable rules (judged_in given rules) v) high.1 r.reachable))
        r.is

    pub broken_refused : ((id : ℕ) → IsMarked redefined id → ⊥) → IsRefused file rules again (judged_in given rules)
        → (position : ℕ) × ReachesBroken rows (prose_marks rules) judged position
    broken_refused none (by_redefinition {id = id} lt h) = absurd (none id ((marks.exact id lt).1 h))
    broken_refused none (n.by_name r) =
        let b = reached_by rules given names rows judged graph (length rules) r in
        let le : length rules ≤ b.position = ⊎_elim (λ low. absurd
        (let lt = low.0 in let is = low.1 in omega (arith, lt, is))) (λ high. high.0) b.is in (
          b.position,
          record {
            reaches = b.reaches;
            broken = get_or_past (prose_marks rules) b.position true (let l =
                length-map rules (λ (rule : Rule). prose_in rule.body) in omega (arith, l, le));
          },
        )
    broken_refused none (by_prose {id = id} r h) =
        let b = reached_by rules given names rows judged graph id r in
        let lt = body_below rules id h.body h.body_is in
        let same : b.position ≡ id =
        ⊎_elim (λ low. sym low.1) (λ high. absurd (let is = high.1 in omega (arith, lt, is)))
        b.is in (
          b.position,
          record {
            reaches = b.reaches;
            broken = ap (λ v. slice_index_or (prose_marks rules) v
                true) same ∙ prose_marked rules id true h;
          },
        )

-- a grammar that is not rejected is sound
pub id_most : (rules : List Rule) (name : List ℕ) → id_of rules name ≤ length rules
id_most [] name = omega arith
id_most (rule ∷ rules) name = step (same_name Fold name rule.name) (id_of rules name) (length rules)
    (id_most rules name)
  where
    step : (b : Bool) (k n : ℕ) → k ≤ n → cond b 0 (k + 1) ≤ suc n
    step true k n le = omega arith
    step false k n le = omega (arith, le)

judged_most : (given : Option (List ℕ)) (rules : List Rule) → judged_in given rules ≤ length rules
judged_most None rules = omega arith
judged_most (Some name) rules = id_most rules name

reached_most : (rules : List Rule) (judged : ℕ) → judged ≤ length rules → {id : ℕ} → Reachable rules judged id
    → id ≤ length rules
reached_most rules judged le judged_rule = le
reached_most rules judged le (by_name {name = name} r at within) = id_most rules name

pub sound_unless_refused : (file rules : List Rule) (again : List ℕ) (given : Option (List ℕ))
    → (IsRefused file rules again (judged_in given rules) → ⊥) → IsSound rules (judged_in given rules)
sound_unless_refused file rules again given passes = record {
  judged_is_rule = defined (judged_in given rules) judged_rule;
  defined = defined;
  plain = λ id body text r at within. passes (by_prose r
      (record { body = body; text = text; body_is = at; within = within }));
}
  where
    low : (m n : ℕ) → m ≤ n → (m < n) ⊎ (m ≡ n)
    low zero zero le = inr refl
    low zero (suc n) le = inl (omega arith)
    low (suc m) zero le = absurd (omega (arith, le))
    low (suc m) (suc n) le = ⊎_elim (λ lt. inl (omega (arith, lt))) (λ is. inr (ap suc is))
        (low m n (omega (arith, le)))

    defined : (id : ℕ) → Reachable rules (judged_in given rules) id → id < length rules
    defined id r = ⊎_elim (λ lt. lt) (λ is. absurd
        (passes (n.by_name (subst (λ v. Reachable rules (judged_in given rules) v) is r))))
        (low id (length rules) (reached_most rules (judged_in given rules) (judged_most given rules) r))

pub judged_where : (count position id : ℕ) → id < count → IsIdAt count position id → id ≡ position
judged_where count position id lt at =
    ⊎_elim (λ low. low.1) (λ high. absurd (let is = high.1 in omega (arith, lt, is))) at

-- there is at most one list of notes
pub those_same : (P : ℕ → Type 0) {i : ℕ} {rules : List Rule} {a b : List (List ℕ)} → Those P i rules a
    → Those P i rules b → a ≡ b
those_same P no_more no_more = refl
those_same P (this_one {rule = rule} h d) (this_one g e) = ap (λ v. rule.name ∷ v) (those_same P d e)
those_same P (this_one h d) (not_this g e) = absurd (g h)
those_same P (not_this h d) (this_one g e) = absurd (h g)
those_same P (not_this h d) (not_this g e) = those_same P d e

pub notes_same : (file rules : List Rule) (again early : List ℕ) (given : Option (List ℕ)) (a b : List Said)
    → AreNotes file rules again early given a → AreNotes file rules again early given b → a ≡ b
notes_same file rules again early given a b g h =
    let redefined = those_same (Contains again) g.are_redefined h.are_redefined in
    let extended = those_same (Contains early) g.are_extended h.are_extended in
    let prose = those_same (HoldsProse rules) g.hold_prose h.hold_prose in
    let unused = those_same (IsUnused rules (judged_in given rules)) g.are_unused h.are_unused in
    rw (g.all, redefined, extended, prose, unused) (sym h.all)
