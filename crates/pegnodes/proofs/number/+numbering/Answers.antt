use Rattle.std.proofs.Common.{refl, sym, ◌∙◌, ◌∷◌, [], ap, Some}
use Rattle.std.proofs.lemmas.Result.{MatchResult-weaker}
use Rattle.std.specs.Prelude.{IfOk, Result, Ok, Err}
use Rattle.pegread.specs.PegViews.{rules_of}
use Rattle.pegnodes.specs.Nodes as node
use Rattle.pegnodes.specs.Nodes.{spells_any, spells_bytes, spells_set, spells_name, spells_seq, spells_choice}
use Rattle.pegnodes.specs.Nodes.{spells_star, spells_plus, spells_opt, spells_and, spells_not, spells_act, spells_open}
use Rattle.pegnodes.specs.Nodes.{spells_close}
use Rattle.pegnodes.specs.Within.{of_seq, of_choice, of_star, of_opt, of_and, of_not}
use Rattle.pegnodes.proofs.PatternOfLemmas.{pattern-Any, pattern-Bytes, pattern-Set, pattern-Name, pattern-Seq}
use Rattle.pegnodes.proofs.PatternOfLemmas.{pattern-Choice, pattern-Star, pattern-Plus, pattern-Opt, pattern-And}
use Rattle.pegnodes.proofs.PatternOfLemmas.{pattern-Not, pattern-Act, pattern-Open, pattern-Close}
use Rattle.pegnodes.proofs.NumbersLemmas as o
use Rattle.pegnodes.proofs.number.+numbering.Goals as goal
use Rattle.pegnodes.proofs.number.+numbering.Goals.{number-in-Any, number-in-Bytes+in_ok-from_slice-in-Bytes}
use Rattle.pegnodes.proofs.number.+numbering.Goals.{number-in-Set, number-in-Name+in_ok-rule_id-in-Name}
use Rattle.pegnodes.proofs.number.+numbering.Goals.{number-in-Seq+in_ok-number_all-in-Seq}
use Rattle.pegnodes.proofs.number.+numbering.Goals.{number-in-Choice+in_ok-number_all-in-Choice}
use Rattle.pegnodes.proofs.number.+numbering.Goals.{number-in-Star+in_ok-number-in-Star}
use Rattle.pegnodes.proofs.number.+numbering.Goals.{number-in-Plus+in_ok-repeated-in-Plus+in_ok-star-in-Plus}
use Rattle.pegnodes.proofs.number.+numbering.Goals.{number-in-Opt+in_ok-number-in-Opt}
use Rattle.pegnodes.proofs.number.+numbering.Goals.{number-in-And+in_ok-number-in-And}
use Rattle.pegnodes.proofs.number.+numbering.Goals.{number-in-Not+in_ok-number-in-Not}
use Rattle.pegnodes.proofs.number.+numbering.Goals.{number-in-Act+in_ok-from_slice-in-Act, number-in-Open}
use Rattle.pegnodes.proofs.number.+numbering.Goals.{number-in-Close}

-- what two clauses say of one value
ok_both : {T E : Type 0} (r : Result T E) (P Q : T → Type 0) → IfOk r P → IfOk r Q → IfOk r (λ x. P x × Q x)
ok_both (Ok x) P Q p q = (p, q)
ok_both (Err e) P Q p q = tt

pub number-returns : goal.number-returns
number-returns t c = MatchResult-weaker c.add-2.result
    (ok_both c.add-2.result _ _ c.add-2.ensures.number c.add-2.ensures.nodes)
    (λ n added. elim c.match-e.branch [
      | number-in-Any w ↦ rw (w.in-Any.is, pattern-Any)
          (o.leaf_numbers _ _ _ _ _ _ (rw (w.nodes-is, w.node-is) at added.1)
          (rw w.nodes-is at added.0) refl refl (λ m h. h) (λ xs at. spells_any at))
      | number-in-Bytes+in_ok-from_slice-in-Bytes w ↦ rw (w.in-Bytes.is, pattern-Bytes)
          (o.leaf_numbers _ _ _ _ _ _ (rw (w.nodes-is, w.node-is) at added.1)
          (rw w.nodes-is at added.0) refl
          (ap (λ v. node.Bytes v ∷ []) ((w.in_ok-from_slice-in-Bytes.ensures).items ∙ w.deref.ensures.value)) (λ m h. h)
          (λ xs at. rw (sym ((w.in_ok-from_slice-in-Bytes.ensures).items ∙ w.deref.ensures.value)) (spells_bytes at)))
      | number-in-Set w ↦ rw (w.in-Set.is, pattern-Set, sym w.copied.ensures)
          (o.leaf_numbers _ _ _ _ _ _ (rw (w.nodes-is, w.node-is) at added.1)
          (rw w.nodes-is at added.0) refl refl (λ m h. h) (λ xs at. spells_set at))
      | number-in-Name+in_ok-rule_id-in-Name w ↦ rw (w.in-Name.is, pattern-Name)
          (o.leaf_numbers _ _ _ _ _ _ (rw (w.nodes-is, w.node-is) at added.1)
          (rw w.nodes-is at added.0) refl
          (ap (λ v. node.Name v ∷ []) (w.in_ok-rule_id-in-Name.ensures
          ∙ ap (λ v. node.id_of (rules_of c.args.rules.now) v) w.deref-in-Name.ensures.value)) (λ m h. h)
          (λ xs at. spells_name (at ∙ ap (λ v. Some (node.Name v))
          (w.in_ok-rule_id-in-Name.ensures ∙ ap (λ v. node.id_of (rules_of c.args.rules.now) v)
          w.deref-in-Name.ensures.value))))
      | number-in-Seq+in_ok-number_all-in-Seq w ↦ rw (w.in-Seq.is, pattern-Seq)
          (o.over_all _ _ _ _ _ _ (rw (w.nodes-is, w.node-is) at added.1)
          (rw w.nodes-is at added.0) _ _ _ node.Seq refl refl (λ f. refl)
          (rw w.deref-in-Seq.ensures.value at w.in_ok-number_all-in-Seq.ensures) (λ m h. h) (λ d. of_seq)
          (λ xs at s. spells_seq at s))
      | number-in-Choice+in_ok-number_all-in-Choice w ↦ rw (w.in-Choice.is, pattern-Choice)
          (o.over_all _ _ _ _ _ _ (rw (w.nodes-is, w.node-is) at added.1)
          (rw w.nodes-is at added.0) _ _ _ node.Choice refl refl (λ f. refl)
          (rw w.deref-in-Choice.ensures.value at w.in_ok-number_all-in-Choice.ensures) (λ m h. h) (λ d. of_choice)
          (λ xs at s. spells_choice at s))
      | number-in-Star+in_ok-number-in-Star w ↦ rw (w.in-Star.is, pattern-Star)
          (o.numbers_over _ _ _ _ _ _ (rw (w.nodes-is, w.node-is) at added.1)
          (rw w.nodes-is at added.0) _ _ _ node.Star refl refl (λ f. refl)
          (rw w.deref-in-Star.ensures at w.in_ok-number-in-Star.ensures)
          (λ m h. h) (λ d. of_star) (λ xs at s. spells_star at s))
      | number-in-Plus+in_ok-repeated-in-Plus+in_ok-star-in-Plus w ↦ rw (w.in-Plus.is, pattern-Plus)
          (o.plus_numbers _ (rw w.deref-in-Plus.ensures at w.in_ok-repeated-in-Plus.ensures)
          w.in_ok-star-in-Plus.ensures.nodes w.in_ok-star-in-Plus.ensures.number
          (rw (w.nodes-is, w.node-is) at added.1) (rw w.nodes-is at added.0))
      | number-in-Opt+in_ok-number-in-Opt w ↦ rw (w.in-Opt.is, pattern-Opt)
          (o.numbers_over _ _ _ _ _ _ (rw (w.nodes-is, w.node-is) at added.1)
          (rw w.nodes-is at added.0) _ _ _ node.Opt refl refl (λ f. refl)
          (rw w.deref-in-Opt.ensures at w.in_ok-number-in-Opt.ensures)
          (λ m h. h) (λ d. of_opt) (λ xs at s. spells_opt at s))
      | number-in-And+in_ok-number-in-And w ↦ rw (w.in-And.is, pattern-And)
          (o.numbers_over _ _ _ _ _ _ (rw (w.nodes-is, w.node-is) at added.1)
          (rw w.nodes-is at added.0) _ _ _ node.And refl refl (λ f. refl)
          (rw w.deref-in-And.ensures at w.in_ok-number-in-And.ensures)
          (λ m h. h) (λ d. of_and) (λ xs at s. spells_and at s))
      | number-in-Not+in_ok-number-in-Not w ↦ rw (w.in-Not.is, pattern-Not)
          (o.numbers_over _ _ _ _ _ _ (rw (w.nodes-is, w.node-is) at added.1)
          (rw w.nodes-is at added.0) _ _ _ node.Not refl refl (λ f. refl)
          (rw w.deref-in-Not.ensures at w.in_ok-number-in-Not.ensures)
          (λ m h. h) (λ d. of_not) (λ xs at s. spells_not at s))
      | number-in-Act+in_ok-from_slice-in-Act w ↦ rw (w.in-Act.is, pattern-Act)
          (o.leaf_numbers _ _ _ _ _ _ (rw (w.nodes-is, w.node-is) at added.1)
          (rw w.nodes-is at added.0) refl
          (ap (λ v. node.Act v ∷ []) ((w.in_ok-from_slice-in-Act.ensures).items ∙ w.deref-in-Act.ensures.value))
          (λ m h. h)
          (λ xs at. rw (sym ((w.in_ok-from_slice-in-Act.ensures).items ∙ w.deref-in-Act.ensures.value))
          (spells_act at)))
      | number-in-Open w ↦ rw (w.in-Open.is, pattern-Open)
          (o.leaf_numbers _ _ _ _ _ _ (rw (w.nodes-is, w.node-is) at added.1)
          (rw w.nodes-is at added.0) refl refl (λ m h. h) (λ xs at. spells_open at))
      | number-in-Close w ↦ rw (w.in-Close.is, pattern-Close)
          (o.leaf_numbers _ _ _ _ _ _ (rw (w.nodes-is, w.node-is) at added.1)
          (rw w.nodes-is at added.0) refl refl (λ m h. h) (λ xs at. spells_close at))
    ]) (λ _ _. tt)

pub number_all-loop-member-init : goal.number_all-loop-member-init
number_all-loop-member-init t c = o.no_members _ _ _ c.new-numbers.ensures.items

pub number_all-loop-member-preserved : goal.number_all-loop-member-preserved
number_all-loop-member-preserved t c = rw (c.in_ok-push.ensures.items)
    (o.next_member _ c.loop-member-test.true c.member-item.is c.loop-member.invariant c.in_ok-n.ensures)
