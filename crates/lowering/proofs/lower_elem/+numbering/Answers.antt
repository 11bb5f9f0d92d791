use Rattle.std.proofs.Common.{refl, ◌∙◌, ap, arith}
use Rattle.abnfread.specs.AbnfViews.{rules_of}
use Rattle.abnfread.specs.Element.{id_of}
use Rattle.lowering.proofs.SettlesLemmas as m
use Rattle.lowering.specs.Lowered.{shows_text, shows_values, shows_range, shows_concat, shows_alt, shows_opt}
use Rattle.lowering.specs.Lowered.{shows_name, shows_prose}
use Rattle.abnfread.proofs.ElementLemmas.{element-Text, element-Values, element-Range, element-Concat, element-Alt}
use Rattle.abnfread.proofs.ElementLemmas.{element-Rep, element-Opt, element-Name, element-Prose}
use Rattle.lowering.proofs.FlatNumbersLemmas as o
use Rattle.lowering.proofs.IsEmptyRepeatLemmas as r
use Rattle.lowering.proofs.lower_elem.+numbering.Goals as goal
use Rattle.lowering.proofs.lower_elem.+numbering.Goals.{number-in-Text+in_ok-text_sets-in-Text}
use Rattle.lowering.proofs.lower_elem.+numbering.Goals.{number-in-Values+in_ok-value_sets-in-Values}
use Rattle.lowering.proofs.lower_elem.+numbering.Goals.{number-in-Range+in_ok-range_set-in-Range}
use Rattle.lowering.proofs.lower_elem.+numbering.Goals.{number-in-Concat+in_ok-made-in-Concat}
use Rattle.lowering.proofs.lower_elem.+numbering.Goals.{number-in-Alt+in_ok-made-in-Alt}
use Rattle.lowering.proofs.lower_elem.+numbering.Goals.{number-in-Rep+in_ok-made-in-Rep}
use Rattle.lowering.proofs.lower_elem.+numbering.Goals.{number-in-Opt+in_ok-number-in-Opt}
use Rattle.lowering.proofs.lower_elem.+numbering.Goals.{number-in-Name+in_ok-id-in-Name, number-in-Prose}

pub number-returns : goal.number-returns
number-returns t c = elim c.match-e.branch [
  | number-in-Text+in_ok-text_sets-in-Text w ↦ rw (w.in-Text.is, w.node-is, element-Text)
      (o.leaf_numbers _ _ (rw (w.numbered-is, w.node-is) at c.in_ok-n.ensures.nodes)
      (rw w.numbered-is at c.in_ok-n.ensures.number)
      (rw (w.numbered-is, w.node-is) at c.in_ok-n.ensures.nulls) (λ i m h. h) (o.as_many _ _ _
      (rw w.deref.ensures.value at w.in_ok-text_sets-in-Text.ensures))
      (shows_text (rw w.deref.ensures.value at w.in_ok-text_sets-in-Text.ensures))
      (r.text_marked _ _ _ _ (rw w.deref-in-Text.ensures.value at w.no_bytes.ensures)))
  | number-in-Values+in_ok-value_sets-in-Values w ↦ rw (w.in-Values.is, w.node-is, element-Values)
      (o.leaf_numbers _ _ (rw (w.numbered-is, w.node-is) at c.in_ok-n.ensures.nodes)
      (rw w.numbered-is at c.in_ok-n.ensures.number)
      (rw (w.numbered-is, w.node-is) at c.in_ok-n.ensures.nulls) (λ i m h. h) (o.as_many _ _ _
      (rw w.deref-in-Values.ensures.value at w.in_ok-value_sets-in-Values.ensures))
      (shows_values (rw w.deref-in-Values.ensures.value at w.in_ok-value_sets-in-Values.ensures))
      (r.values_marked _ _ _ (rw w.deref-in-Values-2.ensures.value at w.no_values.ensures)))
  | number-in-Range+in_ok-range_set-in-Range w ↦ rw (w.in-Range.is, w.node-is, element-Range)
      (o.leaf_numbers _ _ (rw (w.numbered-is, w.node-is) at c.in_ok-n.ensures.nodes)
      (rw w.numbered-is at c.in_ok-n.ensures.number)
      (rw (w.numbered-is, w.node-is) at c.in_ok-n.ensures.nulls) (λ i m h. h)
      (rw (w.in_ok-range_set-in-Range.ensures) refl)
      (rw (w.in_ok-range_set-in-Range.ensures) shows_range) (m.range_settles _ _ _))
  | number-in-Concat+in_ok-made-in-Concat w ↦ rw (w.in-Concat.is, w.node-is, element-Concat)
      (o.over_all _ _ (rw (w.numbered-is, w.node-is) at c.in_ok-n.ensures.nodes)
      (rw w.numbered-is at c.in_ok-n.ensures.number)
      (rw (w.numbered-is, w.node-is) at c.in_ok-n.ensures.nulls)
      (rw w.deref-in-Concat.ensures.value at w.in_ok-made-in-Concat.ensures) (λ i m h. h) (λ many. omega (arith, many))
      shows_concat
      (λ all some. m.concat_settles _ _ _ all))
  | number-in-Alt+in_ok-made-in-Alt w ↦ rw (w.in-Alt.is, w.node-is, element-Alt)
      (o.over_all _ _ (rw (w.numbered-is, w.node-is) at c.in_ok-n.ensures.nodes)
      (rw w.numbered-is at c.in_ok-n.ensures.number)
      (rw (w.numbered-is, w.node-is) at c.in_ok-n.ensures.nulls)
      (rw w.deref-in-Alt.ensures.value at w.in_ok-made-in-Alt.ensures) (λ i m h. h) (λ many. omega (arith, many))
      shows_alt
      (λ all some. m.alt_settles _ _ _ some))
  | number-in-Rep+in_ok-made-in-Rep w ↦ rw (w.in-Rep.is, w.node-is, element-Rep)
      (o.numbers_over _ _ (rw (w.numbered-is, w.node-is) at c.in_ok-n.ensures.nodes)
      (rw w.numbered-is at c.in_ok-n.ensures.number)
      (rw (w.numbered-is, w.node-is) at c.in_ok-n.ensures.nulls)
      (rw w.deref-in-Rep.ensures at w.in_ok-made-in-Rep.ensures) w.repeat.ensures.operand
      (let wide = w.repeat.ensures.width in omega (arith, wide)) (λ reported sp. w.repeat.ensures.shows _ _ _ reported
      sp)
      (λ t. w.is_empty_repeat.ensures _ _ t))
  | number-in-Opt+in_ok-number-in-Opt w ↦ rw (w.in-Opt.is, w.node-is, element-Opt)
      (o.numbers_over _ _ (rw (w.numbered-is, w.node-is) at c.in_ok-n.ensures.nodes)
      (rw w.numbered-is at c.in_ok-n.ensures.number)
      (rw (w.numbered-is, w.node-is) at c.in_ok-n.ensures.nulls)
      (rw w.deref-in-Opt.ensures at w.in_ok-number-in-Opt.ensures) (λ i m h. h)
      (omega arith) (λ reported sp. shows_opt sp) (λ t. m.opt_settles _ _))
  | number-in-Name+in_ok-id-in-Name w ↦ let id = w.in_ok-id-in-Name.ensures
      ∙ ap (λ v. id_of (rules_of c.args.rules.now) v) w.deref-in-Name.ensures.value in
      rw (w.in-Name.is, w.node-is, element-Name) (o.leaf_numbers _ _
      (rw (w.numbered-is, w.node-is) at c.in_ok-n.ensures.nodes) (rw w.numbered-is at c.in_ok-n.ensures.number)
      (rw (w.numbered-is, w.node-is) at c.in_ok-n.ensures.nulls) (λ i m h. h) refl
      (shows_name id) (rw (w.mark.ensures, id) (c.requires.marks _)))
  | number-in-Prose w ↦ rw (w.in-Prose.is, w.node-is, element-Prose)
      (o.leaf_numbers _ _ (rw (w.numbered-is, w.node-is) at c.in_ok-n.ensures.nodes)
      (rw w.numbered-is at c.in_ok-n.ensures.number)
      (rw (w.numbered-is, w.node-is) at c.in_ok-n.ensures.nulls) (λ i m h. h) refl shows_prose (m.prose_settles _ _))
]

pub number_all-loop-member-init : goal.number_all-loop-member-init
number_all-loop-member-init t c = o.no_members _ _ _ _ _ c.new-numbers.ensures.items

pub number_all-loop-member-preserved : goal.number_all-loop-member-preserved
number_all-loop-member-preserved t c = rw (c.in_ok-push.ensures.items)
    (o.next_member _ c.loop-member-test.true c.member-item.is c.loop-member.invariant c.in_ok-made.ensures)
