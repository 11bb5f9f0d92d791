-- The goals of each kind of element, and within an operand more.
use Rattle.std.proofs.Common.{◌∙◌, ℕ, ◌+◌, add-one, ap, drop, map, subst}
use Rattle.std.proofs.lemmas.Result.{IfOk-weaker}
use Rattle.abnfread.specs.AbnfViews.{element_of, elements_of}
use Rattle.abnfread.proofs.ElementLemmas.{element-Alt, element-Concat, element-Name, element-Opt, element-Prose}
use Rattle.abnfread.proofs.ElementLemmas.{element-Range, element-Rep, element-Text, element-Values}
use Rattle.abnfread.specs.Element.{Alt, Concat, Opt, Rep}
use Rattle.coverlines.specs.MissedGoals.{goals_from, goals_in, own_goals, under}
use Rattle.coverlines.specs.Shortest.{IsShortest, SpellsAll}
use Rattle.coverlines.proofs.MissedGoalsLemmas as m
use Rattle.coverlines.proofs.SitesLemmas as p
use Rattle.coverlines.proofs.missed.+missed.Goals as goal

pub add_in_members-loop-i-init : goal.add_in_members-loop-i-init
add_in_members-loop-i-init t c = λ rules known. m.adds_no_goals c.args.words.now.bounds rules c.args.rule
    (Concat (elements_of c.args.members.now)) c.args.room c.args.found.now.items

pub add_in_members-loop-i-preserved : goal.add_in_members-loop-i-preserved
add_in_members-loop-i-preserved t c = λ rules known. m.next_member c.args.words.now.bounds rules c.args.rule
    c.args.members.now c.loop-i.i c.index-members-i.result c.loop-i-test.true c.index-members-i.is
    c.in_ok-front.front c.in_ok-back.back c.args.room c.room_inside-inner.result c.args.found.now.items
    c.loop-i.found.items c.add_missed.new.found.items (c.in_ok-front.ensures rules known)
    (subst (λ es. IsShortest (SpellsAll c.args.words.now.bounds rules (elements_of es)) c.args.words.now.bounds.limit
    c.in_ok-back.back) (p.rest_taken c.args.members.now (c.loop-i.i + 1) ∙ ap (λ (k : ℕ). drop k c.args.members.now)
    (add-one c.loop-i.i)) (c.in_ok-back.ensures rules known))
    c.room_inside-inner.ensures (c.loop-i.invariant rules known) (c.in_ok-add_missed.ensures rules known)

pub add_in_members-returns : goal.add_in_members-returns
add_in_members-returns t c = λ rules known. m.all_operands c.args.words.now.bounds rules c.args.rule
    (Concat (elements_of c.args.members.now)) c.args.room c.args.members.now c.loop-i.i c.args.found.now.items
    c.loop-i.found.items c.loop-i-test.false (c.loop-i.invariant rules known)

pub add_in_alternatives-loop-alternative-init : goal.add_in_alternatives-loop-alternative-init
add_in_alternatives-loop-alternative-init t c = λ rules known. m.adds_no_goals c.args.words.now.bounds rules
    c.args.rule (Alt (elements_of c.args.alternatives.now)) c.args.room c.args.found.now.items

pub add_in_alternatives-loop-alternative-preserved : goal.add_in_alternatives-loop-alternative-preserved
add_in_alternatives-loop-alternative-preserved t c = λ rules known. m.next_alternative c.args.words.now.bounds rules
    c.args.rule c.args.alternatives.now c.loop-alternative.alternative-index c.alternative-item.result
    c.loop-alternative-test.true c.alternative-item.is c.args.room c.args.found.now.items
    c.loop-alternative.found.items c.add_missed.new.found.items (c.loop-alternative.invariant rules known)
    (c.in_ok-add_missed.ensures rules known)

pub add_in_alternatives-returns : goal.add_in_alternatives-returns
add_in_alternatives-returns t c = λ rules known. m.all_operands c.args.words.now.bounds rules c.args.rule
    (Alt (elements_of c.args.alternatives.now)) c.args.room c.args.alternatives.now
    c.loop-alternative.alternative-index c.args.found.now.items c.loop-alternative.found.items
    c.loop-alternative-test.false (c.loop-alternative.invariant rules known)

pub add_missed-returns-in-Concat : goal.add_missed-returns-in-Concat
add_missed-returns-in-Concat t c = IfOk-weaker c.add_in_members.result _ _ (λ done adds rules known.
    rw (c.in-Concat.is, element-Concat) (m.adds_goals c.args.words.now.bounds rules c.args.rule
    (Concat (elements_of c.in-Concat.members.items)) c.args.room
    (own_goals (Concat (elements_of c.in-Concat.members.items)))
    (goals_from 0 (elements_of c.in-Concat.members.items)) c.args.found.now.items c.add_own.new.found.items
    c.add_in_members.new.found.items
    (rw (c.in-Concat.is, element-Concat) at (c.in_ok-add_own.ensures rules known))
    (rw c.deref.ensures.value at (adds rules known)))) c.add_in_members.ensures

pub add_missed-returns-in-Alt : goal.add_missed-returns-in-Alt
add_missed-returns-in-Alt t c = IfOk-weaker c.add_in_alternatives.result _ _ (λ done adds rules known.
    rw (c.in-Alt.is, element-Alt) (m.adds_goals c.args.words.now.bounds rules c.args.rule
    (Alt (elements_of c.in-Alt.alternatives.items)) c.args.room
    (own_goals (Alt (elements_of c.in-Alt.alternatives.items)))
    (goals_from 0 (elements_of c.in-Alt.alternatives.items)) c.args.found.now.items c.add_own.new.found.items
    c.add_in_alternatives.new.found.items
    (rw (c.in-Alt.is, element-Alt) at (c.in_ok-add_own.ensures rules known))
    (rw c.deref-in-Alt.ensures.value at (adds rules known)))) c.add_in_alternatives.ensures

pub add_missed-returns-in_ok-back-in-Rep : goal.add_missed-returns-in_ok-back-in-Rep
add_missed-returns-in_ok-back-in-Rep t c = IfOk-weaker c.add_missed.result _ _ (λ done adds rules known.
    rw (c.in-Rep.is, element-Rep) (m.adds_goals c.args.words.now.bounds rules c.args.rule
    (Rep c.in-Rep.least c.in-Rep.most (element_of c.in-Rep.operand.value)) c.args.room
    (own_goals (Rep c.in-Rep.least c.in-Rep.most (element_of c.in-Rep.operand.value)))
    (map (under 0) (goals_in (element_of c.in-Rep.operand.value))) c.args.found.now.items c.add_own.new.found.items
    c.add_missed.new.found.items
    (rw (c.in-Rep.is, element-Rep) at (c.in_ok-add_own.ensures rules known))
    (m.rounds_goals c.args.words.now.bounds rules c.args.rule c.in-Rep.least c.in-Rep.most
    (element_of c.in-Rep.operand.value) c.new.result c.in_ok-back-in-Rep.back c.args.room c.room_inside-inner.result
    c.add_own.new.found.items c.add_missed.new.found.items c.new.ensures.items
    (rw c.deref-in-Rep.ensures at (c.in_ok-back-in-Rep.ensures rules known)) c.room_inside-inner.ensures
    (rw c.deref-in-Rep-2.ensures at (adds rules known))))) c.add_missed.ensures

pub add_missed-returns-in-Opt : goal.add_missed-returns-in-Opt
add_missed-returns-in-Opt t c = IfOk-weaker c.add_missed-in-Opt.result _ _ (λ done adds rules known.
    rw (c.in-Opt.is, element-Opt) (m.adds_goals c.args.words.now.bounds rules c.args.rule
    (Opt (element_of c.in-Opt.operand.value)) c.args.room (own_goals (Opt (element_of c.in-Opt.operand.value)))
    (map (under 0) (goals_in (element_of c.in-Opt.operand.value))) c.args.found.now.items c.add_own.new.found.items
    c.add_missed-in-Opt.new.found.items
    (rw (c.in-Opt.is, element-Opt) at (c.in_ok-add_own.ensures rules known))
    (m.option_goals c.args.words.now.bounds rules c.args.rule (element_of c.in-Opt.operand.value) c.args.room
    c.add_own.new.found.items c.add_missed-in-Opt.new.found.items
    (rw c.deref-in-Opt.ensures at (adds rules known))))) c.add_missed-in-Opt.ensures

pub add_missed-returns-in-Text : goal.add_missed-returns-in-Text
add_missed-returns-in-Text t c = λ rules known.
    rw (c.in-Text.is, element-Text) (rw (c.in-Text.is, element-Text) at (c.in_ok-add_own.ensures rules known))

pub add_missed-returns-in-Values : goal.add_missed-returns-in-Values
add_missed-returns-in-Values t c = λ rules known.
    rw (c.in-Values.is, element-Values) (rw (c.in-Values.is, element-Values) at (c.in_ok-add_own.ensures rules known))

pub add_missed-returns-in-Range : goal.add_missed-returns-in-Range
add_missed-returns-in-Range t c = λ rules known.
    rw (c.in-Range.is, element-Range) (rw (c.in-Range.is, element-Range) at (c.in_ok-add_own.ensures rules known))

pub add_missed-returns-in-Name : goal.add_missed-returns-in-Name
add_missed-returns-in-Name t c = λ rules known.
    rw (c.in-Name.is, element-Name) (rw (c.in-Name.is, element-Name) at (c.in_ok-add_own.ensures rules known))

pub add_missed-returns-in-Prose : goal.add_missed-returns-in-Prose
add_missed-returns-in-Prose t c = λ rules known.
    rw (c.in-Prose.is, element-Prose) (rw (c.in-Prose.is, element-Prose) at (c.in_ok-add_own.ensures rules known))
