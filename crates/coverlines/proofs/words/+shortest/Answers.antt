-- Each kind of element, and a member or an alternative more.
use Rattle.std.proofs.Common.{sym, subst, take}
use Rattle.std.proofs.lemmas.Result.{IfOk-weaker}
use Rattle.abnfread.specs.AbnfViews.{element_of, elements_of}
use Rattle.abnfread.proofs.ElementLemmas.{element-Text, element-Values, element-Range, element-Concat, element-Alt}
use Rattle.abnfread.proofs.ElementLemmas.{element-Rep, element-Opt, element-Name}
use Rattle.coverlines.specs.Shortest.{IsShortest, SpellsAll, SpellsSome}
use Rattle.coverlines.proofs.ShortestLemmas.{rep_least}
use Rattle.coverlines.proofs.WordsLemmas as w
use Rattle.coverlines.proofs.words.+shortest.Goals as goal

pub shortest-returns-in_ok-word-in-Text : goal.shortest-returns-in_ok-word-in-Text
shortest-returns-in_ok-word-in-Text t c = λ rules known. rw (c.in-Text.is, element-Text)
    (w.text_shortest c.args.words.now.bounds rules c.in-Text.folds c.in-Text.text.items c.in_ok-word-in-Text.word.items
    c.admitted.result (rw c.deref.ensures.value at c.in_ok-word-in-Text.ensures.spelled)
    (rw c.deref.ensures.value at c.in_ok-word-in-Text.ensures.best) c.admitted.ensures)

pub shortest-returns-in_ok-word-in-Values : goal.shortest-returns-in_ok-word-in-Values
shortest-returns-in_ok-word-in-Values t c = λ rules known. rw (c.in-Values.is, element-Values)
    (w.values_shortest c.args.words.now.bounds rules c.in-Values.values.items c.admitted-in-Values.result
    (rw (c.in_ok-word-in-Values.ensures.items, c.deref-in-Values.ensures.value) at c.admitted-in-Values.ensures))

pub shortest-returns-in-Range : goal.shortest-returns-in-Range
shortest-returns-in-Range t c = IfOk-weaker c.one_symbol.result _ _ (λ found one rules known.
    rw (c.in-Range.is, element-Range) (w.range_shortest c.args.words.now.bounds rules c.in-Range.low c.in-Range.high
    c.first_between.result found c.first_between.ensures one)) c.one_symbol.ensures

pub shortest-returns-in-Concat : goal.shortest-returns-in-Concat
shortest-returns-in-Concat t c = IfOk-weaker c.shortest_all.result _ _ (λ found all rules known.
    rw (c.in-Concat.is, element-Concat) (w.concat_shortest c.args.words.now.bounds rules
    (elements_of c.in-Concat.members.items) found (rw c.deref-in-Concat.ensures.value at (all rules known))))
    c.shortest_all.ensures

pub shortest-returns-in-Alt : goal.shortest-returns-in-Alt
shortest-returns-in-Alt t c = IfOk-weaker c.shortest_some.result _ _ (λ found some rules known.
    rw (c.in-Alt.is, element-Alt) (w.alt_shortest c.args.words.now.bounds rules
    (elements_of c.in-Alt.alternatives.items) found (rw c.deref-in-Alt.ensures.value at (some rules known))))
    c.shortest_some.ensures

pub shortest-returns-in_ok-round-in-Rep : goal.shortest-returns-in_ok-round-in-Rep
shortest-returns-in_ok-round-in-Rep t c = IfOk-weaker c.repeated.result _ _ (λ found rounds rules known.
    rw (c.in-Rep.is, element-Rep) (rep_least c.args.words.now.bounds rules c.in-Rep.least c.in-Rep.most
    (element_of c.in-Rep.operand.value) c.args.words.now.bounds.limit found
    (rw c.from.ensures at ((c.allows.ensures.0 c.if-not-allows.false).1))
    (rw c.from-in-Rep.ensures at (rounds c.args.words.now.bounds rules (element_of c.in-Rep.operand.value)
    (rw c.deref-in-Rep.ensures at (c.in_ok-round-in-Rep.ensures rules known)))))) c.repeated.ensures

pub shortest-returns-in-Opt : goal.shortest-returns-in-Opt
shortest-returns-in-Opt t c = λ rules known. rw (c.in-Opt.is, element-Opt)
    (w.opt_shortest c.args.words.now.bounds rules (element_of c.in-Opt.field-0.value) c.new.result.items
    c.new.ensures.items)

pub shortest-returns-in-Name : goal.shortest-returns-in-Name
shortest-returns-in-Name t c = IfOk-weaker c.known_word.result _ _ (λ found word rules known.
    rw (c.in-Name.is, element-Name) (rw c.deref-in-Name.ensures.value at (word rules known))) c.known_word.ensures

pub shortest_all-loop-member-init : goal.shortest_all-loop-member-init
shortest_all-loop-member-init t c = λ rules known.
    w.all_of_none c.args.words.now.bounds rules c.new.result.items c.new.ensures.items

pub shortest_all-loop-member-preserved : goal.shortest_all-loop-member-preserved
shortest_all-loop-member-preserved t c = λ rules known. subst
    (λ es. IsShortest (SpellsAll c.args.words.now.bounds rules es) c.args.words.now.bounds.limit c.in_ok-all.all)
    (sym (w.next_elements c.args.members.now c.loop-member.member-index c.member-item.result c.loop-member-test.true
    c.member-item.is)) (c.in_ok-all.ensures c.args.words.now.bounds rules
    (elements_of (take c.loop-member.member-index c.args.members.now)) (element_of c.member-item.result)
    (c.loop-member.invariant rules known) (c.in_ok-next.ensures rules known))

pub shortest_some-loop-alternative-preserved : goal.shortest_some-loop-alternative-preserved
shortest_some-loop-alternative-preserved t c = λ rules known. subst
    (λ es. IsShortest (SpellsSome c.args.words.now.bounds rules es) c.args.words.now.bounds.limit
    c.shorter-best.result)
    (sym (w.next_elements c.args.alternatives.now c.loop-alternative.alternative-index c.alternative-item.result
    c.loop-alternative-test.true c.alternative-item.is)) (c.shorter-best.ensures c.args.words.now.bounds rules
    (elements_of (take c.loop-alternative.alternative-index c.args.alternatives.now))
    (element_of c.alternative-item.result) c.args.words.now.bounds.limit (c.loop-alternative.invariant rules known)
    (c.in_ok-next.ensures rules known))
