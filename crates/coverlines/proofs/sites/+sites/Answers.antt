-- The sites of each kind of element, and of an operand more.
use Rattle.std.proofs.Common.{◌∙◌, ℕ, ◌+◌, Some, add-one, ap, drop, length, map, refl, subst}
use Rattle.std.proofs.lemmas.Result.{IfOk-weaker}
use Rattle.abnfread.specs.AbnfViews.{element_of, elements_of}
use Rattle.abnfread.proofs.ElementLemmas.{element-Concat, element-Alt}
use Rattle.abnfread.proofs.ElementLemmas.{element-Rep, element-Opt}
use Rattle.abnfread.specs.Element.{Alt, Concat}
use Rattle.abnfread.specs.declared.elem.Elem.{Elem}
use Rattle.coverlines.specs.Sites.{MayAddSites, stood_of}
use Rattle.coverlines.specs.Shortest.{IsShortest, SpellsAll}
use Rattle.coverlines.proofs.SitesLemmas as p
use Rattle.coverlines.proofs.sites.+sites.Goals as goal

pub add_inner-returns-in_default : goal.add_inner-returns-in_default
add_inner-returns-in_default t c = λ rules known. rw c.in_default.is refl

pub add_inner-returns : goal.add_inner-returns
add_inner-returns t c = IfOk-weaker c.add_wrapped.result _ _ (λ done added rules known.
    rw (c.in-Some.is, c.in-Some-back.is) (record {
      inner = map stood_of c.in_ok-inner.inner.items;
      sites = c.in_ok-inner.ensures rules known;
      is = rw c.deref.ensures.value at added;
    })) c.add_wrapped.ensures

pub add_members-loop-i-preserved : goal.add_members-loop-i-preserved
add_members-loop-i-preserved t c = λ rules known start. p.concat_added c.args.words.now.bounds rules c.args.members.now
    c.loop-i.i c.index-members-i.result c.in_ok-front.front c.in_ok-back.back (map stood_of c.loop-i.found.items)
    (map stood_of c.add_inner.new.found.items) c.loop-i-test.true c.index-members-i.is
    (c.in_ok-front.ensures rules known)
    (subst (λ es. IsShortest (SpellsAll c.args.words.now.bounds rules (elements_of es)) c.args.words.now.bounds.limit
    c.in_ok-back.back) (p.rest_taken c.args.members.now (c.loop-i.i + 1) ∙ ap (λ (k : ℕ). drop k c.args.members.now)
    (add-one c.loop-i.i)) (c.in_ok-back.ensures rules known))
    (c.loop-i.invariant rules known start) (c.in_ok-add_inner.ensures rules known)

pub add_alternatives-loop-alternative-preserved : goal.add_alternatives-loop-alternative-preserved
add_alternatives-loop-alternative-preserved t c = λ rules known start. p.alt_added c.args.words.now.bounds rules
    c.args.alternatives.now c.loop-alternative.alternative-index c.alternative-item.result c.new-front.result
    c.new-back.result (map stood_of c.loop-alternative.found.items) (map stood_of c.add_inner.new.found.items)
    c.loop-alternative-test.true c.alternative-item.is c.new-front.ensures.items c.new-back.ensures.items
    (c.loop-alternative.invariant rules known start) (c.in_ok-add_inner.ensures rules known)

pub add_operands-returns-in-Concat : goal.add_operands-returns-in-Concat
add_operands-returns-in-Concat t c = IfOk-weaker c.add_members.result _ _ (λ done adds rules known start.
    rw (c.in-Concat.is, element-Concat) (p.all_placed c.args.words.now.bounds rules
    (Concat (elements_of c.in-Concat.members.items)) (length c.in-Concat.members.items)
    (map stood_of c.add_members.new.found.items)
    (p.concat_below c.args.words.now.bounds rules c.in-Concat.members.items)
    ((rw c.deref.ensures.value at (adds rules known)) (rw (c.in-Concat.is, element-Concat) at start))))
    c.add_members.ensures

pub add_operands-returns-in-Alt : goal.add_operands-returns-in-Alt
add_operands-returns-in-Alt t c = IfOk-weaker c.add_alternatives.result _ _ (λ done adds rules known start.
    rw (c.in-Alt.is, element-Alt) (p.all_placed c.args.words.now.bounds rules
    (Alt (elements_of c.in-Alt.alternatives.items)) (length c.in-Alt.alternatives.items)
    (map stood_of c.add_alternatives.new.found.items)
    (p.alt_below c.args.words.now.bounds rules c.in-Alt.alternatives.items)
    ((rw c.deref-in-Alt.ensures.value at (adds rules known)) (rw (c.in-Alt.is, element-Alt) at start))))
    c.add_alternatives.ensures

pub add_operands-returns-in_ok-back-in-Rep : goal.add_operands-returns-in_ok-back-in-Rep
add_operands-returns-in_ok-back-in-Rep t c = IfOk-weaker c.add_inner.result _ _ (λ done adds rules known start.
    rw (c.in-Rep.is, element-Rep) (p.rep_placed c.args.words.now.bounds rules c.in-Rep.least c.in-Rep.most
    (element_of c.in-Rep.operand.value) c.new-front.result c.in_ok-back-in-Rep.back
    (map stood_of c.args.found.now.items) (map stood_of c.add_inner.new.found.items) c.new-front.ensures.items
    (rw c.deref-in-Rep.ensures at (c.in_ok-back-in-Rep.ensures rules known))
    (rw (c.in-Rep.is, element-Rep) at start)
    (subst (λ (x : Elem). MayAddSites c.args.words.now.bounds rules (element_of x) (Some c.new-front.result)
    c.in_ok-back-in-Rep.back (map stood_of c.args.found.now.items) (map stood_of c.add_inner.new.found.items))
    c.deref-in-Rep-2.ensures (adds rules known)))) c.add_inner.ensures

pub add_operands-returns-in-Opt : goal.add_operands-returns-in-Opt
add_operands-returns-in-Opt t c = IfOk-weaker c.add_inner-in-Opt.result _ _ (λ done adds rules known start.
    rw (c.in-Opt.is, element-Opt) (p.opt_placed c.args.words.now.bounds rules (element_of c.in-Opt.operand.value)
    c.new-front-in-Opt.result c.new-back.result (map stood_of c.args.found.now.items)
    (map stood_of c.add_inner-in-Opt.new.found.items) c.new-front-in-Opt.ensures.items c.new-back.ensures.items
    (rw (c.in-Opt.is, element-Opt) at start) (rw c.deref-in-Opt.ensures at (adds rules known))))
    c.add_inner-in-Opt.ensures

pub sites-returns : goal.sites-returns
sites-returns t c = λ rules known. p.sites_moved c.args.words.now.bounds rules (element_of c.args.e.now)
    c.min-own.result c.add_operands.new.found.items c.rotate_left.new.self.items c.rotate_left.ensures.items
    (c.in_ok-add_operands.ensures rules known
    (rw (c.in_ok-push.ensures.items, c.new-found.ensures.items) (p.whole_placed c.args.words.now.bounds rules
    (element_of c.args.e.now) (record {
      element = element_of c.args.e.now;
      before = c.empty-context.result.before.items;
      after = c.empty-context.result.after.items;
    }) refl c.empty-context.ensures.before c.empty-context.ensures.after)))
