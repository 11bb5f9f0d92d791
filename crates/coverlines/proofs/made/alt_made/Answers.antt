-- An alternative more.
use Rattle.std.proofs.Common.{arith}
use Rattle.abnfread.specs.AbnfViews.{element_of, elements_of}
use Rattle.coverlines.proofs.MadeLemmas as m
use Rattle.coverlines.proofs.SitesLemmas.{member_below, member_get}
use Rattle.abnfread.specs.Element.{Alt}
use Rattle.coverlines.proofs.made.alt_made.Goals as goal

pub loop-i-init : goal.loop-i-init
loop-i-init c = λ rules known. m.none_chosen c.args.words.now.bounds rules (Alt (elements_of c.args.alternatives.now))
    c.new-found.result.items c.new-found.ensures.items

pub loop-i-preserved : goal.loop-i-preserved
loop-i-preserved c = λ rules known. m.next_chosen c.args.words.now.bounds rules (elements_of c.args.alternatives.now)
    c.loop-i.i (element_of c.index-alternatives-i.result) c.in_ok-word.word c.loop-i.found.items
    c.push_made.new.found.items (member_get c.args.words.now.bounds rules c.args.alternatives.now c.loop-i.i
    c.index-alternatives-i.result c.loop-i-test.true c.index-alternatives-i.is) (c.in_ok-word.ensures rules known)
    (c.loop-i.invariant rules known) c.in_ok-push_made.ensures

pub returns : goal.returns
returns c = λ rules known. m.all_chosen c.args.words.now.bounds rules (elements_of c.args.alternatives.now) c.loop-i.i
    c.loop-i.found.items
    (λ i d is. let lt = member_below c.args.words.now.bounds rules c.args.alternatives.now i d is in
    let le = c.loop-i-test.false in omega (arith, lt, le)) (c.loop-i.invariant rules known)
