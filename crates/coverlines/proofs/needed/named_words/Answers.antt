-- One site more.
use Rattle.std.proofs.Common.{◌∙◌, [], Vec, Global, ap}
use Rattle.coverlines.specs.declared.needed.RuleWord.{RuleWord}
use Rattle.coverlines.proofs.RuleBasesLemmas as b
use Rattle.coverlines.proofs.needed.named_words.Goals as goal
use Rattle.coverlines.proofs.needed.named_words.Goals.{in-Some+in_ok-push, in_default}

pub loop-site-init : goal.loop-site-init
loop-site-init c = rw c.new-found.ensures.items (b.no_named_words c.args.words.now [])

pub loop-site-preserved : goal.loop-site-preserved
loop-site-preserved c = elim c.match-branch-2.branch [
  | in-Some+in_ok-push w ↦ b.next_named c.args.words.now c.args.sites.now c.loop-site.site-index c.site-item.result
      c.loop-site-test.true c.site-item.is c.loop-site.found.items c.match-branch-2.found.items w.in-Some.named
      (ap (λ (v : Vec RuleWord Global). v.items) w.found-is ∙ w.in_ok-push.ensures.items)
      (rw w.in-Some.is at c.in_ok-named.ensures) c.loop-site.invariant
  | in_default w ↦ rw w.found-is (b.same_named c.args.words.now c.args.sites.now c.loop-site.site-index
      c.site-item.result c.loop-site-test.true c.site-item.is c.loop-site.found.items c.loop-site.invariant)
]

pub returns : goal.returns
returns c = b.all_named c.args.words.now c.args.sites.now c.loop-site.site-index c.loop-site.found.items
    c.loop-site-test.false c.loop-site.invariant
