-- A branch derives the first texts, and branches derive all.
use Rattle.std.proofs.Common.{arith, subst, take}
use Rattle.std.proofs.lemmas.List.{length-drop, take_all, take_rest}
use Rattle.abnfread.proofs.ElementLemmas.{element-Alt}
use Rattle.abnfread.specs.AbnfViews.{element_of, elements_of}
use Rattle.abnfread.specs.Element.{Alt}
use Rattle.abnfrun.specs.FactoredChoices.{DerivesThese, IsSpelling}
use Rattle.abnfrun.proofs.FactoredChoicesLemmas.{Texts, branch_more, first_branch, headed_choice, no_choice}
use Rattle.abnfrun.proofs.FactoredChoicesLemmas.{shared_heads}
use Rattle.abnfrun.proofs.factored.+branching.Goals as goal

pub branches-loop-at-init : goal.branches-loop-at-init
branches-loop-at-init t c = record {
  within = omega arith;
  derives = rw c.new-members.ensures.items (no_choice c.args.folds c.args.from);
}

pub branches-loop-at-preserved : goal.branches-loop-at-preserved
branches-loop-at-preserved t c = record {
  within = (let count = c.in_ok-made.ensures.count in let low = c.loop-at.invariant.within in
      omega (arith, rw take_rest at count, length-drop c.loop-at.at c.args.texts.now, low));
  derives = branch_more c.args.folds c.args.from c.args.texts.now c.loop-at.at c.in_ok-made.made.count
      c.loop-at.members.items c.push.new.self.items c.in_ok-made.made.elem c.loop-at.invariant.derives
      (rw take_rest at c.in_ok-made.ensures.derives) c.in_ok-push.ensures.items;
}

pub branches-returns : goal.branches-returns
branches-returns t c = record {
  derives = (
      let past = c.loop-at-test.false in
      rw (element-Alt c.loop-at.members) (subst (λ (texts : Texts). DerivesThese (IsSpelling c.args.folds c.args.from
      texts) (Alt (elements_of c.loop-at.members.items)))
      (take_all c.loop-at.at c.args.texts.now (omega (arith, past))) c.loop-at.invariant.derives)
      );
}

pub next_branch-returns-then-run-lt-FEW-clause-derives :
    goal.next_branch-returns-then-run-lt-FEW-clause-derives
next_branch-returns-then-run-lt-FEW-clause-derives t c =
    first_branch c.args.folds c.args.from c.args.texts.now c.index-texts-0.result (element_of c.in_ok-elem.elem)
    c.requires.some c.index-texts-0.is (rw (take_rest, c.as_slice-first.ensures.value) at c.in_ok-elem.ensures)

pub next_branch-returns-clause-derives : goal.next_branch-returns-clause-derives
next_branch-returns-clause-derives t c =
    let run = c.run_of-run.ensures in
    rw c.in_ok-elem-2.ensures
    (headed_choice c.args.folds c.args.from c.run_of-run.result.end _
    (take c.run_of-run.result.count c.args.texts.now) (element_of c.in_ok-rest.rest)
    (shared_heads c.as_slice-first.result.now c.args.from c.run_of-run.result.end
    (take c.run_of-run.result.count c.args.texts.now) run.from run.within run.shared)
    c.in_ok-rest.ensures.derives)
