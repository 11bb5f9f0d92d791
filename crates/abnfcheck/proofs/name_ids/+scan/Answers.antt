-- The names in one more member, and in each kind of element.
use Rattle.std.proofs.Common.{◌++◌, ◌∙◌, subst, arith}
use Rattle.std.proofs.lemmas.List.{take_all}
use Rattle.ruletable.specs.declared.table.NameCase.TheVariants.{Fold}
use Rattle.fixpoint.specs.NameUses.{IsScanned}
use Rattle.abnfread.specs.AbnfViews.{elements_of}
use Rattle.abnfread.proofs.ElementLemmas.{element-Concat, element-Alt, element-Rep, element-Opt, element-Name}
use Rattle.abnfcheck.specs.AbnfUses.{names_in_all}
use Rattle.abnfcheck.proofs.NameIdsLemmas.{scan_next}
use Rattle.abnfcheck.proofs.name_ids.+scan.Goals as goal

pub add_all_names-loop-member-preserved : goal.add_all_names-loop-member-preserved
add_all_names-loop-member-preserved t c = record {
  folds = c.in_ok-add_names.ensures.folds;
  scanned = λ known seen uses s.
      scan_next known seen uses c.args.members.now c.loop-member.member-index c.member-item.result c.add_names.new.names
      c.add_names.new.row.items c.loop-member-test.true c.member-item.is
      (c.in_ok-add_names.ensures.scanned known _ _ (c.loop-member.invariant.scanned known seen uses s));
}

pub add_all_names-returns-clause-scanned : goal.add_all_names-returns-clause-scanned
add_all_names-returns-clause-scanned t c = λ known seen uses s.
    subst (λ l. IsScanned Fold known (seen ++ names_in_all (elements_of l)) (uses ++ names_in_all (elements_of l))
    c.loop-member.names c.loop-member.row.items)
    (take_all c.loop-member.member-index c.args.members.now
    (let past = c.loop-member-test.false in omega (arith, past)))
    (c.loop-member.invariant.scanned known seen uses s)

pub add_names-returns-in_ok-add_use-in-Name-clause-folds : goal.add_names-returns-in_ok-add_use-in-Name-clause-folds
add_names-returns-in_ok-add_use-in-Name-clause-folds t c = c.in_ok-add_use-in-Name.ensures.case ∙ c.requires

pub add_names-returns-in_ok-add_use-in-Name-clause-scanned : goal.add_names-returns-in_ok-add_use-in-Name-clause-scanned
add_names-returns-in_ok-add_use-in-Name-clause-scanned t c = λ known seen uses s.
    rw (c.in-Name.is, element-Name) (rw c.deref.ensures.value at
    (c.in_ok-add_use-in-Name.ensures.scanned Fold known seen uses s))

pub add_names-returns-in-Concat-clause-scanned : goal.add_names-returns-in-Concat-clause-scanned
add_names-returns-in-Concat-clause-scanned t c =
    rw (c.in-Concat.is, element-Concat) (rw c.deref-in-Concat.ensures.value at c.add_all_names.ensures.scanned)

pub add_names-returns-in-Alt-clause-scanned : goal.add_names-returns-in-Alt-clause-scanned
add_names-returns-in-Alt-clause-scanned t c = rw (c.in-Alt.is, element-Alt)
    (rw c.deref-in-Alt.ensures.value at c.add_all_names-in-Alt.ensures.scanned)

pub add_names-returns-in-Rep-clause-scanned : goal.add_names-returns-in-Rep-clause-scanned
add_names-returns-in-Rep-clause-scanned t c = rw (c.in-Rep.is, element-Rep)
    (rw c.deref-in-Rep.ensures at c.add_names.ensures.scanned)

pub add_names-returns-in-Opt-clause-scanned : goal.add_names-returns-in-Opt-clause-scanned
add_names-returns-in-Opt-clause-scanned t c = rw (c.in-Opt.is, element-Opt)
    (rw c.deref-in-Opt.ensures at c.add_names-in-Opt.ensures.scanned)
