use Rattle.earleyitems.proofs.AreScannedItemsLemmas.{scan_item, read_not}
use Rattle.earleyitems.proofs.scan.scan_item.Goals as goal

pub returns-in_ok-push-clause-added : goal.returns-in_ok-push-clause-added
returns-in_ok-push-clause-added c =
    scan_item c.args.flat.now c.args.value c.args.item _ _ (c.reads.ensures.value.0 c.if-reads.true)
    c.in_ok-push.ensures.pushed

pub returns-in_ok-push-clause-owners : goal.returns-in_ok-push-clause-owners
returns-in_ok-push-clause-owners c rows is are = c.in_ok-push.ensures.owners c.args.flat.now rows is are

pub returns-else-reads-clause-added : goal.returns-else-reads-clause-added
returns-else-reads-clause-added c = read_not c.args.flat.now c.args.value c.args.item c.args.set.now.items
    (λ r. let t = c.reads.ensures.value.1 r in let f = c.if-reads.false in absurd cc)

pub returns-else-reads-clause-owners : goal.returns-else-reads-clause-owners
returns-else-reads-clause-owners c rows is are = are
