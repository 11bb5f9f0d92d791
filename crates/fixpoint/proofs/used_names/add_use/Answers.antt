-- The row has one id more.
use Rattle.fixpoint.proofs.IsScannedLemmas.{scan_more}
use Rattle.fixpoint.proofs.used_names.add_use.Goals as goal

pub returns-clause-scanned : goal.returns-clause-scanned
returns-clause-scanned c = λ case known seen uses s.
    rw c.in_ok-push.ensures.items (scan_more case known seen uses c.args.names.now c.add_name.new.names
    c.args.row.now.items c.args.name.now c.in_ok-id.id s c.in_ok-id.ensures)
