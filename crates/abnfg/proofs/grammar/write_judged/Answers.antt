-- Notes reject the rules, and nothing is written.
use Rattle.std.proofs.Common.{[], Some, false}
use Rattle.toolrun.proofs.IsRightLemmas.{stops_at_once}
use Rattle.toolrun.specs.declared.status.Status.TheVariants.{Refused}
use Rattle.toolrun.specs.declared.stop.Stop.TheVariants.{Quiet}
use Rattle.abnfg.proofs.grammar.write_judged.Goals as goal

pub returns-in-None : goal.returns-in-None
returns-in-None g c = rw c.in-None.is (stops_at_once (Quiet Refused) (Some []) (g.O.Sink.contents c.args.out.now) false
    false (g.O.Sink.failed c.args.out.now))
