use Rattle.std.proofs.Common.{sym, ap, arith, ◌∙◌}
use Rattle.packrat.proofs.KeptAtLemmas.{none_kept}
use Rattle.packrat.specs.Stands.{kept_joined}
use Rattle.packrat.specs.EventLog.{kept_at}
use Rattle.packrat.proofs.machine.joined.Goals as goal

pub returns-in-Failed-clause-joined : goal.returns-in-Failed-clause-joined
returns-in-Failed-clause-joined c = record {
  found = sym c.in-Failed.is;
  is = omega arith;
  kept = none_kept c.args.events.now
      ∙ ap (λ v. kept_joined v (kept_at c.args.events.now c.args.first)
      (kept_at c.args.events.now c.args.given.events)) (sym c.in-Failed.is);
}
