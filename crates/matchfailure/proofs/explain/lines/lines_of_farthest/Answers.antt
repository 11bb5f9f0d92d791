use Rattle.std.proofs.Common.{List, sym, subst, length}
use Rattle.matchfailure.specs.FittingFailures.{AreFitting}
use Rattle.matchfailure.specs.declared.farthest.visit.Visit.{Visit}
use Rattle.matchfailure.proofs.explain.lines.lines_of_farthest.Goals as goal

pub push_expected-requires-clause-fitting : goal.push_expected-requires-clause-fitting
push_expected-requires-clause-fitting c =
    subst (λ (vs : List Visit). AreFitting (length c.args.peg.now.nodes) c.args.unit vs) (sym c.deref.ensures.value)
    c.in_ok-reported.ensures.fitting
