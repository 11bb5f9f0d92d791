-- The nodes of the rules' bodies are there.
use Rattle.std.proofs.Common.{subst, sym}
use Rattle.std.proofs.lemmas.List.{length-map}
use Rattle.fixpoint.specs.NumberMarks.{AreBelow}
use Rattle.pegnodes.specs.Nodes.{shape_of}
use Rattle.pegread.specs.PegViews.{rules_of}
use Rattle.gramcheck.specs.Grammar.{IsRankedFor}
use Rattle.gramcheck.proofs.PrintMarksLemmas.{bodies_below}
use Rattle.gramcheck.proofs.ranked.RankedNodes.ready.Goals as goal

pub tables_of-requires-clause-bodies : goal.tables_of-requires-clause-bodies
tables_of-requires-clause-bodies c =
    let r = subst (IsRankedFor (rules_of c.args.rules)) (sym c.self.view_is) c.requires in
    subst (λ n. AreBelow c.self.inside.cut.bodies.items n)
    (length-map c.self.inside.cut.nodes.items shape_of) (bodies_below _ _ _ r.ranked.spelled)
