use Rattle.std.proofs.Common.{map}
use Rattle.std.proofs.lemmas.List.{length-map}
use Rattle.earley.proofs.verdict.viable.Goals as goal

pub returns-clause-verdict : goal.returns-clause-verdict
returns-clause-verdict g c =
    c.verdict_by.ensures c.args.flat.now (map g.L.Letter.number c.args.line.now)
    (length-map c.args.line.now g.L.Letter.number) c.in_ok-derived.ensures.sets c.in_ok-derived.ensures.answer
