use Rattle.std.proofs.lemmas.List.{length-map}
use Rattle.earley.proofs.chart.judge_few.Goals as goal

pub returns-clause-answer : goal.returns-clause-answer
returns-clause-answer g c = rw (length-map c.args.line.now g.L.Letter.number) c.judge_within.ensures.answer
