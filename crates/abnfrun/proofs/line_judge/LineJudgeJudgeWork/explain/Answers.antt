-- The flat grammar for lines of one letter more explains them.
use Rattle.abnfrun.proofs.line_judge.LineJudgeJudgeWork.explain.Goals as goal

pub explain_line-requires-clause-explains : goal.explain_line-requires-clause-explains
explain_line-requires-clause-explains c =
    (rw c.in-Some.is at c.requires.work.1).0
