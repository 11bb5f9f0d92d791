use Rattle.uses.proofs.CommentLemmas.{comment-answered}
use Rattle.uses.proofs.line_caller.CommentsJudgeUnit.decided.Goals as goal

pub returns : goal.returns
returns c = comment-answered
