-- Each line has an answer.
use Rattle.abnfread.specs.AbnfViews.{rules_of}
use Rattle.abnfrun.proofs.line_judge.LineJudgeJudgeWork.decided.Goals as goal

pub returns : goal.returns
returns c =
    let j = c.args.self.now in
    c.lines_have_answers.ensures j.letters j.viable (rules_of j.grammar.now.rules) j.grammar.now.judged
