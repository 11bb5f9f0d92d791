-- What was seen, and what was written of it.
use Rattle.std.proofs.Common.{rules}
use Rattle.toolrun.specs.Stream.{passed}
use Rattle.linejudge.proofs.LineRunLemmas.{lines_were_run, no_line_was_run}
use Rattle.linejudge.proofs.line_loop.run_lines.Goals as goal

pub returns-in-Err : goal.returns-in-Err
returns-in-Err g c = no_line_was_run (g.J.Judge.reported c.args.judge.now) (g.J.Judge.explains c.args.judge.now)
    (g.J.Judge.refusal c.args.judge.now) (g.J.Judge.costly c.args.judge.now) c.args.form c.decided.ensures _ _ _ _ _

pub returns-in_default : goal.returns-in_default
returns-in_default g c = no_line_was_run (g.J.Judge.reported c.args.judge.now) (g.J.Judge.explains c.args.judge.now)
    (g.J.Judge.refusal c.args.judge.now) (g.J.Judge.costly c.args.judge.now) c.args.form c.decided.ensures _ _ _ _ _

pub returns : goal.returns
returns g c =
    lines_were_run (g.J.Judge.reported c.args.judge.now) (g.J.Judge.explains c.args.judge.now)
    (g.J.Judge.refusal c.args.judge.now) (g.J.Judge.costly c.args.judge.now) c.args.form c.decided.ensures
    g.R.Source.remaining
    g.R.Source.failed g.R.Source.ended c.args.reader.now c.answer_lines-ending.new.feed.reader.now _
    (passed g.O.Sink.contents g.O.Sink.failed c.args.out.now c.answer_lines-ending.new.out)
    c.answer_lines-ending.new.feed.left c.answer_lines-ending.new.feed.flow c.answer_lines-ending.result (search rules)
    c.answer_lines-ending.ensures.reported
    (rw c.new-feed.ensures.loan at c.answer_lines-ending.ensures.lines) c.answer_lines-ending.ensures.flag
