use Rattle.std.proofs.Common.{◌++◌, ◌∙◌, ap}
use Rattle.diagnostics.specs.MentionLines.{mention_lines_by}
use Rattle.pegexplain.specs.CodeHints.{hint_found, literal_at}
use Rattle.pegexplain.specs.PegHints.{hint_reported}
use Rattle.pegexplain.specs.declared.hints.hints.Hint.{Hint}
use Rattle.pegexplain.proofs.PegHintsLemmas.{reported-more}
use Rattle.pegexplain.proofs.hints.reported.push_hints.Goals as goal

pub loop-hint-preserved : goal.loop-hint-preserved
loop-hint-preserved c =
    let positions = c.args.positions.now in
    reported-more hint_found (hint_reported (literal_at positions.rules) (mention_lines_by positions.positions))
    c.args.hints.now c.loop-hint.hint-index c.hint-item.result c.args.out.now.items c.loop-hint.out.items
    c.push_hint.new.out.items c.loop-hint-test.true
    (c.in_ok-push_hint.ensures ∙ ap (λ (h : Hint). c.loop-hint.out.items ++ hint_reported (literal_at positions.rules)
    (mention_lines_by positions.positions) (hint_found h)) c.hint-item.is) c.loop-hint.invariant
