use Rattle.std.proofs.Common.{◌++◌, ◌∙◌, ap}
use Rattle.diagnostics.specs.MentionLines.{mention_lines_by}
use Rattle.pegexplain.specs.CodeLeaves.{rule_leaf_found}
use Rattle.pegexplain.specs.PegHints.{end_reported}
use Rattle.pegexplain.specs.declared.hints.leaves.RuleLeaf.{RuleLeaf}
use Rattle.pegexplain.proofs.PegHintsLemmas.{reported-more}
use Rattle.pegexplain.proofs.hints.ends.push_ends.Goals as goal

pub loop-end-preserved : goal.loop-end-preserved
loop-end-preserved c =
    let reported = end_reported (mention_lines_by c.args.positions.now.positions) in
    reported-more rule_leaf_found reported c.args.ends.now c.loop-end.end-index c.end-item.result c.args.out.now.items
    c.loop-end.out.items c.push_end.new.out.items c.loop-end-test.true
    (c.in_ok-push_end.ensures
    ∙ ap (λ (e : RuleLeaf). c.loop-end.out.items ++ reported (rule_leaf_found e)) c.end-item.is)
    c.loop-end.invariant
