-- A grammar with loops derives the lines of those rules that are reached.
use Rattle.abnfcheck.proofs.ReachedGrammarLemmas.{lines_reached}
use Rattle.abnfcheck.proofs.UnrolledRulesLemmas.{lines_unrolled}
use Rattle.abnfrun.proofs.loops.loop_grammar.Goals as goal

pub returns : goal.returns
returns c = λ has w.
    let kept = c.in_ok-kept.kept in
    let reached = lines_reached c.args.grammar.now kept c.in_ok-kept.ensures has w in
    let same = lines_unrolled kept c.in_ok-made.made c.in_ok-made.ensures has w in
    (λ d. reached.0 (same.0 d), λ d. same.1 (reached.1 d))
