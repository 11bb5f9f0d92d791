use Rattle.std.proofs.Common.{arith}
use Rattle.std.proofs.lemmas.Result.{IfOk-weaker, MatchResult-weaker}
use Rattle.abnfread.specs.AbnfViews.{rules_of}
use Rattle.ruletable.specs.Letters.{has}
use Rattle.lowering.proofs.LoweredLemmas.{ok_both}
use Rattle.lowering.proofs.ArePrunedLemmas.{gives_prefixes, positions_left}
use Rattle.lowering.proofs.viable_lowered.lower_viable.Goals as goal

pub returns-clause-prefixes : goal.returns-clause-prefixes
returns-clause-prefixes c = IfOk-weaker c.lower_rules.result _ _ (λ flat lowered.
    gives_prefixes (has c.args.alphabet) (rules_of c.args.grammar.now.rules) (rules_of c.in_ok-rules.rules)
    c.in_ok-rules.ensures.pruned c.args.grammar.now.judged flat lowered) c.lower_rules.ensures.lowered

pub returns-clause-positions : goal.returns-clause-positions
returns-clause-positions c =
    let less = positions_left (has c.args.alphabet) (rules_of c.args.grammar.now.rules) (rules_of c.in_ok-rules.rules)
    c.args.limit c.in_ok-rules.ensures.pruned in
    IfOk-weaker c.lower_rules.result _ _ (λ flat all. omega (arith, all, less)) c.lower_rules.ensures.positions

pub returns-clause-parts : goal.returns-clause-parts
returns-clause-parts c =
    let made = c.lower_rules.ensures in
    let facts = ok_both c.lower_rules.result _ _ made.lowered
    (ok_both c.lower_rules.result _ _ made.limit made.positions) in
    MatchResult-weaker c.lower_rules.result facts (λ flat is. record {
      left = rules_of c.in_ok-rules.rules;
      pruned = c.in_ok-rules.ensures.pruned;
      spelled = is.0;
      within = rw is.1.0 is.1.1;
    }) (λ _ _. tt)
