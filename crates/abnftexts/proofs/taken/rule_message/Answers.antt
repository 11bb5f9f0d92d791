use Rattle.std.proofs.Common.{List, ℕ, map, subst, sym}
use Rattle.abnfblocks.specs.TextLines.{numbered}
use Rattle.abnftexts.specs.TextRules.{IsRuleReported, for_fault, for_list}
use Rattle.abnftexts.proofs.JoinedGrammarLemmas.{ok-more}
use Rattle.abnftexts.proofs.taken.rule_message.Goals as goal

pub returns-in-Some : goal.returns-in-Some
returns-in-Some c =
    let first = rw c.in-Some.is at c.in_ok-n.ensures in
    let rows = map numbered c.args.lines.now in
    ok-more _ (λ m. IsRuleReported c.args.asks c.args.name.now rows c.args.fault m.items) c.list_message.result
    (λ m e. subst (λ (t : List ℕ). IsRuleReported c.args.asks c.args.name.now rows c.args.fault t) (sym e)
    (for_list first.0 first.1)) c.list_message.ensures

pub returns-in-None : goal.returns-in-None
returns-in-None c =
    let none = rw c.in-None.is at c.in_ok-n.ensures in
    let rows = map numbered c.args.lines.now in
    ok-more _ (λ m. IsRuleReported c.args.asks c.args.name.now rows c.args.fault m.items) c.fault_message.result
    (λ m e. subst (λ (t : List ℕ). IsRuleReported c.args.asks c.args.name.now rows c.args.fault t) (sym e)
    (for_fault none)) c.fault_message.ensures
