use Rattle.std.proofs.Common.{sym}
use Rattle.std.proofs.lemmas.List.{length-map}
use Rattle.std.proofs.lemmas.Result.{IfOk-weaker, MatchResult-weaker}
use Rattle.abnfread.specs.AbnfViews.{rule_of, rules_of}
use Rattle.lowering.proofs.LoweredLemmas as o
use Rattle.lowering.proofs.NamesSettleLemmas.{names_settle, null_alike, null_at, null_rules, judged_there}
use Rattle.lowering.proofs.lowered.lower_rules.Goals as goal

pub number_bodies-requires-clause-marks : goal.number_bodies-requires-clause-marks
number_bodies-requires-clause-marks c = rw c.deref.ensures.value
    (names_settle _ _ _ (null_rules _ _ c.in_ok-marks.ensures.count c.in_ok-marks.ensures.marks) c.requires.alike)

pub new-requires-clause-nulls : goal.new-requires-clause-nulls
new-requires-clause-nulls c =
    o.nulls_reported (rules_of c.args.rules.now) c.args.limit c.args.grammar.now.judged _ c.index.result.now _
    c.in_ok-whole.whole _ _ _ _ _ _ _ c.in_ok-bodies.ensures (sym (length-map c.args.rules.now.rules rule_of))
    c.in_ok-whole.ensures.nodes c.in_ok-members.ensures c.in_ok-whole.ensures.nulls
    (rw c.judged-judged.ensures.id at c.index.ensures)
    (judged_there _ _ _ c.requires.alike c.judged-judged.ensures.sound.sound.judged_is_rule)
    (null_alike _ _ _ _ c.requires.alike
    (null_at _ _ _ _ (null_rules _ _ c.in_ok-marks.ensures.count c.in_ok-marks.ensures.marks)
    c.judged-judged.ensures.sound.sound.judged_is_rule (rw c.judged-judged.ensures.id at c.index-2.ensures)))

pub new-requires-clause-ordered : goal.new-requires-clause-ordered
new-requires-clause-ordered c =
    o.are_ordered (rules_of c.args.rules.now) c.args.limit c.args.grammar.now.judged _ c.index.result.now _ _ _ _ _ _
    c.in_ok-bodies.ensures (sym (length-map c.args.rules.now.rules rule_of))
    c.in_ok-whole.ensures.nodes c.in_ok-members.ensures (rw c.judged-judged.ensures.id at c.index.ensures)
    (judged_there _ _ _ c.requires.alike c.judged-judged.ensures.sound.sound.judged_is_rule)

pub new-requires-clause-within : goal.new-requires-clause-within
new-requires-clause-within c =
    o.bodies_within _ c.args.limit _ _ _ _ _ _ c.in_ok-bodies.ensures c.in_ok-whole.ensures.nodes

pub returns-clause-lowered : goal.returns-clause-lowered
returns-clause-lowered c =
    let made = c.new.ensures in
    let facts = o.ok_both c.new.result _ _ made.nodes (o.ok_both c.new.result _ _ made.limit
    (o.ok_both c.new.result _ _ made.bodies made.start)) in
    MatchResult-weaker c.new.result facts (λ flat is.
    o.is_lowered (rules_of c.args.rules.now) c.args.limit c.args.grammar.now.judged _ _ _ c.index.result.now _ _ _ _ _ _
    c.in_ok-bodies.ensures (sym (length-map c.args.rules.now.rules rule_of))
    c.in_ok-whole.ensures.nodes c.in_ok-members.ensures is.0 is.1.0
    (rw c.judged-judged.ensures.id at c.index.ensures)
    (judged_there _ _ _ c.requires.alike c.judged-judged.ensures.sound.sound.judged_is_rule)
    c.in_ok-whole.ensures.number is.1.1.0 is.1.1.1) (λ _ _. tt)

pub returns-clause-positions : goal.returns-clause-positions
returns-clause-positions c =
    IfOk-weaker c.new.result _ _ (λ flat nodes.
    o.positions_sized (rules_of c.args.rules.now) c.args.limit c.args.grammar.now.judged _ c.in_ok-whole.whole _ 0 _ _
    _ _ _
    flat c.in_ok-bodies.ensures (sym (length-map c.args.rules.now.rules rule_of))
    c.in_ok-whole.ensures.nodes c.in_ok-members.ensures nodes) c.new.ensures.nodes
