use Rattle.std.proofs.Common.{map}
use Rattle.abnftexts.specs.GivenRules.{text_rule}
use Rattle.abnftexts.specs.JoinedViews.{IsGatheredJoined, IsStandingJoined, grammar_joined}
use Rattle.abnftexts.specs.RulesGathered.{entry_listed, lines_placed, reported_rule, rules_gathered}
use Rattle.abnftexts.proofs.JoinedGrammarLemmas.{gathered-all, ok-more}
use Rattle.abnftexts.proofs.joined.join_gathered.Goals as goal

pub returns : goal.returns
returns c =
    let reports = map reported_rule c.args.gathered.reported.items in
    let fates = rw c.deref.ensures.value at c.in_ok-fates.ensures in
    let list = rw (c.deref-2.ensures.value, c.deref-3.ensures.value, c.deref-4.ensures.value, c.deref-5.ensures.value)
    at c.in_ok-listed.ensures in
    let positions = rw c.deref-6.ensures.value at c.in_ok-standing_positions.ensures in
    let rules = rw c.deref-7.ensures.value at c.in_ok-standing_rules.ensures in
    let joins = rw (c.deref-8.ensures.value, c.deref-9.ensures.value) at c.join_standing.ensures in
    ok-more (λ j. IsStandingJoined (map lines_placed c.in_ok-standing_positions.standing_positions.items)
    (map text_rule c.in_ok-standing_rules.standing_rules.items) reports
    c.in_ok-listed.listed.items (grammar_joined j))
    (λ j. IsGatheredJoined (rules_gathered c.args.gathered) (grammar_joined j)) c.join_standing.result
    (λ j h. gathered-all c.args.gathered.positions.items c.in_ok-standing_positions.standing_positions.items
    c.args.gathered.rules.items c.in_ok-standing_rules.standing_rules.items
    reports (map entry_listed c.args.gathered.list.items) c.in_ok-listed.listed.items c.in_ok-fates.fates.items
    (grammar_joined j) fates list positions rules h) joins
