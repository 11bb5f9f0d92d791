use Rattle.std.proofs.Common.{◌≡◌, ◌∙◌, ◌++◌, ◌+◌, List, ◌∷◌, append-nil, ap, drop, map, sym}
use Rattle.std.proofs.lemmas.List.{drop_all}
use Rattle.abnftexts.specs.GivenRules.{text_rule}
use Rattle.abnftexts.specs.JoinedGrammar.{listed_from}
use Rattle.abnftexts.specs.RulesGathered.{entry_listed, lines_placed}
use Rattle.abnftexts.specs.declared.gathered.ListLine.{ListLine}
use Rattle.abnftexts.proofs.RulesTakenLemmas.{one-after}
use Rattle.abnftexts.proofs.listed.listed_text.Goals as goal

pub loop-line-preserved : goal.loop-line-preserved
loop-line-preserved c =
    let positions = map lines_placed c.args.positions.now in
    let rules = map text_rule c.args.rules.now in
    let fates = c.args.fates.now in
    let list = c.args.list.now in
    let i = c.loop-line.line-index in
    let number = c.loop-line.number in
    let line = c.line-item.result in
    let after = map entry_listed (drop (i + 1) list) in
    let rows : drop i list ≡ line ∷ drop (i + 1) list =
    one-after list i line c.loop-line-test.true
    ∙ ap (λ (x : ListLine). x ∷ drop (i + 1) list) (sym c.line-item.is) in
    c.in_ok-number.ensures after
    ∙ ap (λ (xs : List ListLine). c.loop-line.out.items
    ++ listed_from positions rules number (drop number fates) (map entry_listed xs)) (sym rows)
    ∙ c.loop-line.invariant

pub returns : goal.returns
returns c =
    let positions = map lines_placed c.args.positions.now in
    let rules = map text_rule c.args.rules.now in
    let out = c.loop-line.out.items in
    let number = c.loop-line.number in
    sym (append-nil out)
    ∙ ap (λ (xs : List ListLine). out ++ listed_from positions rules number (drop number c.args.fates.now)
    (map entry_listed xs)) (sym (drop_all c.loop-line.line-index c.args.list.now c.loop-line-test.false))
    ∙ c.loop-line.invariant
