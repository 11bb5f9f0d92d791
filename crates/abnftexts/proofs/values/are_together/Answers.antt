use Rattle.std.proofs.Common.{◌≡◌, ◌∙◌, ◌-◌, List, ap, drop, map, refl}
use Rattle.abnfblocks.specs.FoundRules.{found_line}
use Rattle.abnfblocks.specs.RuleCuts.{blanks_first}
use Rattle.abnfblocks.specs.TextLines.{NumberedLine, numbered}
use Rattle.abnftexts.specs.ValueRuns.{line_count, lines_after}
use Rattle.abnftexts.proofs.RulesTakenLemmas.{lines-from}
use Rattle.abnftexts.proofs.values.are_together.Goals as goal

pub returns : goal.returns
returns c =
    let lines = c.args.lines.now in
    let before = c.args.before in
    let it = c.args.it in
    let first = rw c.lines_of-own.ensures at c.items_after.ensures in
    let own = rw c.lines_of-own.ensures at c.items_after-after.ensures in
    let after : map numbered c.items_after-after.result.now ≡ lines_after (map numbered lines) before =
    lines-from c.items_after.result.now c.items_after-after.result.now (line_count before) own
    ∙ ap (λ (xs : List NumberedLine). drop (line_count before) xs)
    (lines-from lines c.items_after.result.now (found_line before) first) in
    let between : c.saturating_sub.result ≡ found_line it - found_line before - line_count before =
    rw (c.saturating_sub-between.ensures, c.lines_of.ensures, c.lines_of-own.ensures) at c.saturating_sub.ensures in
    let blanks : c.blank_count.result ≡ blanks_first (lines_after (map numbered lines) before) =
    c.blank_count.ensures.count ∙ ap (λ (xs : List NumberedLine). blanks_first xs) after in
    rw (between, blanks) refl
