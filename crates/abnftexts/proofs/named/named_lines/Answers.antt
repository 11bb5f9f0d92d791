use Rattle.std.proofs.Common.{◌+◌, map, ap, ◌∙◌, List, subst, drop}
use Rattle.abnfblocks.specs.TextLines.{NumberedLine, numbered}
use Rattle.abnftexts.specs.CodeUses.{is_defined}
use Rattle.abnftexts.specs.NamedRules.{AreLinesNamed, bare_line}
use Rattle.abnftexts.proofs.NamedRulesLemmas.{line-more, lines-all, source-first}
use Rattle.abnftexts.proofs.RulesTakenLemmas.{lines-from}
use Rattle.abnftexts.proofs.named.named_lines.Goals as goal

pub loop-line-preserved : goal.loop-line-preserved
loop-line-preserved c = λ comments text rest.
    let all = c.deref-line-items.ensures.value in
    let known = is_defined c.args.names.now in
    let margin = c.args.position.now.margin in
    let sources = c.loop-line.sources.now in
    let after = map numbered (drop (c.loop-line.line-index + 1) c.args.position.now.lines.items) in
    let bare = (let e = c.bare_line.ensures in rw all at e) in
    let first = source-first sources _ c.unwrap_or-source.result c.first.result c.first.ensures.value
    c.unwrap_or-source.ensures in
    let from = (let e = c.bare_line-in-loop-line.ensures ∙ ap (λ (row : NumberedLine). bare_line margin row) first in
    rw all at e) in
    let named = (let e = c.in_ok-new.ensures in e) in
    let more = (let e = c.in_ok-push_line.ensures.comments in rw c.deref.ensures.value at e) in
    let whole = (let e = c.in_ok-push_line.ensures.text in rw c.deref.ensures.value at e) in
    let left = lines-from sources c.items_after-sources.result.now 1 c.items_after-sources.ensures in
    line-more known c.args.own.now margin (map numbered c.args.position.now.sources.items) (map numbered sources)
    c.args.position.now.lines.items c.loop-line.line-index _ c.bare_line.result.now c.in_ok-new.new.items
    c.bare_line-in-loop-line.result.now c.loop-line.lines.comments.items c.loop-line.lines.text.items
    c.push_line.new.lines.comments.items c.push_line.new.lines.text.items comments text
    (let low = c.loop-line-test.true in rw all at low) bare from named more whole c.loop-line.invariant
    (subst (λ (rows : List NumberedLine). AreLinesNamed known c.args.own.now margin rows after comments text) left rest)

pub returns : goal.returns
returns c = lines-all (is_defined c.args.names.now) c.args.own.now c.args.position.now.margin
    (map numbered c.args.position.now.sources.items) (map numbered c.loop-line.sources.now)
    c.args.position.now.lines.items c.loop-line.line-index c.loop-line.lines.comments.items
    c.loop-line.lines.text.items (let high = c.loop-line-test.false in rw c.deref-line-items.ensures.value at high)
    c.loop-line.invariant
