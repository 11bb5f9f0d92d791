use Rattle.std.proofs.Common.{ap, map}
use Rattle.abnfblocks.specs.TextLines.{numbered}
use Rattle.abnfblocks.proofs.MaskedLinesLemmas.{markdown-masked}
use Rattle.abnfblocks.proofs.rfctext.masked.masked_markdown.Goals as goal

pub returns : goal.returns
returns c = markdown-masked c.args.lines.now c.split_at.result.0.now c.split_at.result.1.now c.split_at-2.result.0.now
    c.split_at-2.result.1.now c.blank_count.result c.title_size.result (map numbered c.new-out.result.items)
    (map numbered c.push_lines.new.out.items) (map numbered c.push_lines-2.new.out.items)
    (map numbered c.push_fenced.new.out.items) c.blank_count.ensures.count c.split_at.ensures.front
    c.split_at.ensures.back c.title_size.ensures.size c.split_at-2.ensures.front c.split_at-2.ensures.back
    (ap (λ items. map numbered items) c.new-out.ensures.items) c.in_ok-push_lines.ensures c.in_ok-push_lines-2.ensures
    c.in_ok-push_fenced.ensures
