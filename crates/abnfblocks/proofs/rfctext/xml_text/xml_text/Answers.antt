use Rattle.std.proofs.Common.{◌≡◌}
use Rattle.std.specs.List.{flat_map}
use Rattle.abnfblocks.specs.TextLines.{line_parts}
use Rattle.abnfblocks.specs.XmlLines.{HoldsXml, shown_part}
use Rattle.abnfblocks.proofs.XmlLineLemmas.{ok-holds}
use Rattle.abnfblocks.proofs.rfctext.xml_text.xml_text.Goals as goal

pub returns : goal.returns
returns c =
    let shows = rw c.deref.ensures.value at c.shown_lines.ensures in
    ok-holds (λ out. out.items ≡ flat_map shown_part (line_parts c.in_ok-marked.marked.items))
    (λ out. HoldsXml c.args.text.now out.items) c.shown_lines.result
    (λ out e. (c.in_ok-marked.marked.items, c.in_ok-marked.ensures, e)) shows
