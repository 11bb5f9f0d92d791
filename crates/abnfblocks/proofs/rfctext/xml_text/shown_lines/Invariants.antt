use Rattle.std.proofs.Common.{◌≡◌, ◌++◌, length}
use Rattle.std.specs.List.{flat_map}
use Rattle.abnfblocks.specs.TextLines.{line_parts}
use Rattle.abnfblocks.specs.XmlLines.{shown_part}
use Rattle.abnfblocks.proofs.rfctext.xml_text.shown_lines.Given as goal

abbrev pub invariant-loop-rest : goal.invariant-loop-rest
invariant-loop-rest l = l.out.items ++ flat_map shown_part (line_parts l.rest)
    ≡ flat_map shown_part (line_parts l.marked)

abbrev pub decreases-loop-rest : goal.decreases-loop-rest
decreases-loop-rest l = length l.rest
