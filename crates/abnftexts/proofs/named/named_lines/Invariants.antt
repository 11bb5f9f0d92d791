use Rattle.std.proofs.Common.{◌++◌, List, ℕ, map, drop}
use Rattle.abnfblocks.specs.TextLines.{numbered}
use Rattle.abnftexts.specs.CodeUses.{is_defined}
use Rattle.abnftexts.specs.NamedRules.{AreLinesNamed}
use Rattle.abnftexts.proofs.named.named_lines.Given as goal

-- what is written for the lines to come completes what is written for those so far
abbrev pub invariant-loop-line : goal.invariant-loop-line
invariant-loop-line l = (comments text : List ℕ)
    → AreLinesNamed (is_defined l.names) l.own l.position.margin (map numbered l.sources)
    (map numbered (drop l.line-index l.position.lines.items)) comments text
    → AreLinesNamed (is_defined l.names) l.own l.position.margin (map numbered l.position.sources.items)
    (map numbered l.position.lines.items)
    (l.lines.comments.items ++ comments) (l.lines.text.items ++ text)
