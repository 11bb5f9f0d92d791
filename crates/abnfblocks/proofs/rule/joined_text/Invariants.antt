use Rattle.std.proofs.Common.{◌≡◌, map, take}
use Rattle.abnfblocks.specs.TextLines.{numbered}
use Rattle.abnfblocks.specs.RuleCuts.{lines_text}
use Rattle.abnfblocks.proofs.rule.joined_text.Given as goal

abbrev pub invariant-loop-line : goal.invariant-loop-line
invariant-loop-line l = l.text.items ≡ lines_text l.margin_size (map numbered (take l.line-index l.lines))
