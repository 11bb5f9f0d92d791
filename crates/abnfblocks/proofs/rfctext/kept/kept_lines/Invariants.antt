use Rattle.std.proofs.Common.{◌≡◌, ◌+◌, ◌≤◌, length, map}
use Rattle.abnfblocks.specs.TextLines.{numbered, lines_from, text_lines, line_parts}
use Rattle.abnfblocks.specs.declared.rfctext.before.Before.TheVariants.{Text}
use Rattle.abnfblocks.proofs.KeptLemmas.{IsClean, all_kept, kept_after}
use Rattle.abnfblocks.proofs.rfctext.kept.kept_lines.Given as goal

-- what the lines so far left and what stays of those to come is what stays of all
abbrev pub invariant-loop-rest : goal.invariant-loop-rest
invariant-loop-rest l = record {
  number : l.number + length l.rest ≤ length l.text + 1;
  clean : IsClean l.before (map numbered l.kept.items);
  same : all_kept l.before (map numbered l.kept.items) (lines_from l.number (line_parts l.rest))
      ≡ kept_after Text (text_lines l.text);
}

abbrev pub decreases-loop-rest : goal.decreases-loop-rest
decreases-loop-rest l = length l.rest
