use Rattle.std.proofs.Common.{subst, sym}
use Rattle.rulelines.specs.LineSets.{SymbolSet, has_symbol}
use Rattle.rulelines.specs.Starts.{AreClassStarts}
use Rattle.rulelines.proofs.list.lines.lines_of.Goals as goal

pub begin_table-requires-clause-starts : goal.begin_table-requires-clause-starts
begin_table-requires-clause-starts c =
    subst (λ (v : SymbolSet). AreClassStarts c.args.flat (has_symbol v) c.args.starts.items)
    (sym c.in_ok-copy.ensures) c.requires.starts
