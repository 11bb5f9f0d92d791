use Rattle.std.proofs.Common.{[]}
use Rattle.flatgrammar.specs.ItemClosures.{AreByLetter}
use Rattle.flatgrammar.specs.declared.tables.Tables.{Tables}
use Rattle.flatgrammar.proofs.dot_list.no_readers.Given as goal

abbrev pub invariant-loop-letter : goal.invariant-loop-letter
invariant-loop-letter l = (flat : Tables) → AreByLetter flat [] l.lists.items
