use Rattle.std.proofs.Common.{List, Vec, Global}
use Rattle.flatgrammar.specs.ItemClosures.{AreByLetter, Picks, ReadsAny}
use Rattle.flatgrammar.specs.declared.closure.DottedRule.{DottedRule}
use Rattle.flatgrammar.specs.declared.tables.Tables.{Tables}
use Rattle.flatgrammar.proofs.dot_list.list_of.Goals as goal

picks_of_readers : (flat : Tables) (from readers : List DottedRule) (lists : List (Vec DottedRule Global))
    → Picks (ReadsAny flat) from readers → AreByLetter flat readers lists → AreByLetter flat from lists
picks_of_readers flat from readers lists any by c list at = let picks = by c list at in (
  λ dot h. any.0 dot (picks.0 dot h),
  λ dot h reads. picks.1 dot (any.1 dot h (c, reads)) reads,
  λ differ. picks.2 (any.2 differ),
)

pub returns : goal.returns
returns c = (
  c.in_ok-asks.ensures.picks,
  c.in_ok-readers.ensures,
  picks_of_readers c.args.flat.now c.args.from.now c.in_ok-readers.readers.items c.in_ok-by_letter.by_letter.items
      c.in_ok-readers.ensures (rw c.deref-2.ensures.value at c.in_ok-by_letter.ensures),
  c.in_ok-asks.ensures.report,
  rw c.deref.ensures.value at c.ends_of-ends.ensures,
)
