use Rattle.std.proofs.Common.{sym, ◌∙◌}
use Rattle.pegnodes.specs.ByByte.{below}
use Rattle.pegnodes.specs.declared.by_byte.ByteVerdict.TheVariants.{Fails}
use Rattle.pegnodes.proofs.DecidesLemmas.{below_of}
use Rattle.pegnodes.proofs.choice_table.failing.Goals as goal

pub returns-in_ok-sum-in-Fails : goal.returns-in_ok-sum-in-Fails
returns-in_ok-sum-in-Fails c = (
  c.in_ok-decided.decided.count,
  c.in_ok-sum-in-Fails.ensures.1,
  below_of c.args.grammar.now c.args.b c.args.m Fails c.in_ok-decided.decided c.in-Fails.is
      (below (sym c.mark_or.ensures ∙ c.if-mark_or.false) c.in_ok-decided.ensures),
)
