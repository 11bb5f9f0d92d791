use Rattle.std.proofs.Common.{◌∙◌, sym}
use Rattle.pegnodes.proofs.DecidesLemmas.{set_has, set_has_not}
use Rattle.pegnodes.proofs.by_byte.by_set.Goals as goal

pub returns-then-has : goal.returns-then-has
returns-then-has c = λ g n. set_has g c.args.b n c.args.set.now (sym c.has.ensures ∙ c.if-has.true)

pub returns-else-has : goal.returns-else-has
returns-else-has c = λ g n. set_has_not g c.args.b n c.args.set.now (sym c.has.ensures ∙ c.if-has.false)
