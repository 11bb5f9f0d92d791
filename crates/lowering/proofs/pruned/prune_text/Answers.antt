use Rattle.std.proofs.Common.{arith}
use Rattle.abnfread.proofs.ElementLemmas.{element-Text}
use Rattle.abnfcheck.proofs.AimLemmas.{bytes_are_letters}
use Rattle.lowering.specs.Pruned.{keep_text}
use Rattle.lowering.proofs.pruned.prune_text.Goals as goal

pub returns : goal.returns
returns c alphabet rules =
    rw (element-Text, c.in_ok-text.ensures.items) (keep_text
    (bytes_are_letters alphabet c.args.text.now (λ i. let f = c.type_inv.text i in omega (arith, f.fits))))
