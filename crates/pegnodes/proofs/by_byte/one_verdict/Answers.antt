use Rattle.pegnodes.proofs.ByByteLemmas.{verdicts_agree}
use Rattle.pegnodes.proofs.by_byte.one_verdict.Goals as goal

pub returns : goal.returns
returns r = λ nodes bodies marks tails b n c d v w h k.
    let a = verdicts_agree nodes bodies marks tails b h k in (a.same, a.count)
