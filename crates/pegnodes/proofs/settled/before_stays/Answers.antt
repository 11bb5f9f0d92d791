use Rattle.std.proofs.Common.{arith}
use Rattle.std.proofs.lemmas.Option.{slice_get_within}
use Rattle.pegnodes.proofs.SettledLemmas.{rest_contains}
use Rattle.pegnodes.proofs.settled.before_stays.Goals as goal

pub returns-in-Some-Stays : goal.returns-in-Some-Stays
returns-in-Some-Stays c = λ i m at is.
    rest_contains c.args.members.now i c.loop-i.i m at (λ before. c.loop-i.invariant i before is)

pub returns : goal.returns
returns c = λ i m at is.
    let low = slice_get_within c.args.members.now i m at in
    let all = c.loop-i-test.false in
    absurd (c.loop-i.invariant i (omega (arith, low, all)) is)
