use Rattle.std.proofs.Common.{map}
use Rattle.pegprint.proofs.faults.explain.push_expected.Goals as goal

pub returns : goal.returns
returns c =
    let pushed = c.in_ok-push_phrases.ensures in
    (map (λ w. w.now) c.in_ok-reported.reported.items, c.in_ok-reported.ensures, rw c.as_slice.ensures.value at pushed)
