-- A grammar that no note rejects is one of these rules and that judged one.
use Rattle.std.proofs.Common.{◌∙◌}
use Rattle.abnfcheck.proofs.abnf_check.check_abnf.Goals as goal

pub returns-in-Some-clause-sound : goal.returns-in-Some-clause-sound
returns-in-Some-clause-sound c =
    let all = c.in_ok-notes.ensures.rules in
    let known = rw (c.in-Some.is, all) at c.in_ok-notes.ensures.judged in
    (known.0, c.new.ensures.rules ∙ all, c.new.ensures.judged ∙ known.1)

pub returns-in-None-clause-sound : goal.returns-in-None-clause-sound
returns-in-None-clause-sound c = rw (c.in-None.is, c.in_ok-notes.ensures.rules) at c.in_ok-notes.ensures.judged
