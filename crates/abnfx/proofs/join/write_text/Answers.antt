use Rattle.abnftexts.specs.JoinedViews.{grammar_joined}
use Rattle.abnfx.proofs.JoinRunLemmas.{all-written, part-written}
use Rattle.abnfx.proofs.join.write_text.Goals as goal

pub returns-in-Ok : goal.returns-in-Ok
returns-in-Ok g c form is = all-written form (grammar_joined c.args.joined.now) c.args.text.now c.status_of.result
    _ _ _ _ is c.status_of.ensures c.in-Ok.ensures.bytes c.in-Ok.ensures.flag

pub returns-in-Err : goal.returns-in-Err
returns-in-Err g c form is = part-written form (grammar_joined c.args.joined.now) c.args.text.now c.in-Err.fault
    _ _ _ _ is c.in-Err.ensures.bytes c.in-Err.ensures.flag
