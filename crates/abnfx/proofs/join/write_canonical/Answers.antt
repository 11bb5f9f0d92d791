use Rattle.abnfread.specs.AbnfViews.{rules_of}
use Rattle.abnfprint.specs.CanonicalAbnf.{grammar_text}
use Rattle.abnftexts.specs.JoinedViews.{grammar_joined}
use Rattle.abnftexts.specs.declared.joined.JoinForm.TheVariants.{Canonical}
use Rattle.abnfx.proofs.JoinRunLemmas.{all-written, part-written}
use Rattle.abnfx.proofs.join.write_canonical.Goals as goal

pub returns-in-Ok : goal.returns-in-Ok
returns-in-Ok g c = all-written Canonical (grammar_joined c.args.joined.now)
    (grammar_text (rules_of c.args.abnf.now.rules))
    c.status_of.result _ _ _ _ c.requires.text c.status_of.ensures c.in-Ok.ensures.bytes c.in-Ok.ensures.flag

pub returns-in-Err : goal.returns-in-Err
returns-in-Err g c = part-written Canonical (grammar_joined c.args.joined.now)
    (grammar_text (rules_of c.args.abnf.now.rules)) c.in-Err.fault _ _ _ _ c.requires.text c.in-Err.ensures.bytes
    c.in-Err.ensures.flag
