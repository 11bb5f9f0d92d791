-- The marks of the rules, and what rejects the others.
use Rattle.abnfread.specs.AbnfViews.{rules_of}
use Rattle.abnfd.proofs.CheckedTextLemmas.{accepted_both}
use Rattle.abnfd.proofs.by_name.accepted_rules.Goals as goal

pub returns : goal.returns
returns c = rw c.if-redefines.false
    (accepted_both c.sound_rules.result (rules_of c.args.rules.now) c.sound_rules.ensures.sound
    c.sound_rules.ensures.others)
