-- So many rounds are allowed.
use Rattle.std.proofs.lemmas.Result.{IfOk-weaker}
use Rattle.abnfread.specs.AbnfViews.{element_of}
use Rattle.coverlines.proofs.MadeLemmas.{rounds_made}
use Rattle.coverlines.proofs.made.rounds_word.Goals as goal

pub returns : goal.returns
returns c = IfOk-weaker c.repeated.result _ _ (λ w rounds rules known asked.
    let allowed = c.allows.ensures.0 c.if-not-allows.false in
    rounds_made c.args.words.now.bounds rules c.args.least c.args.most (element_of c.args.operand.now) c.args.count w
    asked allowed.0 allowed.1 (rounds c.args.words.now.bounds rules (element_of c.args.operand.now)
    (c.in_ok-round.ensures rules known))) c.repeated.ensures
