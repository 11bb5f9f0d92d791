use Rattle.std.proofs.Common.{rules, refl, ◌∷◌}
use Rattle.lexer.specs.SliceEnds.{NoToken}
use Rattle.abnfread.specs.AbnfSlices.{Stands, slash, lparen, rparen, lbrack, rbrack}
use Rattle.abnfread.proofs.AbnfFirstLemmas.{longest-star, longest-text, no-text, longest-prose, no-prose, longest-sign}
use Rattle.abnfread.proofs.scan.marked_token.Goals as goal

pub returns-in_err-after_closed-in-34 : goal.returns-in_err-after_closed-in-34
returns-in_err-after_closed-in-34 c = let h : NoToken Stands (c.args.first ∷ c.args.tail.now) =
    no-text c.in-34.is c.in_err-after_closed-in-34.ensures in search (rules, h)

pub returns-in_err-after_closed-in-60 : goal.returns-in_err-after_closed-in-60
returns-in_err-after_closed-in-60 c = let h : NoToken Stands (c.args.first ∷ c.args.tail.now) =
    no-prose c.in-60.is c.in_err-after_closed-in-60.ensures in search (rules, h)

pub returns-in-42 : goal.returns-in-42
returns-in-42 c = longest-star c.in-42.is c.after_run.ensures.run c.after_run.ensures.all

pub returns-in_ok-after_closed-in-34 : goal.returns-in_ok-after_closed-in-34
returns-in_ok-after_closed-in-34 c = longest-text c.in-34.is c.in_ok-after_closed-in-34.ensures

pub returns-in_ok-after_closed-in-60 : goal.returns-in_ok-after_closed-in-60
returns-in_ok-after_closed-in-60 c = longest-prose c.in-60.is c.in_ok-after_closed-in-60.ensures

pub returns-in-47 : goal.returns-in-47
returns-in-47 c = longest-sign c.in-47.is refl refl refl slash

pub returns-in-40 : goal.returns-in-40
returns-in-40 c = longest-sign c.in-40.is refl refl refl lparen

pub returns-in-41 : goal.returns-in-41
returns-in-41 c = longest-sign c.in-41.is refl refl refl rparen

pub returns-in-91 : goal.returns-in-91
returns-in-91 c = longest-sign c.in-91.is refl refl refl lbrack

pub returns-in-93 : goal.returns-in-93
returns-in-93 c = longest-sign c.in-93.is refl refl refl rbrack
