use Rattle.std.proofs.Common.{sym, ap, ◌∙◌, ◌-◌, length, List, Option, slice_get}
use Rattle.abnfexplain.specs.AbnfStands.{allows}
use Rattle.abnfexplain.specs.declared.abnf_stand.OpenBracket.{OpenBracket}
use Rattle.abnfexplain.proofs.BracketLemmas.{innermost-last}
use Rattle.abnfexplain.proofs.abnf_stand.Position.allows.Goals as goal

pub returns : goal.returns
returns c =
    c.allows_form.ensures
    ∙ ap (λ (t : Option OpenBracket). allows c.args.self.now.stand t c.args.form)
    (c.copied.ensures ∙ c.last.ensures.value
    ∙ ap (λ (xs : List OpenBracket). slice_get xs (length xs - 1)) c.deref.ensures.value
    ∙ sym (innermost-last c.args.self.now.brackets.items))
