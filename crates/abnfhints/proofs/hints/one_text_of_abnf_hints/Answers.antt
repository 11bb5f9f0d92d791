-- A text has one list of tokens.
use Rattle.abnfhints.proofs.AbnfHintsLemmas.{one_text}
use Rattle.abnfhints.proofs.hints.one_text_of_abnf_hints.Goals as goal

pub returns : goal.returns
returns c = λ has rules count judged end text a b.
    one_text has rules count judged end text a b (c.one_list.ensures text)
