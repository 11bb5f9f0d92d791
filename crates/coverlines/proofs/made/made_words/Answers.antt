-- Each kind of element.
use Rattle.std.proofs.lemmas.Result.{IfOk-weaker}
use Rattle.abnfread.proofs.ElementLemmas.{element-Text, element-Values, element-Range, element-Alt}
use Rattle.abnfread.proofs.ElementLemmas.{element-Rep, element-Opt}
use Rattle.coverlines.proofs.made.made_words.Goals as goal

pub returns-in-Text : goal.returns-in-Text
returns-in-Text c = IfOk-weaker c.text_made.result _ _ (λ found made rules known.
    rw (c.in-Text.is, element-Text) (rw c.deref.ensures.value at (made rules))) c.text_made.ensures

pub returns-in-Values : goal.returns-in-Values
returns-in-Values c = IfOk-weaker c.values_made.result _ _ (λ found made rules known.
    rw (c.in-Values.is, element-Values) (rw c.deref-in-Values.ensures.value at (made rules))) c.values_made.ensures

pub returns-in-Range : goal.returns-in-Range
returns-in-Range c = IfOk-weaker c.range_made.result _ _ (λ found made rules known.
    rw (c.in-Range.is, element-Range) (made rules)) c.range_made.ensures

pub returns-in-Alt : goal.returns-in-Alt
returns-in-Alt c = IfOk-weaker c.alt_made.result _ _ (λ found made rules known.
    rw (c.in-Alt.is, element-Alt) (rw c.deref-in-Alt.ensures.value at (made rules known))) c.alt_made.ensures

pub returns-in-Rep : goal.returns-in-Rep
returns-in-Rep c = IfOk-weaker c.rep_made.result _ _ (λ found made rules known.
    rw (c.in-Rep.is, element-Rep) (rw c.deref-in-Rep.ensures at (made rules known))) c.rep_made.ensures

pub returns-in-Opt : goal.returns-in-Opt
returns-in-Opt c = IfOk-weaker c.opt_made.result _ _ (λ found made rules known.
    rw (c.in-Opt.is, element-Opt) (rw c.deref-in-Opt.ensures at (made rules known))) c.opt_made.ensures
