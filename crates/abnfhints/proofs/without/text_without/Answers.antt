-- A text in which the letter stands, and one in which it does not.
use Rattle.std.proofs.Common.{refl}
use Rattle.abnfread.proofs.ElementLemmas.{element-Text}
use Rattle.abnfhints.specs.WithoutLetter.{keeps_text, drops_text}
use Rattle.abnfhints.proofs.WithoutLemmas.{any_holds, none_holds}
use Rattle.abnfhints.proofs.without.text_without.Goals as goal

pub returns-then-contains : goal.returns-then-contains
returns-then-contains c = rw c.nothing.ensures
    (drops_text (any_holds c.args.text.now c.args.letter c.args.letter refl c.if-contains.ensures.cases))

pub returns : goal.returns
returns c = rw (element-Text, c.in_ok-text.ensures.items)
    (keeps_text (none_holds c.args.text.now c.args.letter c.args.letter refl c.if-contains.ensures.cases))
