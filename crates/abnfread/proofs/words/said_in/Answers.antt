use Rattle.std.proofs.Common.{ℕ, List}
use Rattle.ruletable.specs.declared.span.Span.{Span}
use Rattle.abnfread.specs.AbnfSays.{SaysKind, says_num}
use Rattle.abnfread.specs.AbnfWords.{Said}
use Rattle.abnfread.specs.Numerals.{SaysNum}
use Rattle.abnfread.specs.declared.kind.AbnfKind.TheVariants as kinds
use Rattle.abnfread.proofs.words.said_in.Goals as goal

of_num : {z : List ℕ} {p : Span} {s : Said} → SaysKind kinds.Num z p s → SaysNum z s
of_num (says_num h) = h

pub returns-in_ok-said_number-in-Num-clause-says :
    goal.returns-in_ok-said_number-in-Num-clause-says
returns-in_ok-said_number-in-Num-clause-says c s says =
    c.in_ok-said_number-in-Num.ensures s (of_num (rw c.in-Num.is at says))
