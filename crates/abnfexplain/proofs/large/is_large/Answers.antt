use Rattle.std.proofs.Common.{List, ℕ}
use Rattle.ruletable.specs.declared.span.Span.{Span}
use Rattle.abnfread.specs.declared.kind.AbnfKind.TheVariants as kinds
use Rattle.abnfread.specs.AbnfSays.{SaysKind, IsSmall, says_repeat, says_num}
use Rattle.abnfread.specs.AbnfWords.{Said}
use Rattle.abnfexplain.specs.LargeRuns.{runs_over, over_after}
use Rattle.abnfexplain.proofs.LargeRunLemmas.{Tests, repeat-tests, num-tests}
use Rattle.abnfexplain.proofs.large.is_large.Goals as goal

repeat-said : {z : List ℕ} {p : Span} {s : Said} → SaysKind kinds.Repeat z p s → Tests (runs_over 10 0 z) (IsSmall s)
repeat-said (says_repeat {z} {a = a} {b = b} h) = repeat-tests z a b h

num-said : {z : List ℕ} {p : Span} {s : Said} → SaysKind kinds.Num z p s → Tests (over_after z) (IsSmall s)
num-said (says_num {z} {s = s} h) = num-tests z s h

pub returns-in-Repeat : goal.returns-in-Repeat
returns-in-Repeat c = λ s says.
    let h = (let k = c.in-Repeat.is in rw k at says) in
    rw c.has_large_run.ensures (repeat-said h)

pub returns-in-Num : goal.returns-in-Num
returns-in-Num c = λ s says.
    let h = (let k = c.in-Num.is in rw k at says) in
    rw c.has_large_value.ensures (num-said h)
