use Rattle.std.proofs.Common.{refl}
use Rattle.pegread.specs.Slices.{end_cap, slash, amp, bang, quest, star, plus, dot, lparen, rparen}
use Rattle.pegread.proofs.FirstByteLemmas.{first-sign}
use Rattle.pegread.proofs.lexing.sign_kind.Goals as goal

pub returns-in-62 : goal.returns-in-62
returns-in-62 c = first-sign c.in-62.is refl (λ _. end_cap)

pub returns-in-47 : goal.returns-in-47
returns-in-47 c = first-sign c.in-47.is refl (λ _. slash)

pub returns-in-38 : goal.returns-in-38
returns-in-38 c = first-sign c.in-38.is refl (λ _. amp)

pub returns-in-33 : goal.returns-in-33
returns-in-33 c = first-sign c.in-33.is refl (λ _. bang)

pub returns-in-63 : goal.returns-in-63
returns-in-63 c = first-sign c.in-63.is refl (λ _. quest)

pub returns-in-42 : goal.returns-in-42
returns-in-42 c = first-sign c.in-42.is refl (λ _. star)

pub returns-in-43 : goal.returns-in-43
returns-in-43 c = first-sign c.in-43.is refl (λ _. plus)

pub returns-in-46 : goal.returns-in-46
returns-in-46 c = first-sign c.in-46.is refl (λ _. dot)

pub returns-in-40 : goal.returns-in-40
returns-in-40 c = first-sign c.in-40.is refl (λ _. lparen)

pub returns-in-41 : goal.returns-in-41
returns-in-41 c = first-sign c.in-41.is refl (λ _. rparen)
