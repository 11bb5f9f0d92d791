use Rattle.std.proofs.Common.{◌≡◌, ◌++◌, sym, subst}
use Rattle.refusedlines.proofs.RefusalLemmas.{at_pushed}
use Rattle.refusedlines.specs.RefusedText.{at_text}
use Rattle.refusedlines.proofs.refusal.push_at.Goals as goal

pub returns-in_ok-push_letter-in-NoText : goal.returns-in_ok-push_letter-in-NoText
returns-in_ok-push_letter-in-NoText c =
    subst (λ v. c.push_letter-in-NoText.new.out.items ≡ c.args.out.now.items ++ at_text c.args.number v)
    (sym c.in-NoText.is)
    (at_pushed _ _ _ _ _ _ _ c.in_ok-extend_from_slice.ensures.items c.in_ok-push_number.ensures
    c.in_ok-push_letter-in-NoText.ensures)
