use Rattle.std.proofs.Common.{sym, subst, List, ℕ}
use Rattle.abnftexts.specs.JoinRun.{IsWrittenAs, a_list}
use Rattle.abnftexts.specs.JoinedViews.{grammar_joined}
use Rattle.abnftexts.specs.declared.joined.JoinForm.TheVariants.{Listed}
use Rattle.abnfx.proofs.join.write_joined.Goals as goal

pub returns-in-Listed : goal.returns-in-Listed
returns-in-Listed g c = rw c.in-Listed.is (c.write_text.ensures Listed
    (subst (λ (t : List ℕ). IsWrittenAs (grammar_joined c.args.joined.now) Listed t) (sym c.deref.ensures.value)
    a_list))
