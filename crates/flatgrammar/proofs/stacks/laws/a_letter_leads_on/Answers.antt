use Rattle.std.specs.Prelude.{Contains}
use Rattle.flatgrammar.proofs.StackClosureLemmas.{taken_by_tops, next_closure}
use Rattle.flatgrammar.proofs.stacks.laws.a_letter_leads_on.Goals as goal

pub returns : goal.returns
returns c = λ flat last x j b d letter alike tops below plain. (
  taken_by_tops flat last x j b d letter alike (Contains tops) below plain,
  λ next ended is_next. next_closure flat last x j b d letter alike (Contains tops) below plain (Contains next) ended
      is_next,
)
