use Rattle.std.specs.Prelude.{Contains}
use Rattle.flatgrammar.proofs.StackClosureLemmas.{resumed_closure, split_plain, not_ended, nothing_below}
use Rattle.flatgrammar.proofs.stacks.laws.suffixes_are_moved.Goals as goal

pub returns : goal.returns
returns c = λ flat last x j tops. (
  λ suffix below next ended full closure is_next. resumed_closure flat last x j
      (Contains tops) suffix below full closure
      (Contains next) ended is_next,
  λ base suffix below plain is reads_all. split_plain flat last x j (Contains tops)
      (Contains base) suffix below plain is
      reads_all,
  λ below closure. not_ended flat last x j (Contains tops) below closure,
  λ ended closure. nothing_below flat last x j (Contains tops) ended closure,
)
