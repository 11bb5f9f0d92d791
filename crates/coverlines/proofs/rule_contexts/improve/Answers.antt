-- The context is shorter, or the one that is known stays.
use Rattle.std.proofs.Common.{◌≤◌, refl, arith}
use Rattle.coverlines.proofs.RuleContextsLemmas.{context_index, not_shorter}
use Rattle.coverlines.specs.RuleContexts.{size_of}
use Rattle.coverlines.proofs.rule_contexts.improve.Goals as goal

pub returns-then-limit-len-clause-improved : goal.returns-then-limit-len-clause-improved
returns-then-limit-len-clause-improved c = (refl, λ le. absurd (omega (arith, c.if-limit-len.true, c.len.ensures, le)))

pub returns-then-not-is_shorter-clause-improved : goal.returns-then-not-is_shorter-clause-improved
returns-then-not-is_shorter-clause-improved c =
    let same = context_index c.args.known.now.items c.args.id c.index.result.now c.requires c.index.ensures in (
      refl,
      λ le. rw same (not_shorter c.args.limit (size_of c.args.new) c.index.result.now c.is_shorter.result
          c.if-not-is_shorter.true (c.is_shorter.ensures c.args.limit le)),
    )

pub returns-clause-improved : goal.returns-clause-improved
returns-clause-improved c =
    let same = context_index c.args.known.now.items c.args.id c.index.result.now c.requires c.index.ensures in
    let le : size_of c.args.new ≤ c.args.limit = omega (arith, c.if-limit-len.false, c.len.ensures) in
    (refl, le, rw same ((c.is_shorter.ensures c.args.limit le).0 c.if-not-is_shorter.false))
