use Rattle.std.proofs.Common.{refl}
use Rattle.diagnostics.proofs.StandingProseLemmas.{head_stands}
use Rattle.diagnostics.proofs.noteplaces.prose.is_standing_prose.Goals as goal

pub returns-in-None : goal.returns-in-None
returns-in-None c =
    let found = head_stands c.args.heads.now c.args.rule.now c.args.mention.now.within c.head_at.result
    c.head_at.ensures in
    rw (← c.if-not-is_kind.ensures, found, c.in-None.is) refl

pub returns-then-head : goal.returns-then-head
returns-then-head c =
    let found = head_stands c.args.heads.now c.args.rule.now c.args.mention.now.within c.head_at.result
    c.head_at.ensures in
    rw (← c.if-not-is_kind.ensures, found, c.in-Some.is, c.if-head.true) refl

pub returns-else-head : goal.returns-else-head
returns-else-head c =
    let found = head_stands c.args.heads.now c.args.rule.now c.args.mention.now.within c.head_at.result
    c.head_at.ensures in
    rw (← c.if-not-is_kind.ensures, found, c.in-Some.is, c.if-head.false) refl
