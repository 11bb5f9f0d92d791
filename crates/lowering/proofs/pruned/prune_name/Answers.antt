use Rattle.std.proofs.Common.{◌∙◌, subst, sym}
use Rattle.abnfread.proofs.ElementLemmas.{element-Name}
use Rattle.abnfread.specs.AbnfViews.{rules_of}
use Rattle.fixpoint.specs.NumberMarks.{IsMarked}
use Rattle.abnfcheck.proofs.RuleIdLemmas.{id_found}
use Rattle.lowering.specs.Pruned.{keep_name}
use Rattle.lowering.proofs.PruneLemmas as o
use Rattle.lowering.proofs.pruned.prune_name.Goals as goal

pub returns-in_ok-name : goal.returns-in_ok-name
returns-in_ok-name c alphabet productive = rw (element-Name, c.in_ok-name.ensures.items)
    (keep_name (o.name_left alphabet (rules_of c.args.rules.now) c.args.marks.now productive
    c.args.name.now
    (subst (λ v. IsMarked c.args.marks.now v) (c.unwrap_or.ensures
    ∙ id_found _ _ _ _ c.requires c.in_ok-found.ensures.found c.len.ensures.len)
    (c.is_marked.ensures.0 c.if-is_marked.true))))

pub returns-else-is_marked : goal.returns-else-is_marked
returns-else-is_marked c alphabet productive = o.no_name alphabet (rules_of c.args.rules.now) c.args.marks.now
    productive c.args.name.now
    (λ on. absurd (cc (
      c.if-is_marked.false,
      c.is_marked.ensures.1
          (subst (λ v. IsMarked c.args.marks.now v) (sym
          (c.unwrap_or.ensures ∙ id_found _ _ _ _ c.requires c.in_ok-found.ensures.found c.len.ensures.len))
          on),
    )))
