use Rattle.std.proofs.Common.{Contains, sym, ◌∙◌, subst, arith}
use Rattle.earley.proofs.row_index.is_alone.Goals as goal

pub returns-in-None : goal.returns-in-None
returns-in-None c t k = (
  (λ h. let least = c.in-Some.ensures.first k h (omega arith) in
      let most = c.in-None.ensures.none k h in
      let same = c.if-least-number.false in
      omega (arith, least, most, same)),
  (λ same. subst (λ v. Contains c.args.row.now v) (c.if-least-number.false ∙ sym same) c.in-Some.ensures.found.1),
)
