use Rattle.std.proofs.Common.{rules}
use Rattle.pegread.proofs.FirstByteLemmas.{first-end, first-ident, first-bad}
use Rattle.pegread.proofs.lexing.first_of.Goals as goal

pub returns-in_default : goal.returns-in_default
returns-in_default c = first-end _ c.in_default.ensures.cases

pub returns-then-is_start : goal.returns-then-is_start
returns-then-is_start c = first-ident c.in-Some.ensures.cases.0 (search rules) c.after_name.ensures.names
    c.after_name.ensures.longest

pub returns-in_default-closed_token : goal.returns-in_default-closed_token
returns-in_default-closed_token c = first-bad c.in-Some.ensures.cases.0 c.requires c.if-first-eq60.false (search rules)
    (c.in_default-sign_kind.ensures _) c.in_default-closed_token.ensures
