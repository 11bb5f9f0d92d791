use Rattle.std.proofs.Common.{◌∙◌, sym}
use Rattle.pegread.specs.Kinds.{is_end}
use Rattle.pegread.specs.Slices.{White, First}
use Rattle.uses.proofs.CountTokensLemmas.{all-given, at-start}
use Rattle.uses.proofs.token_caller.count_tokens.Goals as goal

pub returns : goal.returns
returns c =
    let ts = c.have_tokens.ensures.0 in
    let left = at-start White First is_end c.tokens.result c.args.text.now ts c.tokens.ensures
    c.have_tokens.ensures.1 in
    let ran = c.count.ensures.ran in (
      ts,
      c.have_tokens.ensures.1,
      sym (ran.2 ∙ all-given White First is_end c.tokens.result ran.1.1.0 ran.1.0 ran.0 ts
          left ran.1.1.1 ran.1.1.2),
    )
