use Rattle.lexer.proofs.TokenListLemmas.{tokens-one}
use Rattle.lexer.proofs.token_lists.one_list.Goals as goal

pub returns : goal.returns
returns g c = λ text a b h k. tokens-one g.K.Kind.white g.K.Kind.first g.K.Kind.is_end c.are_cut.ensures.one h k
