use Rattle.abnfcheck.proofs.NameChainLemmas.{chain_is_one}
use Rattle.abnfcheck.proofs.reached_names.one_name_chain.Goals as goal

pub returns : goal.returns
returns c = λ rules given name a b g h. chain_is_one rules given name a b g h
