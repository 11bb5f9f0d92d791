use Rattle.abnfcheck.proofs.BeginsMemberLemmas.{rule_derives_is_decided}
use Rattle.abnfcheck.proofs.decided_law.derivation_is_decided.Goals as goal

pub returns : goal.returns
returns c = λ has rules id x. rule_derives_is_decided has rules id x
