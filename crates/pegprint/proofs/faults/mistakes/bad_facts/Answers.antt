use Rattle.std.proofs.Common.{refl}
use lib.Utf8.{encode}
use Rattle.pegprint.proofs.faults.mistakes.bad_facts.Goals as goal

pub returns : goal.returns
unfolding encode
returns c = refl
