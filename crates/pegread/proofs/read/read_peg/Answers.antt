use Rattle.pegread.specs.Definitions.{IsTableOf}
use Rattle.pegread.proofs.IsFaultOfLemmas.{read-only}
use Rattle.pegread.proofs.read.read_peg.Goals as goal

pub returns-clause-only : goal.returns-clause-only
returns-clause-only c = λ definitions reads.
    read-only c.args.text.now (λ ds peg. IsTableOf ds peg.rules peg.redefined.items) definitions reads
    c.read_keeping.result c.read_keeping.ensures.found c.read_keeping.ensures.fault
