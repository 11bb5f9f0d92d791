-- The error has one of the kinds, or an allocation failed.
use Rattle.toolrun.specs.Status.{code_of}
use Rattle.toolrun.specs.Stream.{passed}
use Rattle.cli.proofs.JobStatesLemmas.{words_come}
use Rattle.cli.proofs.reading.end_unready.Goals as goal

pub returns-in-Words-clause-words : goal.returns-in-Words-clause-words
returns-in-Words-clause-words g c = λ kinds is some.
    words_come (passed g.O.Sink.contents g.O.Sink.failed c.args.out.now c.end_unparsed.new.out)
    (passed g.E.Sink.contents g.E.Sink.failed c.args.err.now c.end_unparsed.new.err) (code_of c.end_unparsed.result)
    c.in-Words.error kinds (rw c.in-Words.is at is) c.end_unparsed.ensures.right c.end_unparsed.ensures.stopped
