-- The settings are those of the words, whatever the path.
use Rattle.cli.proofs.reading.read_job.Goals as goal

pub returns-in-Ok-read_grammar : goal.returns-in-Ok-read_grammar
returns-in-Ok-read_grammar g c =
    let asked = c.in-Ok.ensures.asked in
    let named = c.in-Ok.asked in
    record { job = (asked.0, asked.1, (asked.2.0, (named.path, named.file, named.format, asked.2.1))) }
