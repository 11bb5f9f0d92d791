-- With a job the tool is run on its grammar; without one the end says what the words came to, and the reader is as it
-- was.
use Rattle.std.proofs.Common.{rules, map, string_bytes, Global}
use Rattle.clap.specs.Words.{fault_of, matches_of}
use Rattle.cli.proofs.JobStatesLemmas.{job_comes, unready_comes}
use Rattle.toolrun.specs.Status.{code_of}
use Rattle.toolrun.specs.Stream.{passed}
use Rattle.cli.proofs.tool.tool_main.Goals as goal

pub returns-in-Ok : goal.returns-in-Ok
returns-in-Ok g c =
    let job = c.in-Ok.ensures.job in
    let words = map (string_bytes {Z = Global}) c.args.words.now in
    record {
      words = (job.0, job.1, λ some. absurd (some job.2.0));
      right = (
        job.0,
        job.1,
        λ none. job_comes g.P.Program.asks g.P.Program.states (matches_of job.0 words)
            (record { settings = c.in-Ok.job.settings; path = job.2.1.0; file = job.2.1.1; format = job.2.1.2 })
            job.2.1.3
            c.as_slice.result.now
            (passed g.I.Source.remaining g.I.Source.failed c.args.reader.now c.run.new.reader)
            (passed g.O.Sink.contents g.O.Sink.failed c.args.out.now c.run.new.out)
            (passed g.E.Sink.contents g.E.Sink.failed c.args.err.now c.run.new.err) (code_of c.run.result)
            c.run.ensures.right,
      );
    }

pub returns-in-Err : goal.returns-in-Err
returns-in-Err g c =
    let job = c.in-Err.ensures.job in
    let words = map (string_bytes {Z = Global}) c.args.words.now in
    let kinds = fault_of job.0 words in
    record {
      words = (job.0, job.1, λ some. (search rules, c.end_unready.ensures.words kinds job.2 some));
      right = (
        job.0,
        job.1,
        λ none. unready_comes g.P.Program.asks g.P.Program.states (matches_of job.0 words)
            (g.I.Source.remaining c.args.reader.now)
            (g.I.Source.failed c.args.reader.now)
            (g.I.Source.failed c.args.reader.now) (passed g.O.Sink.contents g.O.Sink.failed c.args.out.now
            c.end_unready.new.out)
            (passed g.E.Sink.contents g.E.Sink.failed c.args.err.now c.end_unready.new.err)
            (code_of c.end_unready.result) c.in-Err.why kinds none job.2
            c.end_unready.ensures.stopped,
      );
    }
