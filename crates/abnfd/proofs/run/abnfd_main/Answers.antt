-- The words are parsed, or the error says what is wrong with them; where nothing is, an allocation failed.
use Rattle.std.proofs.Common.{List, ap, map, string_bytes, subst, Global}
use Rattle.abnfd.specs.CompareAnswers.{CompareAnswers, unroomed}
use Rattle.clap.specs.Words.{Row, fault_of, is_simple, is_simple_and_free, matches_of}
use Rattle.cli.proofs.JobStatesLemmas.{unparsed_comes}
use Rattle.toolrun.specs.Right.{RunIsRight}
use Rattle.toolrun.specs.Status.{code_of}
use Rattle.toolrun.specs.Stream.{no_input, passed}
use Rattle.abnfd.proofs.run.abnfd_main.Goals as goal

pub returns-in-Ok : goal.returns-in-Ok
returns-in-Ok g c =
    let made = c.abnfd_command.ensures in
    let parsed = c.in-Ok.ensures.parses made.0 made.2 (ap is_simple made.1.2) (ap is_simple_and_free made.1.2) in
    let out = passed g.O.Sink.contents g.O.Sink.failed c.args.out.now c.run_asked.new.out in
    let err = passed g.E.Sink.contents g.E.Sink.failed c.args.err.now c.run_asked.new.err in
    record {
      words = (made.0, made.1, λ bad. absurd (bad parsed.0));
      right = (
        made.0,
        made.1,
        λ none. subst (λ (rows : List Row). RunIsRight (CompareAnswers rows) no_input out err
            (code_of c.run_asked.result)) parsed.1 c.run_asked.ensures.right,
      );
    }

pub returns-in-Err : goal.returns-in-Err
returns-in-Err g c =
    let made = c.abnfd_command.ensures in
    let words = map (string_bytes {Z = Global}) c.args.words.now in
    let kinds = fault_of made.0 words in
    let parsed = c.in-Err.ensures.parses made.0 made.2 (ap is_simple made.1.2) (ap is_simple_and_free made.1.2) in
    let out = passed g.O.Sink.contents g.O.Sink.failed c.args.out.now c.end_unready.new.out in
    let err = passed g.E.Sink.contents g.E.Sink.failed c.args.err.now c.end_unready.new.err in
    record {
      words = (made.0, made.1, c.end_unready.ensures.words kinds parsed);
      right = (
        made.0,
        made.1,
        unparsed_comes (CompareAnswers (matches_of made.0 words)) (λ input. unroomed) out err
            (code_of c.end_unready.result) kinds c.in-Err.error parsed c.end_unready.ensures.stopped,
      );
    }
