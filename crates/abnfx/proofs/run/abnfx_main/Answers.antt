-- The words are parsed, or the error says what is wrong with them; where nothing is, an allocation failed.
use Rattle.std.proofs.Common.{List, map, string_bytes, subst, Global, refl}
use Rattle.abnfx.specs.JoinAnswers.{JoinAnswers, no_memory}
use Rattle.abnfx.specs.JoinWords.{abnfx_app}
use Rattle.clap.specs.Words.{Row, fault_of, matches_of}
use Rattle.cli.proofs.JobStatesLemmas.{unparsed_comes}
use Rattle.toolrun.specs.Right.{RunIsRight}
use Rattle.toolrun.specs.Status.{code_of}
use Rattle.toolrun.specs.Stream.{no_input, passed}
use Rattle.abnfx.proofs.run.abnfx_main.Goals as goal

pub returns-in-Ok : goal.returns-in-Ok
returns-in-Ok g c =
    let parsed = c.in-Ok.ensures.parses abnfx_app c.abnfx_command.ensures.app refl refl in
    let out = passed g.O.Sink.contents g.O.Sink.failed c.args.out.now c.join_asked.new.out in
    let err = passed g.E.Sink.contents g.E.Sink.failed c.args.err.now c.join_asked.new.err in
    record {
      words = λ bad. absurd (bad parsed.0);
      right = λ none. subst (λ (rows : List Row). RunIsRight (JoinAnswers rows) no_input out err
          (code_of c.join_asked.result)) parsed.1 c.join_asked.ensures.right;
    }

pub returns-in-Err : goal.returns-in-Err
returns-in-Err g c =
    let words = map (string_bytes {Z = Global}) c.args.words.now in
    let kinds = fault_of abnfx_app words in
    let parsed = c.in-Err.ensures.parses abnfx_app c.abnfx_command.ensures.app refl refl in
    let out = passed g.O.Sink.contents g.O.Sink.failed c.args.out.now c.end_unready.new.out in
    let err = passed g.E.Sink.contents g.E.Sink.failed c.args.err.now c.end_unready.new.err in
    record {
      words = c.end_unready.ensures.words kinds parsed;
      right = unparsed_comes (JoinAnswers (matches_of abnfx_app words)) (λ input. no_memory) out err
          (code_of c.end_unready.result) kinds c.in-Err.error parsed c.end_unready.ensures.stopped;
    }
