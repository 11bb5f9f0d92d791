-- The text goes to the output that the kind of the error has, or an allocation failed.
use Rattle.std.proofs.Common.{◌∷◌, [], rules}
use Rattle.clap.specs.Words.{kind_of}
use Rattle.cli.proofs.JobStatesLemmas.{fault_said, help_shown, without_room}
use Rattle.cli.specs.Parsing.{IsNoHelp}
use Rattle.toolrun.specs.Status.{code_of}
use Rattle.toolrun.specs.Stream.{passed}
use Rattle.cli.proofs.fault.end_unparsed.Goals as goal

pub returns-then-eq-clause-right : goal.returns-then-eq-clause-right
returns-then-eq-clause-right g c =
    without_room (passed g.O.Sink.contents g.O.Sink.failed c.args.out.now c.finish.new.out)
    (passed g.E.Sink.contents g.E.Sink.failed c.args.err.now c.finish.new.err) (code_of c.finish.result)
    (kind_of c.args.error.now ∷ []) (c.finish.ensures.kept, c.finish.ensures.reported)

pub returns-in_default-clause-right : goal.returns-in_default-clause-right
returns-in_default-clause-right g c =
    without_room (passed g.O.Sink.contents g.O.Sink.failed c.args.out.now c.finish-in_default.new.out)
    (passed g.E.Sink.contents g.E.Sink.failed c.args.err.now c.finish-in_default.new.err)
    (code_of c.finish-in_default.result)
    (kind_of c.args.error.now ∷ []) (c.finish-in_default.ensures.kept, c.finish-in_default.ensures.reported)

pub returns-then-use_stderr-clause-right : goal.returns-then-use_stderr-clause-right
returns-then-use_stderr-clause-right g c =
    let no_help : IsNoHelp (kind_of c.args.error.now) = search rules in
    fault_said (passed g.O.Sink.contents g.O.Sink.failed c.args.out.now c.report_fault.new.out)
    (passed g.E.Sink.contents g.E.Sink.failed c.args.err.now c.report_fault.new.err) (code_of c.report_fault.result)
    (kind_of c.args.error.now) c.as_str.result.now no_help c.report_fault.ensures.right

pub returns-clause-right : goal.returns-clause-right
returns-clause-right g c =
    let help : IsNoHelp (kind_of c.args.error.now) → ⊥ = search rules in
    help_shown (passed g.O.Sink.contents g.O.Sink.failed c.args.out.now c.show_help.new.out)
    (passed g.E.Sink.contents g.E.Sink.failed c.args.err.now c.show_help.new.err) (code_of c.show_help.result)
    (kind_of c.args.error.now) c.as_str-else-use_stderr.result.now help c.show_help.ensures.right
